-- What whoever looks at the files of a store does next.
use Rattle.std.specs.Prelude.{ℕ, ◌≡◌, ◌≢◌, ◌⊎◌, Bool, true, false, not, ◌&&◌, ◌||◌, if◌then◌else◌, ◌==◌, nat_lt}
use Rattle.dconf_rounds.specs.declared.glances.GlanceKnown.{GlanceKnown}
use Rattle.dconf_rounds.specs.declared.glances.Glance.{Glance}
use Rattle.dconf_rounds.specs.declared.glances.Glance.TheVariants.{Refresh, Open, OpenAgain, Hand, Heed, Watch, Settle, Again, Seen, Failed}

-- ---- what is due

-- both profiles are the ones that were read, for sure: what can't be looked at may be another one
abbrev pub are_as_read : GlanceKnown → Bool
are_as_read k = ((k.first == 0) && (k.second == 0)) && not (k.was_unseen || k.is_unseen)

-- it is open, and both are, or count as they were read
abbrev pub refreshes : GlanceKnown → Bool
refreshes k = k.is_open && (k.keeps_profile || are_as_read k)

abbrev pub is_another : ℕ → Bool
is_another sameness = not (sameness == 0) && not (sameness == 2)

-- none is open, or a profile that is looked at is another one for sure
abbrev pub opens : GlanceKnown → Bool
opens k = not k.is_open || (not k.keeps_profile && (is_another k.first || is_another k.second))

abbrev pub begins_with : GlanceKnown → Glance
begins_with k = if refreshes k then Refresh else if opens k then Open else OpenAgain

-- all but a look that succeeded, at the files that it had, and saw what is handed out already
abbrev pub hands : GlanceKnown → Bool
hands k = not (k.is_done && (k.is_shown && refreshes k))

-- own changes wait, and what was there when they were set is another by now
abbrev pub heeds : GlanceKnown → Bool
heeds k = not k.is_first && (k.is_other && k.waits)

-- a store was opened, and its files may be others than those that are watched
abbrev pub watches_anew : GlanceKnown → Bool
watches_anew k = k.is_done && (opens k || (not (refreshes k) && not k.has_same_files))

-- what waits counts as there only by files that were read
abbrev pub settles : GlanceKnown → Bool
settles k = k.is_done && k.is_to_settle

-- ---- what comes next, once the first tasks were done, or were not due

-- while another thread has the turn nobody looks: what that one has seen is the newest, if it changes the files; and else it is over soon, which is waited
-- for for a time, and by who reads not at all
abbrev pub after_barred : ℕ → GlanceKnown → Glance
after_barred done k = if k.is_amid then (if (done == 4) || k.is_shown then Seen else Hand) else if k.is_late || k.is_reading then Failed else Again

abbrev pub glance_after : ℕ → GlanceKnown → Glance
glance_after done k =
    if k.is_barred then after_barred done k else if nat_lt done 1 then begins_with k else if nat_lt done 4 && hands k then Hand else if nat_lt done 5 && heeds k then Heed else
    if nat_lt done 6 && watches_anew k then Watch else if nat_lt done 7 && settles k then Settle else if k.is_done then Seen else Failed

abbrev pub glance_number : Glance → ℕ
glance_number Refresh = 1
glance_number Open = 2
glance_number OpenAgain = 3
glance_number Hand = 4
glance_number Heed = 5
glance_number Watch = 6
glance_number Settle = 7
glance_number Again = 8
glance_number Seen = 9
glance_number Failed = 10

-- ---- the law

abbrev pub is_told : Glance → Bool
is_told Seen = true
is_told Failed = true
is_told _ = false

-- a task that is due, and was not come to
abbrev pub is_wanted : ℕ → GlanceKnown → Bool
is_wanted done k =
    nat_lt done 1 || ((nat_lt done 4 && hands k) || ((nat_lt done 5 && heeds k) || ((nat_lt done 6 && watches_anew k) || (nat_lt done 7 && settles k))))

pub record IsGoodGlance (done : ℕ) (k : GlanceKnown) : Type 0 where
  -- it is over exactly if nothing is due: what others changed while changes waited is heeded
  pub over : k.is_barred ≡ false → is_told (glance_after done k) ≡ not (is_wanted done k)
  -- it has succeeded exactly if the files were read
  pub seen : k.is_barred ≡ false → glance_after done k ≡ Seen → k.is_done ≡ true
  pub failed : k.is_barred ≡ false → glance_after done k ≡ Failed → k.is_done ≡ false
  -- the store is kept only while both profiles are the ones that were read, for sure, or count as they were read
  pub kept : k.is_barred ≡ false → glance_after done k ≡ Refresh → refreshes k ≡ true
  -- and where they do, it is kept, whatever stands there by now
  pub once : k.is_barred ≡ false → k.is_open ≡ true → k.keeps_profile ≡ true → glance_after 0 k ≡ Refresh
  -- and so has what settles what waits
  pub settled : k.is_barred ≡ false → glance_after done k ≡ Settle → k.is_done ≡ true
  -- who has no turn to look hands out what another thread has seen in its own, or asks for the turn again, and does nothing else
  pub handed : k.is_barred ≡ true → is_told (glance_after done k) ≡ false → ((glance_after done k ≡ Hand) × (k.is_shown ≡ false)) ⊎ (glance_after done k ≡ Again)
  -- it succeeds exactly if there is something that was seen so, and fails only once its time is over, or if it reads
  pub shown : k.is_barred ≡ true → glance_after done k ≡ Seen → k.is_amid ≡ true
  pub later : k.is_barred ≡ true → k.is_amid ≡ false → glance_after done k ≡ (if k.is_late || k.is_reading then Failed else Again)
  -- so who reads waits for nobody
  pub read : k.is_reading ≡ true → glance_after done k ≢ Again

abbrev pub NothingNewIsMissed : Type 0
NothingNewIsMissed = (done : ℕ) (k : GlanceKnown) → IsGoodGlance done k
