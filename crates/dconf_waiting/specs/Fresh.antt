-- How new what is seen is, where nobody watches the files.
use Rattle.std.specs.Prelude.{ℕ, ◌≡◌, ◌+◌, ◌≤◌, ◌<◌, Bool, true, false, not, ◌&&◌, ◌||◌, if◌then◌else◌, ◌==◌, nat_le}
use Rattle.dconf_waiting.specs.declared.fresh.Looker.{Looker}
use Rattle.dconf_waiting.specs.declared.fresh.Looker.TheVariants.{Reads, Failed, Tells}
use Rattle.dconf_waiting.specs.Patiences.{later_by}

abbrev pub numbered : ℕ → Looker
numbered number = if number == 0 then Reads else if number == 1 then Failed else Tells

-- the store was opened first, or could not be: then it may be by now; and its owner is at work
abbrev pub may_look : Bool → Bool → Bool
may_look has_opened is_at_work = has_opened && is_at_work

-- who reads doesn't look each time, and never where the files are watched
abbrev pub is_due : Looker → Bool → ℕ → ℕ → Bool
is_due Reads is_watched due now = not is_watched && nat_le due now
is_due Failed is_watched due now = true
is_due Tells is_watched due now = true

-- ten milliseconds; after a look that failed, a second; and who tells waits a fifth of a second
abbrev pub span : Looker → ℕ
span Reads = 10000
span Failed = 1000000
span Tells = 200000

-- when the next one is due, if this one is made; or 0
abbrev pub next_look : Looker → Bool → ℕ → ℕ → Bool → ℕ
next_look looker is_watched due now may = if not may || not (is_due looker is_watched due now) then 0 else later_by now (span looker)

-- ---- the law

pub record IsNewEnough (due now : ℕ) : Type 0 where
  -- who reads, and doesn't look, reads what was looked at less than ten milliseconds ago
  pub rests : (last : ℕ) → due ≤ last + 10000 → next_look Reads false due now true ≡ 0 → now < last + 10000
  -- before that moment nobody looks who reads; and where whoever watches looks, nobody else does but who tells
  pub early : now < due → next_look Reads false due now true ≡ 0
  pub spared : next_look Reads true due now true ≡ 0
  -- the moment is no later than that
  pub soon : next_look Reads false due now true ≤ now + 10000
  pub after : (is_watched : Bool) → next_look Failed is_watched due now true ≤ now + 1000000
  pub told : (is_watched : Bool) → next_look Tells is_watched due now true ≤ now + 200000

abbrev pub NoReadIsTooOld : Type 0
NoReadIsTooOld = (due now : ℕ) → IsNewEnough due now
