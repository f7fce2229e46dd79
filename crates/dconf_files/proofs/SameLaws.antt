-- What is said to be the same holds what was read.
use Rattle.std.proofs.Common.{ℕ, ◌≡◌, ◌⊎◌, ◌≤◌, ◌<◌, Bool, true, false, not, ◌||◌, refl, sym, ◌∙◌, inl, inr, ⊎_elim, arith}
use Rattle.std.specs.Prelude.{if◌then◌else◌}
use Rattle.dconf_files.specs.declared.stamp.FileStamp.{FileStamp}
use Rattle.dconf_files.specs.declared.stamp.Sameness.{Sameness}
use Rattle.dconf_files.specs.declared.stamp.Sameness.TheVariants.{Same, Other, Unsure}
use Rattle.dconf_files.specs.Stamps.{is_same_time, is_written_alike, settled_at, is_settled, missing}
use Rattle.dconf_files.specs.Courses.{Course, NotesChanges, Reading, SameHoldsTheSame}

abbrev by : Bool → Bool → Bool → Bool → Bool → Bool → Sameness
by old now alike held touched settled =
    if not old || not now then missing old now else if not alike then Other else if held then Same else if not touched then Other else if settled then Same else Unsure

record AreThere (now touched settled : Bool) : Type 0 where
  now_is : now ≡ true
  touched_is : touched ≡ true
  settled_is : settled ≡ true

-- which way it was said
data Ways (old now alike held touched settled : Bool) : Type 0 where
  none : old ≡ false → now ≡ false → Ways old now alike held touched settled
  kept : held ≡ true → alike ≡ true → Ways old now alike held touched settled
  told : AreThere now touched settled → Ways old now alike held touched settled

of_same : (old now alike held touched settled : Bool) → by old now alike held touched settled ≡ Same → Ways old now alike held touched settled
of_same false false alike held touched settled e = none refl refl
of_same false true alike held touched settled e = cc
of_same true false alike held touched settled e = cc
of_same true true false held touched settled e = cc
of_same true true true true touched settled e = kept refl refl
of_same true true true false false settled e = cc
of_same true true true false true false e = cc
of_same true true true false true true e = told (record { now_is = refl; touched_is = refl; settled_is = refl })

-- a change would have shown
would_show : (c : Course) (old now : FileStamp) (began : ℕ) → is_same_time old.touched now.touched ≡ true → is_settled old.touched (c.clock began) ≡ true
    → c.clock began < settled_at now.touched → ⊥
would_show c old now began same settled shown = grind arith

module _ (c : Course) (notes : NotesChanges c) (it : Reading c) (later : ℕ) (order : it.read ≤ later) where
  abbrev old : FileStamp
  old = c.stamp it.stamped

  abbrev now : FileStamp
  now = c.stamp later

  abbrev Told : Type 0
  Told = AreThere now.is_there (is_same_time old.touched now.touched) (is_settled old.touched (c.clock it.began))

  unchanged : (between : ℕ) → it.began ≤ between → between ≤ later → Told → c.content between ≡ c.content it.began
  unchanged between first last there =
      ⊎_elim (λ same. same) (λ shown. absurd (would_show c old now it.began there.touched_is there.settled_is shown))
      (notes.shows it.began between later first last there.now_is)

  both_there : Told → c.content later ≡ c.content it.read
  both_there there =
      let first : it.began ≤ later = let a = it.in_order in let b = order in omega arith in
      let self : later ≤ later = omega arith in
      unchanged later first self there ∙ sym (unchanged it.read it.in_order order there)

  by_way : Ways old.is_there now.is_there (is_written_alike old now) it.held (is_same_time old.touched now.touched) (is_settled old.touched (c.clock it.began))
      → c.content later ≡ c.content it.read
  by_way (none a b) = notes.missing later b ∙ sym (it.missing a)
  by_way (kept held alike) = it.noted held it.stamped later alike ∙ sym (it.at_once held)
  by_way (told there) = both_there there

pub same_holds : SameHoldsTheSame
same_holds c notes it later order same =
    by_way c notes it later order
    (of_same (c.stamp it.stamped).is_there (c.stamp later).is_there (is_written_alike (c.stamp it.stamped) (c.stamp later)) it.held
    (is_same_time (c.stamp it.stamped).touched (c.stamp later).touched) (is_settled (c.stamp it.stamped).touched (c.clock it.began)) same)
