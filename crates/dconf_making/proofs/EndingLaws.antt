-- What holds of what a program has of a change.
use Rattle.std.specs.Prelude.{ℕ, ◌≡◌, Bool, true, false, List, Option, refl, if◌then◌else◌, ◌==◌}
use Rattle.std.proofs.Common.{sym, ◌∙◌, subst}
use Rattle.dconf_model.specs.Folders.{IsSettled}
use Rattle.dconf_turn.specs.declared.step.Outcome.TheVariants.{Made, Kept, Either, Unsettled, Same, Unsynced}
use Rattle.dconf_making.specs.declared.ending.Newest.TheVariants.{Newer, Old, Tried}
use Rattle.dconf_making.specs.declared.ending.Told.TheVariants as told
use Rattle.dconf_making.specs.Endings.{EndingsAreSo}

never : (b c : Bool) → (if b then told.BadWrite else if c then told.Already else told.First) ≡ told.Nothing → ⊥
never true c e = cc
never false true e = cc
never false false e = cc

pub endings_are_so : EndingsAreSo
endings_are_so keeps before aside Made job old now apart says = record {
  newest = says.read;
  done = λ _. subst (λ (c : Option (List ℕ)). IsSettled now job.name c) (sym says.read) says.settled;
  settled = λ _. refl;
  owed = λ _ _. refl;
  kept = λ _. refl;
}
endings_are_so keeps before aside (Kept fault) job old now apart says = record {
  newest = says.read job.name apart;
  done = λ e. absurd (never (fault == 0) (fault == 4294967294) e);
  settled = λ e. absurd (never (fault == 0) (fault == 4294967294) e);
  owed = λ was is_not. absurd (let bad : true ≡ false = sym was ∙ is_not in cc);
  kept = λ e. absurd (let bad : Old ≡ Newer = e in cc);
}
endings_are_so keeps before aside (Either fault) job old now apart says = record {
  newest = says.read;
  done = λ e. absurd (let bad : told.Either ≡ told.Nothing = e in cc);
  settled = λ e. absurd (let bad : told.Either ≡ told.Nothing = e in cc);
  owed = λ was e. absurd (let bad : true ≡ false = e in cc);
  kept = λ e. absurd (let bad : Tried ≡ Newer = e in cc);
}
endings_are_so keeps before aside (Unsettled fault) job old now apart says = record {
  newest = says.read;
  done = λ e. absurd (let bad : told.Unsettled ≡ told.Nothing = e in cc);
  settled = λ e. absurd (let bad : told.Unsettled ≡ told.Nothing = e in cc);
  owed = λ was e. absurd (let bad : true ≡ false = e in cc);
  kept = λ _. refl;
}
endings_are_so keeps before aside Same job old now apart says = record {
  newest = says.kept.read job.name apart;
  done = λ _. subst (λ (c : Option (List ℕ)). IsSettled now job.name c) (sym (says.kept.read job.name apart)) says.settled;
  settled = λ _. refl;
  owed = λ _ _. refl;
  kept = λ e. absurd (let bad : Old ≡ Newer = e in cc);
}
endings_are_so keeps before aside (Unsynced fault) job old now apart says = record {
  newest = says.read job.name apart;
  done = λ e. absurd (let bad : told.Unsynced ≡ told.Nothing = e in cc);
  settled = λ e. absurd (let bad : told.Unsynced ≡ told.Nothing = e in cc);
  owed = λ was e. absurd (let bad : true ≡ false = e in cc);
  kept = λ e. absurd (let bad : Old ≡ Newer = e in cc);
}
