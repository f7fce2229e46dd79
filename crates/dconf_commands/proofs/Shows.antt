-- What `show` and `check` decide.
use Rattle.std.proofs.Common.{◌≡◌, ◌∙◌, ℕ, List, Option, Some, None, true, false, refl, sym, ap, subst, is_some}
use Rattle.std.specs.Prelude.{unwrap_or}
use Rattle.gv_model.specs.Ty.{Ty}
use Rattle.gv_model.specs.Ty.Ty.{tuple}
use Rattle.gv_model.specs.Ty.Types.{end}
use Rattle.gv_model.specs.TypeText.{is_type, type_at, type_of_text}
use Rattle.gv_model.specs.TypeFault.{Fault, IsFault}
use Rattle.gv_model.specs.Decode.{decode}
use Rattle.gv_model.specs.FaultTexts.{type_fault_text}
use Rattle.dconf_folders.specs.declared.folder.Folder.{Ghosts}
use Rattle.dconf_model.specs.Commands.Command.{show}
use Rattle.dconf_model.specs.Databases.{IsVerdict, Verdict}
use Rattle.dconf_model.specs.Outcomes.{Checks, IsOutcome, Outcome, Refused, WithFile, WithType, check_output, shown_outcome}
use Rattle.dconf_model.specs.Reads.{Input, ReadResults}
use Rattle.dconf_model.specs.Reads.FileRead.{holds}
use Rattle.dconf_streams.specs.Answers.{Answered, GivesOutcome, RefusesFor}
use Rattle.dconf_streams.specs.Readings.{Decides, HasRead, Nothing, one_read}
use Rattle.dconf_streams.proofs.Decisions.{answers_also, decides_also, decides_at_once, decides_by_file, decides_without_file}

-- ---- the type

false_true : false ≡ true → ⊥
false_true e = cc

found_type : (w : List ℕ) → is_type w ≡ true → type_of_text w ≡ Some (type_at w)
found_type w h = go (type_of_text w) h
  where
    go : (o : Option Ty) → is_some o ≡ true → o ≡ Some (unwrap_or o (tuple end))
    go None e = absurd (false_true e)
    go (Some t) e = refl

-- the type of a text that was checked
pub checked_type : (w asked : List ℕ) → w ≡ asked → is_type w ≡ true → type_of_text asked ≡ Some (type_at w)
checked_type w asked same checked = ap type_of_text (sym same) ∙ found_type w checked

pub no_type : (w : List ℕ) → (is_type w ≡ true → false ≡ true) → type_of_text w ≡ None
no_type w none_found = go (type_of_text w) refl
  where
    go : (o : Option Ty) → type_of_text w ≡ o → o ≡ None
    go None e = refl
    go (Some t) e = absurd (false_true (none_found (ap is_some e)))

-- ---- `show`

module _ {F : Type 0} (ghosts : Ghosts F) (text name : List ℕ) (answer : Answered) (input : Input) where
  abbrev Shows : F → F → Type 0
  Shows old new = Decides ghosts old new 0 (λ reads. IsOutcome (show text name) reads input) answer

  pub shows_no_type : (folder : F) (f : Fault) → type_of_text text ≡ None → IsFault text f → RefusesFor answer (type_fault_text f) → Shows folder folder
  shows_no_type folder f none is refuses =
      decides_at_once ghosts folder 0 answer (λ reads. IsOutcome (show text name) reads input)
      (λ reads. answers_also answer (Refused (type_fault_text f)) (IsOutcome (show text name) reads input)
      (λ o r. subst (λ u. WithType text u (λ t. WithFile reads 0 name (λ bytes p. p ≡ shown_outcome (decode t bytes))) o) (sym none)
      (f, is, r)) refuses)

  with_type : (t : Ty) → type_of_text text ≡ Some t → (reads : ReadResults) (o : Outcome) → WithFile reads 0 name (λ bytes p. p ≡ shown_outcome (decode t bytes)) o
      → IsOutcome (show text name) reads input o
  with_type t typed reads o h = subst (λ u. WithType text u (λ v. WithFile reads 0 name (λ bytes p. p ≡ shown_outcome (decode v bytes))) o) (sym typed) h

  pub shows_file : (old new : F) (t : Ty) (bytes : List ℕ) → type_of_text text ≡ Some t → HasRead ghosts old new (one_read name (holds bytes))
      → GivesOutcome answer (λ o. o ≡ shown_outcome (decode t bytes)) → Shows old new
  shows_file old new t bytes typed h is =
      decides_also ghosts old new 0 answer (λ reads. WithFile reads 0 name (λ bytes p. p ≡ shown_outcome (decode t bytes))) (λ reads. IsOutcome (show text name) reads input)
      (with_type t typed) (decides_by_file ghosts old new 0 name bytes answer (λ bytes p. p ≡ shown_outcome (decode t bytes)) h is)

  pub shows_no_file : (old new : F) (t : Ty) → type_of_text text ≡ Some t → Decides ghosts old new 0 (λ reads. WithFile reads 0 name Nothing) answer
      → Shows old new
  shows_no_file old new t typed d =
      decides_also ghosts old new 0 answer (λ reads. WithFile reads 0 name (λ bytes p. p ≡ shown_outcome (decode t bytes))) (λ reads. IsOutcome (show text name) reads input)
      (with_type t typed) (decides_without_file ghosts old new 0 name answer (λ bytes p. p ≡ shown_outcome (decode t bytes)) d)

-- ---- `check`

pub checks_as : (bytes : List ℕ) (answer : Answered) (v : Verdict) → IsVerdict bytes v → GivesOutcome answer (λ o. o ≡ check_output v) → GivesOutcome answer (Checks bytes)
checks_as bytes answer v is h = answers_also answer (λ o. o ≡ check_output v) (Checks bytes) (λ o e. (v, is, e)) h
