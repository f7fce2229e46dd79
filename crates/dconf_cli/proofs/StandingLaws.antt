-- Whether a command has anything to do, by what it decided.
use Rattle.std.proofs.Common.{◌≡◌, ◌⊎◌, ◌∙◌, inl, inr, ℕ, Bool, false, List, Option, Some, None, Result, Ok, Err, refl, sym, ap, subst}
use Rattle.std.specs.Prelude.{IfOk, IfSome, IsTrue}
use Rattle.dconf_folders.specs.declared.folder.Folder.{Ghosts}
use Rattle.dconf_model.specs.Folders.{Event, read_content}
use Rattle.dconf_model.specs.FaultTexts.{device_text}
use Rattle.dconf_model.specs.Commands.{Command}
use Rattle.dconf_model.specs.Made.{Holds, IsDue, IsMade, IsTooLong}
use Rattle.dconf_model.specs.Reads.{Input, IsOverSize, steady}
use Rattle.dconf_model.specs.Outcomes.{IsOutcome, Outcome, Refused, changing, refused}
use Rattle.dconf_streams.specs.Answers.{Answered, outcome_of}
use Rattle.dconf_streams.specs.Readings.{AllRead, Decides, Tells}
use Rattle.dconf_streams.specs.Streams.{NoneFailed}
use Rattle.dconf_cli.proofs.Runs.{gave_steadily}
use Rattle.dconf_cli.proofs.StreamsLeft.{not_rose}

-- what a yes says, and a no
pub yes_says : {E A B : Type 0} (r : Result Bool E) → IfOk r (λ is. IsTrue is → A) → (A → B) → IfOk r (λ is. IsTrue is → B)
yes_says (Ok b) h f = λ t. f (h t)
yes_says (Err e) h f = tt

pub no_says : {E A B : Type 0} (r : Result Bool E) → IfOk r (λ is. is ≡ false → A) → (A → B) → IfOk r (λ is. is ≡ false → B)
no_says (Ok b) h f = λ t. f (h t)
no_says (Err e) h f = tt

not_refused : (file bytes text why : List ℕ) → changing file bytes text ≡ refused why → ⊥
not_refused file bytes text why e = let bad = ap (λ (o : Outcome). o.change) e in cc

module _ {F : Type 0} (ghosts : Ghosts F) (command : Command) (input : Input) (old mid : F) (answer : Answered)
    (d : Decides ghosts old mid 0 (λ reads. IsOutcome command reads input) answer) where
  -- a command that changes a file read all that it asked for
  pub changed_reads : (file bytes text : List ℕ) → outcome_of answer ≡ Some (changing file bytes text)
      → AllRead d.log × (ghosts.failed mid ≡ ghosts.failed old)
  changed_reads file bytes text is = go d.tells
    where
      go : Tells (ghosts.failed old) (ghosts.failed mid) d.log answer → AllRead d.log × (ghosts.failed mid ≡ ghosts.failed old)
      go (inl all) = all
      go (inr broken) =
          absurd (not_refused file bytes text (device_text broken.0) (subst (λ o. IfSome o (Refused (device_text broken.0))) is broken.3))

  -- and so did one of which no call failed
  pub calm_reads : NoneFailed (ghosts.failed old) (ghosts.failed mid) → AllRead d.log
  calm_reads none = go d.tells
    where
      go : Tells (ghosts.failed old) (ghosts.failed mid) d.log answer → AllRead d.log
      go (inl all) = all.0
      go (inr broken) = absurd (not_rose _ _ none broken.2)

  module _ (honest : IsTrue (ghosts.honest mid)) (es : List Event) (es_is : ghosts.past old es) where
    outcome_is : (o : Outcome) → outcome_of answer ≡ Some o → AllRead d.log → IsOutcome command (steady (read_content es)) input o
    outcome_is o is all =
        subst (λ x. IfSome x (λ o. IsOutcome command (steady (read_content es)) input o)) is
        (d.answers (steady (read_content es)) (gave_steadily es d.log 0 (d.known honest es es_is) all))

    -- a command that changes no file is not done
    pub due : (o : Outcome) → outcome_of answer ≡ Some o → o.change ≡ None → AllRead d.log → IsDue command input es
    due o is none all = (o, outcome_is o is all, inl (λ holds. subst (λ c. Holds es c) none holds))

    module _ (file bytes text called held : List ℕ) (is : outcome_of answer ≡ Some (changing file bytes text)) (named : called ≡ file) (whole : held ≡ bytes) where
      made_is : IsOutcome command (steady (read_content es)) input (changing file bytes text)
      made_is = outcome_is (changing file bytes text) is (changed_reads file bytes text is).0

      pub made : read_content es called ≡ Some held → IsMade command input es
      made holds = (
        changing file bytes text,
        made_is,
        sym (ap (λ n. read_content es n) named) ∙ (holds ∙ ap Some whole),
      )

      pub differs : ¬ (read_content es called ≡ Some held) ⊎ IsOverSize (read_content es called) → IsDue command input es
      differs (inl not) = (
        changing file bytes text,
        made_is,
        inl (λ holds. not (ap (λ n. read_content es n) named ∙ (holds ∙ ap Some (sym whole)))),
      )
      differs (inr big) = (changing file bytes text, made_is, inr (subst (λ n. IsOverSize (read_content es n)) named big))
