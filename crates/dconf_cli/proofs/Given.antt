-- How an answer comes about.
use Rattle.std.proofs.Common.{◌≡◌, ◌∷◌, ◌++◌, inl, inr, ℕ, List, [], Option, Some, Ok, Err, refl, ap, subst, arith}
use Rattle.refused.specs.declared.Refused.TheVariants.{Fault, Memory}
use Rattle.dconf_model.specs.Folders.{Event}
use Rattle.dconf_model.specs.FaultTexts.{device_text}
use Rattle.dconf_model.specs.Replacing.{Replaced, MaybeReplaced}
use Rattle.dconf_model.specs.Outcomes.{Outcome, Output, changing, done, done_output, refused_output}
use Rattle.dconf_streams.specs.declared.counted.Counted.{Counted}
use Rattle.dconf_streams.specs.Answers.{Answered, Refusal, line_of, outcome_of}
use Rattle.dconf_cli.specs.Outputs.{Leaves, PrintsLine, PrintsText}
use Rattle.dconf_cli.specs.Endings.{Ends}
use Rattle.dconf_folders.specs.Failures.{IsOneMore}
use Rattle.dconf_cli.proofs.StreamsLeft.{leaves_line, leaves_text}
use Rattle.std.specs.Prelude.{OnOk, codes, string_bytes}
use Rattle.dconf_folders.specs.declared.folder.Folder.{Ghosts}

module _ {F O E : Type 0} (ghosts : Ghosts F) (contents : O → Option (List ℕ)) (err_contents : E → Option (List ℕ)) where
  -- the outcome was given: an output came about, and was left on out and err
  abbrev pub Gives : F → F → Counted O → Counted O → Counted E → Counted E → Option Outcome → ℕ → Type 0
  Gives old new out_old out_new err_old err_new o status =
      (output : Output) × Ends ghosts old new o output × Leaves contents err_contents out_old out_new err_old err_new output status

  abbrev Wrote : Counted E → Counted E → List ℕ → Type 0
  Wrote err_old err_new line = PrintsLine err_contents err_old err_new line

  pub gives_text : (folder : F) (out_old out_new : Counted O) (err : Counted E) (text bytes : List ℕ) (status : ℕ) → bytes ≡ text
      → PrintsText contents out_old out_new bytes status → Gives folder folder out_old out_new err err (Some (done text)) status
  gives_text folder out_old out_new err text bytes status same h =
      (done_output text, (refl, refl), leaves_text contents err_contents out_old out_new err text status (subst (λ t. PrintsText contents out_old out_new t status) same h))

  -- a refusal was given by its line
  pub gives_refusal : (folder : F) (out : Counted O) (err_old err_new : Counted E) (refusal : Refusal) (status : ℕ) → status ≡ 1
      → Wrote err_old err_new (line_of refusal) → Gives folder folder out out err_old err_new (outcome_of (Err refusal)) status
  gives_refusal folder out err_old err_new (Fault line) status is h = (
    record { out = []; err = string_bytes line; status = 1 },
    (refl, refl),
    leaves_line contents err_contents out err_old err_new (string_bytes line) status is h,
  )
  gives_refusal folder out err_old err_new Memory status is h =
      (refused_output (codes "Memory"), (refl, refl), leaves_line contents err_contents out err_old err_new (line_of Memory) status is h)

  -- of a file that was to change
  module _ (old new : F) (name bytes text : List ℕ) where
    pub gives_no_memory_for_change : new ≡ old → (out : Counted O) (err_old err_new : Counted E) (status : ℕ) → status ≡ 1
        → Wrote err_old err_new (codes "error: Memory" ++ 10 ∷ []) → Gives old new out out err_old err_new (Some (changing name bytes text)) status
    gives_no_memory_for_change same out err_old err_new status is h = (
      refused_output (codes "Memory"),
      inr (inr (refl, same)),
      leaves_line contents err_contents out err_old err_new (codes "error: Memory" ++ 10 ∷ []) status is h,
    )

    pub gives_change : (called held : List ℕ) → called ≡ name → held ≡ bytes → ghosts.failed new ≡ ghosts.failed old
        → ((es : List Event) → ghosts.past old es → (now : List Event) × ghosts.past new now × Replaced es now called held)
        → (out_old out_new : Counted O) (err : Counted E) (put : List ℕ) (status : ℕ) → put ≡ text → PrintsText contents out_old out_new put status
        → Gives old new out_old out_new err err (Some (changing name bytes text)) status
    gives_change called held named whole same replaced out_old out_new err put status is h = (
      done_output text,
      inl (refl, same, λ es p. let r = replaced es p in (r.0, r.1, subst (λ n. Replaced es r.0 n bytes) named (subst (λ b. Replaced es r.0 called b) whole r.2))),
      leaves_text contents err_contents out_old out_new err text status (subst (λ t. PrintsText contents out_old out_new t status) is h),
    )

    pub gives_device : (called held : List ℕ) → called ≡ name → held ≡ bytes → IsOneMore (ghosts.failed old) (ghosts.failed new)
        → ((es : List Event) → ghosts.past old es → (now : List Event) × ghosts.past new now × MaybeReplaced es now called held)
        → (out : Counted O) (err_old err_new : Counted E) (put : List ℕ) (status : ℕ) → put ≡ codes "error: Device " ++ (name ++ 10 ∷ []) → status ≡ 1
        → Wrote err_old err_new put → Gives old new out out err_old err_new (Some (changing name bytes text)) status
    gives_device called held named whole rose maybe out err_old err_new put status is one h = (
      refused_output (device_text name),
      inr (inl (refl, rose, λ es p. let r = maybe es p in (r.0, r.1, subst (λ n. MaybeReplaced es r.0 n bytes) named (subst (λ b. MaybeReplaced es r.0 called b) whole r.2)))),
      leaves_line contents err_contents out err_old err_new (codes "error: Device " ++ (name ++ 10 ∷ [])) status one (subst (λ t. Wrote err_old err_new t) is h),
    )

-- status 0 is that of an answer that is done
pub zero_is_done : {F : Type 0} (ghosts : Ghosts F) (old new : F) (answer : Answered) (output : Output) (Is : Type 0)
    → Ends ghosts old new (outcome_of answer) output → output.status ≡ 0 → OnOk answer Is → Is
zero_is_done ghosts old new (Ok answer) output Is e zero is = is
zero_is_done ghosts old new (Err (Fault line)) output Is e zero is = let one = ap (λ (o : Output). o.status) e.0 in absurd (omega arith)
zero_is_done ghosts old new (Err Memory) output Is e zero is = let one = ap (λ (o : Output). o.status) e.0 in absurd (omega arith)
