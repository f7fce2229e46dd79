-- Laws of runs.
use Rattle.std.specs.Prelude.{◌≡◌, ◌⊎◌, ℕ, List, length, Option, Some, None, refl}
use Rattle.std.proofs.Common.{inl, inr, subst, sym, ap, ◌∙◌}
use Rattle.dconf_model.specs.Folders.{Event, MayLeave, MayHaveLeft, read_content}
use Rattle.dconf_model.specs.Replacing.{MayReplace, new_name}
use Rattle.dconf_model.specs.Commands.{Command}
use Rattle.dconf_model.specs.Reads.{ReadResults, Input, steady}
use Rattle.dconf_model.specs.Outcomes.{Output, Outcome, Replacement, IsOutcome}
use Rattle.dconf_model.specs.Runs.{RanCalmly, ReadsAll, RunEnding, Did, AnswersIn, EndsCalmly, CalmRuns, RunsAreCrashSafe, IsCrashSafe, MayMake, IsNewName, output_of}
use Rattle.dconf_model.specs.Runs.RunEnding.{as_meant, device}
use Rattle.dconf_model.proofs.FolderLaws.{unchanged}
use Rattle.dconf_model.proofs.SameBytes.{same_or_not}

steady_reads : (old : List Event) (reads : ReadResults) → ReadsAll old reads → reads ≡ steady (read_content old)
steady_reads old reads all = λ i n name. all n name i

calm_from : (command : Command) (input : Input) (reads : ReadResults) (old new : List Event) (output : Output) → reads ≡ steady (read_content old) →
    (answers : AnswersIn command input reads old new output) → EndsCalmly answers → RanCalmly command input old new output
calm_from command input reads old new output same (inl p) calm = inl (record {
  outcome = p.0.outcome;
  is = subst (λ r. IsOutcome command r input p.0.outcome) same p.0.is;
  did = subst (λ e. Did p.0.outcome.change e old new) calm p.1;
  output_is = p.0.output_is ∙ ap (output_of p.0.outcome) calm;
})
calm_from command input reads old new output same (inr m) calm = inr m

pub calm_runs : CalmRuns
calm_runs command input old new output r all calm = calm_from command input r.reads old new output (steady_reads old r.reads all) r.answers calm

-- ---- crashes

module _ (command : Command) (input : Input) (reads : ReadResults) (o : Outcome) (is : IsOutcome command reads input o) where
  abbrev Safe : List Event → List ℕ → Option (List ℕ) → Type 0
  Safe old name c = MayLeave old name c ⊎ (((bytes : List ℕ) × MayMake command input reads name bytes × (c ≡ Some bytes)) ⊎ IsNewName command input reads name)

  replaced_safe : (r : Replacement) → o.change ≡ Some r → (old new : List Event) → MayReplace old new r.name r.bytes →
      (name : List ℕ) (c : Option (List ℕ)) → MayHaveLeft new (length old) name c → Safe old name c
  replaced_safe r change old new may name c h = elim (same_or_not name r.name) [
    | inl own ↦ elim (may.own c (subst (λ n. MayHaveLeft new (length old) n c) own h)) [
      | inl before ↦ inl (subst (λ n. MayLeave old n c) (sym own) before)
      | inr made ↦ inr (inl (r.bytes, subst (λ n. MayMake command input reads n r.bytes) (sym own) (o, is, change), made))
    ]
    | inr other ↦ elim (same_or_not name (new_name r.name)) [
      | inl fresh ↦ inr (inr (r.name, r.bytes, (o, is, change), fresh))
      | inr apart ↦ inl (may.others name c other apart h)
    ]
  ]

  safe : (change : Option Replacement) → o.change ≡ change → (e : RunEnding) (old new : List Event) → Did change e old new →
      (name : List ℕ) (c : Option (List ℕ)) → MayHaveLeft new (length old) name c → Safe old name c
  safe None change as_meant old new did name c h = inl (unchanged old new name c did h)
  safe None change device old new did name c h = absurd did
  safe (Some r) change as_meant old new did name c h = replaced_safe r change old new did.any_moment name c h
  safe (Some r) change device old new did name c h = replaced_safe r change old new did.any_moment name c h

pub runs_are_crash_safe : RunsAreCrashSafe
runs_are_crash_safe command input old new output r = from r.answers
  where
    from : AnswersIn command input r.reads old new output → IsCrashSafe command input r.reads old new
    from (inl p) name c h = safe command input r.reads p.0.outcome p.0.is p.0.outcome.change refl p.0.ending old new p.1 name c h
    from (inr m) name c h = inl (unchanged old new name c m.1 h)
