use Rattle.std.proofs.Common.{ℕ, ◌<◌, ◌≤◌, ◌≡◌, true, length, Result, Ok, Err, OnOk, IfOk, IfErr, subst, inl, inr}
use Rattle.std.specs.Prelude.{◌⊎◌}
use Rattle.refused.specs.declared.Refused.{Refused}
use Rattle.refused.specs.declared.Refused.TheVariants.{Fault, Memory}
use Rattle.gv_model.specs.Printed.{is_too_large}
use Rattle.gv_model.specs.Encode.{encode}
use Rattle.gv_view.specs.declared.owned.TooLarge.{TooLarge}
use Rattle.gv_view.specs.Views.{value}
use Rattle.gv_build.specs.Faults.{limit, IsOverLimit, IsUnbuildable}
use Rattle.gv_build.proofs.Outcomes.{stops_for}
use Rattle.gv_build.proofs.build.normal_form.Goals as goal

-- too long is one of two reasons
too_long : {A : Type 0} (r : Result A (Refused TooLarge)) (why : Type 0) (n : ℕ) → IfErr r (IsOverLimit n) → IfErr r (IsUnbuildable (why ⊎ (limit < n)))
too_long (Ok x) why n h = tt
too_long (Err (Fault f)) why n h = inr h
too_long (Err Memory) why n h = tt

pub returns-in_err-tree-clause-fault : goal.returns-in_err-tree-clause-fault
returns-in_err-tree-clause-fault c = stops_for c.from_residual.result _ (is_too_large (value c.args.view) ≡ true) _ (λ h. inl h) c.in_err-tree.ensures.fault c.from_residual.ensures.1

pub returns-clause-bytes : goal.returns-clause-bytes
returns-clause-bytes c = subst (λ t. IfOk c.serialise.result (λ v. v.items ≡ encode t)) c.in_ok-tree.ensures.tree c.serialise.ensures.bytes

pub returns-clause-fits : goal.returns-clause-fits
returns-clause-fits c = subst (λ t. OnOk c.serialise.result (length (encode t) ≤ limit)) c.in_ok-tree.ensures.tree c.serialise.ensures.fits

pub returns-clause-fault : goal.returns-clause-fault
returns-clause-fault c = too_long c.serialise.result _ _ (subst (λ t. IfErr c.serialise.result (IsOverLimit (length (encode t)))) c.in_ok-tree.ensures.tree c.serialise.ensures.fault)
