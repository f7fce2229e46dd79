use Rattle.std.proofs.Common.{rules, ◌∙◌, subst, ℕ, ◌≡◌, ◌≢◌, ◌<◌, ◌+◌, ◌-◌, ◌%◌, arith}
use Rattle.std.specs.Result.{IfErr}
use Rattle.gvdb_maps.specs.Limits.{IsPast}
use Rattle.std.proofs.lemmas.Grind.{common_steps}
use Rattle.gv_model.specs.Layout.{round_up}
use Rattle.gvdb_maps.proofs.layout.Cursor.align.Goals as goal

rounded_whole : (to at : ℕ) → 0 < to → at % to ≡ 0 → at ≡ round_up to at
unfolding round_up
rounded_whole to at some whole = grind (arith, common_steps)

rounded_past : (to at : ℕ) → 0 < to → at % to ≢ 0 → at + (to - at % to) ≡ round_up to at
unfolding round_up
rounded_past to at some past = grind (arith, common_steps)

pub returns-in_err-lay-clause-fault : goal.returns-in_err-lay-clause-fault
returns-in_err-lay-clause-fault c =
    subst (λ n. IfErr c.from_residual.result (IsPast n)) (rounded_past c.args.to c.args.self.now.at c.requires c.if-past-ne0.true) (search rules)

pub returns-in_ok-lay-clause-at : goal.returns-in_ok-lay-clause-at
returns-in_ok-lay-clause-at c = c.in_ok-lay.ensures.at ∙ rounded_past c.args.to c.args.self.now.at c.requires c.if-past-ne0.true

pub returns-else-past-ne0-clause-at : goal.returns-else-past-ne0-clause-at
returns-else-past-ne0-clause-at c = rounded_whole c.args.to c.args.self.now.at c.requires c.if-past-ne0.false
