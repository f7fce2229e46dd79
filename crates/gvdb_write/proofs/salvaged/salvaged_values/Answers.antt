use Rattle.std.proofs.Common.{◌≡◌, ◌+◌, ◌-◌, ℕ, ◌∙◌, ap, sym, subst, arith}
use Rattle.dconf_model.specs.Settings.{Settings}
use Rattle.gvdb_read.specs.Tables.{region}
use Rattle.gvdb_write.proofs.SalvagedSteps.{AreLowestFrom, none_from, one_from, all_lowest, same_locks}
use Rattle.gvdb_write.proofs.salvaged.salvaged_values.Goals as goal

pub loop-i-init : goal.loop-i-init
loop-i-init c = record {
  lowest =
      subst (AreLowestFrom (region c.args.root) c.n_items-i.result) (sym c.new-values.ensures)
      (none_from (region c.args.root) c.n_items-i.result (let n = c.n_items-i.ensures in omega (arith, n)));
  no_locks = ap (λ (s : Settings). s.locks) c.new-values.ensures;
}

pub loop-i-preserved : goal.loop-i-preserved
loop-i-preserved c = record {
  lowest =
      one_from (region c.args.root) (c.loop-i.i - 1) c.loop-i.values c.salvage_value.new.values
      (subst (λ (n : ℕ). AreLowestFrom (region c.args.root) n c.loop-i.values) (let some = c.loop-i-test.true in let e : c.loop-i.i ≡ c.loop-i.i - 1 + 1 = omega (arith, some) in e) c.loop-i.invariant.lowest)
      c.in_ok-salvage_value.ensures.takes;
  no_locks = same_locks c.in_ok-salvage_value.ensures.takes ∙ c.loop-i.invariant.no_locks;
}

pub returns-clause-values : goal.returns-clause-values
returns-clause-values c =
    all_lowest (region c.args.root) c.loop-i.values
    (subst (λ (n : ℕ). AreLowestFrom (region c.args.root) n c.loop-i.values) (let none = c.loop-i-test.false in let e : c.loop-i.i ≡ 0 = omega (arith, none) in e) c.loop-i.invariant.lowest)
