use Rattle.std.proofs.Common.{◌≡◌, ℕ, arith, subst, sym, ◌∙◌, ap, []}
use Rattle.std.specs.Prelude.{◌%◌}
use Rattle.dconf_model.specs.Sound.{listed}
use Rattle.gvdb_check.specs.Counted.{IsNewInPart}
use Rattle.gvdb_check.specs.Flags.{IsFlagged}
use Rattle.gvdb_format.specs.Tables.{region}
use Rattle.gvdb_check.proofs.Below.{below_next}
use Rattle.gvdb_check.proofs.lists_flagged.is_once_in_part.Goals as goal

pub loop-bytes-preserved : goal.loop-bytes-preserved
loop-bytes-preserved c =
    let t = region c.args.table in
    let i = c.args.i in
    let part = c.args.part in
    let parts = c.args.parts in
    let n = c.loop-bytes.bytes-index in
    let before = c.loop-bytes.invariant in
    let set = c.is_set.ensures in
    let is : c.number.result ≡ listed t i n = c.number.ensures ∙ c.numbers-bytes-items.ensures.each n [] c.loop-bytes-test.true in
    record {
      some = omega (arith, set.len, before.some);
      flagged = below_next (λ k. IsFlagged _ part parts (listed t i k)) n (λ k lt. set.kept (listed t i k) (before.flagged k lt)) (subst (IsFlagged _ part parts) is set.itself);
      once = below_next (IsNewInPart t i part parts) n before.once
          (λ in_part k lt same. set.first c.if-is_set.false (ap (λ (x : ℕ). x % parts) is ∙ in_part) (subst (IsFlagged _ part parts) (same ∙ sym is) (before.flagged k lt)));
    }
