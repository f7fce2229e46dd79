use Rattle.std.proofs.Common.{◌≡◌, ◌<◌, ℕ, arith, subst, sym, ◌∙◌, ap}
use Rattle.std.specs.Prelude.{◌%◌}
use Rattle.dconf_model.specs.Table.{item, item_count}
use Rattle.dconf_model.specs.Searchable.{IsOnlyNamed}
use Rattle.gvdb_check.specs.Flags.{IsFlagged}
use Rattle.gvdb_format.specs.Tables.{region}
use Rattle.gvdb_check.proofs.Below.{below_next}
use Rattle.gvdb_check.proofs.NameChecks.{only_of_hash}
use Rattle.gvdb_check.proofs.once_by_hash.part_is_once.Goals as goal
use Rattle.gvdb_check.proofs.once_by_hash.part_is_once.Goals.{else-is_set-via-then-is_set+else-not-is_only_named, else-is_set-via-else-is_set}

pub loop-i-preserved : goal.loop-i-preserved
loop-i-preserved c =
    let t = region c.args.table in
    let part = c.args.part in
    let parts = c.args.parts in
    let i = c.loop-i.i in
    let before = c.loop-i.invariant in
    let set = c.is_set.ensures in
    let counted : i < item_count t = omega (arith, c.loop-i-test.true, c.n_items-i-end.ensures) in
    record {
      some = omega (arith, set.len, before.some);
      flagged = below_next (λ k. IsFlagged _ part parts (item t k).hash) i (λ k lt. set.kept (item t k).hash (before.flagged k lt)) (subst (IsFlagged _ part parts) c.hash_at.ensures set.itself);
      only = below_next (λ k. (item t k).hash % parts ≡ part → IsOnlyNamed t k) i before.only (λ in_part. elim c.else-is_set.branch [
        | else-is_set-via-then-is_set+else-not-is_only_named w ↦ w.is_only_named.ensures.0 w.if-not-is_only_named.false
        | else-is_set-via-else-is_set w ↦
            only_of_hash t i c.requires.keys c.requires.chain c.requires.hash c.requires.span counted (λ j lower _ same.
            set.first w.if-is_set.false (ap (λ (x : ℕ). x % parts) c.hash_at.ensures ∙ in_part)
            (subst (IsFlagged _ part parts) (same ∙ sym c.hash_at.ensures) (before.flagged j lower)))
      ]);
    }

pub returns : goal.returns
returns c = λ _ i counted in_part. c.loop-i.invariant.only i (omega (arith, counted, c.loop-i-test.false, c.n_items-i-end.ensures)) in_part
