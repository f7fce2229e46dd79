use Rattle.std.proofs.Common.{ℕ, List, Option, Some, None, ◌<◌, length, refl, sym, subst}
use Rattle.std.specs.Prelude.{IfNone, IsSome}
use Rattle.gvdb_format.specs.Tables.{region}
use Rattle.gvdb_check.proofs.BackwardSteps.{begins}
use Rattle.gvdb_check.proofs.backwards.Backwards.of.Goals as goal

some_if : {X : Type 0} (o : Option X) (P : Type 0) → IfNone o (P → ⊥) → P → IsSome o
some_if None P none p = absurd (none p)
some_if (Some x) P none p = refl

pub unwrap-link-requires : goal.unwrap-link-requires
unwrap-link-requires c = some_if _ _ c.link_at.ensures.none (record { counted = c.requires.counted; key_inside = (c.requires.named c.args.i c.requires.counted).inside })

pub returns-clause-left : goal.returns-clause-left
returns-clause-left c =
    let some = rw c.unwrap-link.ensures at c.link_at.ensures.some in
    begins (region c.args.table) c.args.i c.unwrap-link.result.parent c.unwrap-link.result.key.now c.requires.named c.requires.counted some.1 some.2

pub returns-clause-some : goal.returns-clause-some
returns-clause-some c =
    let some = rw c.unwrap-link.ensures at c.link_at.ensures.some in
    subst (λ (k : List ℕ). 0 < length k) (sym some.2) (c.requires.named c.args.i c.requires.counted).some
