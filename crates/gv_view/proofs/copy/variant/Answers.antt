use Rattle.std.proofs.Common.{◌≡◌, ap, subst, arith, length}
use Rattle.std.specs.Prelude.{IfOk}
use Rattle.std.proofs.lemmas.Result.{MatchResult-weaker}
use Rattle.gv_view.proofs.Copies.{variant_made, variant_child, popped, IsPopped}
use Rattle.gv_view.proofs.copy.variant.Goals as goal

pub unwrap-requires : goal.unwrap-requires
unwrap-requires c = c.pop.ensures.variant.1 (omega (arith, c.args.child.ok.0, ap length (variant_child c.args.view c.args.child.items c.requires).are))

pub returns-clause-tree : goal.returns-clause-tree
returns-clause-tree c =
    let child = subst (IsPopped c.args.child.items) c.unwrap.ensures (popped c.args.child.len c.args.child.items c.pop.result c.args.child.ok.0 c.pop.ensures.value) in
    let made = variant_made c.args.view c.args.child.items c.unwrap.result c.requires child in
    subst (λ v. IfOk c.variant.result (λ t. t ≡ v)) made.is c.variant.ensures.made

pub returns-clause-fault : goal.returns-clause-fault
returns-clause-fault c =
    let child = subst (IsPopped c.args.child.items) c.unwrap.ensures (popped c.args.child.len c.args.child.items c.pop.result c.args.child.ok.0 c.pop.ensures.value) in
    let made = variant_made c.args.view c.args.child.items c.unwrap.result c.requires child in
    MatchResult-weaker c.variant.result c.variant.ensures.fault (λ t h. tt) made.memory
