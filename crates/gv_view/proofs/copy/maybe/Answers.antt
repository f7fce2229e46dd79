use Rattle.std.proofs.Common.{◌≡◌, subst, arith}
use Rattle.std.specs.Prelude.{IfOk}
use Rattle.std.proofs.lemmas.Result.{MatchResult-weaker}
use Rattle.gv_types.specs.TypeStr.{ty}
use Rattle.gv_view.proofs.Copies.{maybe_made, element_type, popped}
use Rattle.gv_view.proofs.copy.maybe.Goals as goal

pub returns-clause-tree : goal.returns-clause-tree
returns-clause-tree c =
    let element = element_type c.args.view c.type_str.result c.unwrap.result c.element.result c.type_str.ensures c.element.ensures c.unwrap.ensures in
    let child = popped c.args.child.len c.args.child.items c.pop.result c.args.child.ok.0 c.pop.ensures.value in
    let made = maybe_made c.args.view c.args.child.items (ty c.unwrap.result) c.pop.result c.requires element child (λ s. omega (arith, c.pop.ensures.variant.0 s, c.args.child.ok.0)) in
    subst (λ v. IfOk c.maybe.result (λ t. t ≡ v)) made.is c.maybe.ensures.made

pub returns-clause-fault : goal.returns-clause-fault
returns-clause-fault c =
    let element = element_type c.args.view c.type_str.result c.unwrap.result c.element.result c.type_str.ensures c.element.ensures c.unwrap.ensures in
    let child = popped c.args.child.len c.args.child.items c.pop.result c.args.child.ok.0 c.pop.ensures.value in
    let made = maybe_made c.args.view c.args.child.items (ty c.unwrap.result) c.pop.result c.requires element child (λ s. omega (arith, c.pop.ensures.variant.0 s, c.args.child.ok.0)) in
    MatchResult-weaker c.maybe.result c.maybe.ensures.fault (λ t h. tt) made.memory
