use Rattle.std.proofs.Common.{◌≡◌, subst}
use Rattle.std.specs.Prelude.{IfOk}
use Rattle.std.proofs.lemmas.Result.{MatchResult-weaker}
use Rattle.gv_types.specs.TypeStr.{ty}
use Rattle.gv_view.proofs.Copies.{array_made, element_type}
use Rattle.gv_view.proofs.copy.array.Goals as goal

pub returns-clause-tree : goal.returns-clause-tree
returns-clause-tree c =
    let element = element_type c.args.view c.type_str.result c.unwrap.result c.element.result c.type_str.ensures c.element.ensures c.unwrap.ensures in
    let made = array_made c.args.view c.args.elements.items (ty c.unwrap.result) c.requires element in
    subst (λ v. IfOk c.array.result (λ t. t ≡ v)) made.is c.array.ensures.made

pub returns-clause-fault : goal.returns-clause-fault
returns-clause-fault c =
    let element = element_type c.args.view c.type_str.result c.unwrap.result c.element.result c.type_str.ensures c.element.ensures c.unwrap.ensures in
    let made = array_made c.args.view c.args.elements.items (ty c.unwrap.result) c.requires element in
    MatchResult-weaker c.array.result c.array.ensures.fault (λ t h. tt) made.memory
