use Rattle.std.proofs.Common.{sym, ap, subst, ◌∙◌, rules}
use Rattle.gv_model.specs.TypeText.{type_at}
use Rattle.gv_model.specs.Tree.{type_of}
use Rattle.gv_tree.specs.Basics.{basic_tree}
use Rattle.gv_tree.specs.Nodes.{tree_of}
use Rattle.gv_tree.specs.Wholes.{IsWhole}
use Rattle.gv_tree.proofs.WholeLaws.{whole_text}
use Rattle.gv_tree.proofs.tree.Tree.type_text.Goals as goal

pub of_checked-requires : goal.of_checked-requires
of_checked-requires c =
    let whole : IsWhole (basic_tree c.in-Basic.value) = subst (λ n. IsWhole (tree_of n)) c.in-Basic.is c.self.invariant.whole in
    rw c.type_text.ensures (whole_text _ whole).checked

pub returns-in-Basic-clause-text : goal.returns-in-Basic-clause-text
returns-in-Basic-clause-text c =
    let whole : IsWhole (basic_tree c.in-Basic.value) = subst (λ n. IsWhole (tree_of n)) c.in-Basic.is c.self.invariant.whole in
    ap type_at (c.of_checked.ensures ∙ c.type_text.ensures) ∙ (whole_text _ whole).type ∙ ap type_of (ap tree_of (sym c.in-Basic.is) ∙ c.self.view_is)

pub of_checked-requires-in-Container : goal.of_checked-requires-in-Container
of_checked-requires-in-Container c = search rules

pub returns-in-Container-clause-text : goal.returns-in-Container-clause-text
returns-in-Container-clause-text c = search rules
