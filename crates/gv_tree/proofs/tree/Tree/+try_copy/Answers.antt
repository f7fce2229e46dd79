use Rattle.std.proofs.Common.{rules, ◌≡◌, ◌∙◌, sym, ap, ap₂}
use Rattle.std.proofs.lemmas.List.{take_all}
use Rattle.std.specs.Prelude.{string_bytes}
use Rattle.gv_model.specs.TypeText.{type_at}
use Rattle.gv_model.specs.Tree.Tree.{node}
use Rattle.gv_tree.specs.Nodes.{trees_of, tree_of}
use Rattle.gv_tree.proofs.KeptLaws.{kept_copy}
use Rattle.gv_tree.proofs.tree.Tree.+try_copy.Goals as goal
use Rattle.gv_tree.proofs.tree.Tree.+try_copy.Goals.{in-Basic+in_ok-try_copy-in-Basic, in-Container+in_ok-text-in-Container+in_ok-copies-in-Container+else-loop-child-test}

pub invariant_of-result : goal.invariant_of-result
invariant_of-result t c =
    kept_copy c.self.inside c.match-self.node c.self.invariant
    (elim c.match-self.branch [
      | in-Basic+in_ok-try_copy-in-Basic w ↦ search rules
      | in-Container+in_ok-text-in-Container+in_ok-copies-in-Container+else-loop-child-test w ↦
          let text : string_bytes w.in_ok-text-in-Container.text ≡ string_bytes w.in-Container.text = search rules in
          let children : w.loop-child.copies.items ≡ w.in-Container.children.items = w.loop-child.invariant ∙ take_all _ _ w.loop-child-test.false ∙ w.deref-child-items.ensures.value in
          ap tree_of w.node-is ∙ ap₂ node (ap type_at text) (ap trees_of children) ∙ ap tree_of (sym w.in-Container.is)
    ])
    (elim c.match-self.branch [
      | in-Basic+in_ok-try_copy-in-Basic w ↦ search rules
      | in-Container+in_ok-text-in-Container+in_ok-copies-in-Container+else-loop-child-test w ↦ search rules
    ])
