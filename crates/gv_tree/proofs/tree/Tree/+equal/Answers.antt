use Rattle.std.proofs.Common.{arith, rules, ◌≡◌, ◌<◌, ◌≤◌, length, refl, sym, ap, ap₂, ◌∙◌, subst}
use Rattle.std.specs.Prelude.{string_bytes}
use Rattle.gv_model.specs.TypeText.{type_at}
use Rattle.gv_model.specs.Tree.Tree.{node}
use Rattle.gv_tree.specs.Kept.{KeepsType}
use Rattle.gv_tree.specs.Nodes.{trees_of, tree_of}
use Rattle.gv_tree.proofs.ListLaws.{texts_differ}
use Rattle.gv_tree.proofs.EqualLaws.{same_texts, same_children, same_item, same_to_end}
use Rattle.gv_tree.proofs.tree.Tree.+equal.Goals as goal
use Rattle.gv_tree.proofs.tree.Tree.+equal.Goals.{then-ne-via-then-ne, then-ne-via-else-ne+then-len}

pub returns-then-ne : goal.returns-then-ne
returns-then-ne t c =
    let p = c.in-Container-Container in
    let mine : node (type_at (string_bytes p.text)) (trees_of p.children.items) ≡ c.args.self.now = ap tree_of (sym p.is-0) ∙ c.self.view_is in
    let others : node (type_at (string_bytes p.other_text)) (trees_of p.others.items) ≡ c.args.other.now = ap tree_of (sym p.is-1) ∙ c.other.view_is in
    let typed = subst KeepsType p.is-0 c.self.invariant.text in
    let other_typed = subst KeepsType p.is-1 c.other.invariant.text in (
      λ h. absurd cc,
      λ e. absurd (elim c.then-ne.branch [
        | then-ne-via-then-ne w ↦ texts_differ _ _ (sym w.if-ne.true ∙ c.ne.ensures) (c.as_str.ensures.value ∙ same_texts _ _ _ _ typed other_typed (mine ∙ e ∙ sym others) ∙ sym c.as_str-in-Container-Container.ensures.value)
        | then-ne-via-else-ne+then-len w ↦ w.if-len.true (omega (arith, w.len.ensures, w.len-else-ne.ensures, p.children.ok.0, p.others.ok.0, ap length (same_children _ _ p.children.items p.others.items (mine ∙ e ∙ sym others))))
      ]),
    )

pub returns-then-not-equal : goal.returns-then-not-equal
returns-then-not-equal t c =
    let p = c.in-Container-Container in
    let mine : node (type_at (string_bytes p.text)) (trees_of p.children.items) ≡ c.args.self.now = ap tree_of (sym p.is-0) ∙ c.self.view_is in
    let others : node (type_at (string_bytes p.other_text)) (trees_of p.others.items) ≡ c.args.other.now = ap tree_of (sym p.is-1) ∙ c.other.view_is in
    let within : c.loop-i.i < length p.children.items = omega (arith, c.loop-i-test.true, c.len-i-end.ensures, p.children.ok.0) in (
      λ h. absurd cc,
      λ e.
          let same = same_item p.children.items p.others.items c.loop-i.i _ _ within c.index.ensures c.index-in-loop-i.ensures (same_children _ _ p.children.items p.others.items (mine ∙ e ∙ sym others)) in
          absurd (cc (c.if-not-equal.true, c.equal-in-loop-i.ensures.1 same)),
    )

pub returns-after-loop-i : goal.returns-after-loop-i
returns-after-loop-i t c =
    let p = c.in-Container-Container in
    let mine : node (type_at (string_bytes p.text)) (trees_of p.children.items) ≡ c.args.self.now = ap tree_of (sym p.is-0) ∙ c.self.view_is in
    let others : node (type_at (string_bytes p.other_text)) (trees_of p.others.items) ≡ c.args.other.now = ap tree_of (sym p.is-1) ∙ c.other.view_is in
    let texts : c.as_str.result.now ≡ c.as_str-in-Container-Container.result.now = search rules in
    let reached : length p.children.items ≤ c.loop-i.i = omega (arith, c.loop-i-test.false, c.len-i-end.ensures, p.children.ok.0) in
    let reached_other : length p.others.items ≤ c.loop-i.i = omega (arith, reached, c.if-len.false, c.len.ensures, c.len-else-ne.ensures, p.children.ok.0, p.others.ok.0) in
    let same = same_to_end p.children.items p.others.items c.loop-i.i reached reached_other c.loop-i.invariant in
    (λ h. sym mine ∙ ap₂ node (ap type_at (sym c.as_str.ensures.value ∙ texts ∙ c.as_str-in-Container-Container.ensures.value)) (ap trees_of same) ∙ others, λ e. refl)
