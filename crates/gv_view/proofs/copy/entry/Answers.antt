use Rattle.std.proofs.Common.{◌≡◌, sym, ap, ◌∙◌, subst, arith, ◌+◌, ◌-◌, length, Some, take}
use Rattle.std.specs.Option.{option_to_list}
use Rattle.std.proofs.lemmas.Option.{same_Some}
use Rattle.std.proofs.lemmas.Result.{IfOk-weaker, MatchResult-weaker}
use Rattle.gv_tree.specs.Wholes.{entry_tree}
use Rattle.gv_view.specs.Views.{value}
use Rattle.gv_view.proofs.Copies.{entry_made, entry_children, popped, IsPopped}
use Rattle.gv_view.proofs.copy.entry.Goals as goal

pub unwrap-value-requires : goal.unwrap-value-requires
unwrap-value-requires c = c.pop.ensures.variant.1 (omega (arith, c.args.pair.ok.0, ap length (entry_children c.args.view c.args.pair.items c.requires).pair.are))

pub unwrap-key-requires : goal.unwrap-key-requires
unwrap-key-requires c =
    let left = ap (λ o. c.pop.new.self.len + length (option_to_list o)) (sym c.unwrap-value.ensures) ∙ c.pop.ensures.len in
    c.pop-2.ensures.variant.1 (omega (arith, left, c.args.pair.ok.0, ap length (entry_children c.args.view c.args.pair.items c.requires).pair.are))

pub returns-clause-tree : goal.returns-clause-tree
returns-clause-tree c =
    let last = subst (IsPopped c.args.pair.items) c.unwrap-value.ensures (popped c.args.pair.len c.args.pair.items c.pop.result c.args.pair.ok.0 c.pop.ensures.value) in
    let left = c.pop.ensures.rest ∙ ap (λ n. take (n - 1) c.args.pair.items) c.args.pair.ok.0 in
    let key = subst (IsPopped c.pop.new.self.items) c.unwrap-key.ensures (popped c.pop.new.self.len c.pop.new.self.items c.pop-2.result c.pop.new.self.ok.0 c.pop-2.ensures.value) in
    let made = entry_made c.args.view c.args.pair.items c.pop.new.self.items c.unwrap-key.result c.unwrap-value.result c.requires last left key in
    IfOk-weaker c.entry.result (λ t. Some t ≡ entry_tree c.unwrap-key.result c.unwrap-value.result) (λ t. t ≡ value c.args.view)
    (λ t h. same_Some t (value c.args.view) (h ∙ made.0)) c.entry.ensures.made

pub returns-clause-fault : goal.returns-clause-fault
returns-clause-fault c =
    let last = subst (IsPopped c.args.pair.items) c.unwrap-value.ensures (popped c.args.pair.len c.args.pair.items c.pop.result c.args.pair.ok.0 c.pop.ensures.value) in
    let left = c.pop.ensures.rest ∙ ap (λ n. take (n - 1) c.args.pair.items) c.args.pair.ok.0 in
    let key = subst (IsPopped c.pop.new.self.items) c.unwrap-key.ensures (popped c.pop.new.self.len c.pop.new.self.items c.pop-2.result c.pop.new.self.ok.0 c.pop-2.ensures.value) in
    let made = entry_made c.args.view c.args.pair.items c.pop.new.self.items c.unwrap-key.result c.unwrap-value.result c.requires last left key in
    MatchResult-weaker c.entry.result c.entry.ensures.fault (λ t h. tt) made.1
