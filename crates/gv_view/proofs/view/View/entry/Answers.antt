use Rattle.std.proofs.Common.{rules, true, false, ◌≡◌, ap, ◌∙◌}
use Rattle.gv_model.specs.Ty.Ty.{array}
use Rattle.gv_view.specs.Views.{view_ty, view_bytes, shown}
use Rattle.gv_view.specs.Children.{children_left}
use Rattle.gv_view.proofs.EntryLemmas.{none_elsewhere, all_of, first_typed, rest_of}
use Rattle.gv_view.proofs.view.View.entry.Goals as goal

pub returns-then-not-is_dictionary-clause-found : goal.returns-then-not-is_dictionary-clause-found
returns-then-not-is_dictionary-clause-found c =
    none_elsewhere (view_ty c.args.self) (view_bytes c.args.self) c.args.key.now
    (λ d. let yes : c.is_dictionary.result ≡ true = c.is_dictionary.ensures.1 d in let other : c.is_dictionary.result ≡ false = c.if-not-is_dictionary.true in cc)

pub loop-entry-init : goal.loop-entry-init
loop-entry-init c =
    all_of (view_ty c.args.self) (view_bytes c.args.self) c.args.key.now (children_left c.into_iter-entry-iterator.result)
    (c.is_dictionary.ensures.0 c.if-not-is_dictionary.false)
    (ap children_left c.into_iter-entry-iterator.ensures.into_iter_gives ∙ c.children-entry-items.ensures)

pub loop-entry-preserved : goal.loop-entry-preserved
loop-entry-preserved c =
    rest_of (view_ty c.args.self) (view_bytes c.args.self) c.args.key.now (children_left c.loop-entry.entry-iterator) (children_left c.next.new.self)
    c.in-Some.entry c.loop-entry.invariant c.in-Some.ensures.steps c.in_default.ensures

pub returns-clause-found : goal.returns-clause-found
returns-clause-found c = search rules

pub returns-clause-at_type : goal.returns-clause-at_type
returns-clause-at_type c = search rules

pub returns-in-Some-value_under-clause-found : goal.returns-in-Some-value_under-clause-found
returns-in-Some-value_under-clause-found c = search rules

pub returns-in-Some-value_under-clause-lends : goal.returns-in-Some-value_under-clause-lends
returns-in-Some-value_under-clause-lends c = search rules

pub returns-in-Some-value_under-clause-at_type : goal.returns-in-Some-value_under-clause-at_type
returns-in-Some-value_under-clause-at_type c =
    first_typed (view_ty c.args.self) (shown c.in-Some.entry) (children_left c.loop-entry.entry-iterator) (children_left c.next.new.self) c.loop-entry.invariant.typed c.in-Some.ensures.steps
    ∙ ap array c.in-Some-value_under.ensures.type
