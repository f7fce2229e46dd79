use Rattle.std.proofs.Common.{length, Some, None, sym, ap, ◌∙◌, eqb-true}
use Rattle.gv_model.specs.TypeText.{type_at}
use Rattle.gv_model.specs.Arrays.{element_spans, elements_end}
use Rattle.gv_model.specs.Children.{children_at, ordered}
use Rattle.gv_types.specs.TypeStr.{ty}
use Rattle.gv_layout.proofs.Cuts.{no_children, array_class, maybe_class, cut_array, cut_elements, cut_maybe, cut_members, no_elements}
use Rattle.gv_layout.proofs.walk.Walk.new.Goals as goal

pub returns-in-Basic : goal.returns-in-Basic
returns-in-Basic c = c.none.ensures ∙ no_children (ty c.args.of) c.args.bytes.now c.class.result c.class.ensures c.in-Basic.is c.requires

pub returns-then-is_empty : goal.returns-then-is_empty
returns-then-is_empty c =
    let of = array_class ty (ty c.args.of) c.class.result c.element.result c.unwrap-element.result c.class.ensures c.in-Array.is c.element.ensures c.unwrap-element.ensures in
    c.none-then-is_empty.ensures ∙ no_elements (ty c.args.of) (ty c.unwrap-element.result) c.args.bytes.now of (eqb-true _ _ (sym c.if-is_empty.ensures))

pub returns-in-Some : goal.returns-in-Some
returns-in-Some c =
    let of = array_class ty (ty c.args.of) c.class.result c.element.result c.unwrap-element.result c.class.ensures c.in-Array.is c.element.ensures c.unwrap-element.ensures in
    c.of_array.ensures ∙ cut_array (ty c.args.of) (ty c.unwrap-element.result) c.args.bytes.now c.in-Some.size of (sym c.in-Some.is ∙ c.fixed_size.ensures)

pub returns-in-None : goal.returns-in-None
returns-in-None c =
    let of = array_class ty (ty c.args.of) c.class.result c.element.result c.unwrap-element.result c.class.ensures c.in-Array.is c.element.ensures c.unwrap-element.ensures in
    let n = length c.args.bytes.now in
    c.of_array-in-None.ensures
    ∙ (ap (λ t. children_at n (ordered (Some (elements_end c.args.bytes.now None)) (element_spans t c.args.bytes.now None))) (ap type_at (c.as_read.ensures.text ∙ c.as_open.ensures.text))
    ∙ cut_elements (ty c.args.of) (ty c.unwrap-element.result) c.args.bytes.now of (sym c.in-None.is ∙ c.fixed_size.ensures))

pub returns-in-Maybe : goal.returns-in-Maybe
returns-in-Maybe c =
    let of = maybe_class ty (ty c.args.of) c.class.result c.element-in-Maybe.result c.unwrap.result c.class.ensures c.in-Maybe.is c.element-in-Maybe.ensures c.unwrap.ensures in
    c.of_maybe.ensures ∙ cut_maybe (ty c.args.of) (ty c.unwrap.result) c.args.bytes.now of

pub returns-in-Tuple : goal.returns-in-Tuple
returns-in-Tuple c =
    c.of_tuple.ensures ∙ cut_members (ty c.args.of) c.args.bytes.now c.class.result c.class.ensures c.in-Tuple.is
