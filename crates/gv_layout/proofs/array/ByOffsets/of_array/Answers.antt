use Rattle.std.proofs.Common.{length, drop, ◌-◌, ap, ◌∙◌, arith}
use Rattle.std.proofs.lemmas.List.{length-take, length-drop, take_rest}
use Rattle.gv_model.specs.Arrays.{offset_spans, numbers_in}
use Rattle.gv_types.specs.TypeStr.{ty}
use Rattle.gv_layout.proofs.Widths.{width_is}
use Rattle.gv_layout.proofs.Cuts.{framed_array, no_array}
use Rattle.gv_layout.proofs.array.ByOffsets.of_array.Goals.{else-width-gt0-via-then-width-gt0+then-begin-len+else-len-begin-eq0, else-width-gt0-via-then-width-gt0+else-begin-len, else-width-gt0-via-else-width-gt0}
use Rattle.gv_layout.proofs.array.ByOffsets.of_array.Goals as goal

pub overflow_sub-len : goal.overflow_sub-len
overflow_sub-len c = (width_is (length c.args.bytes.now) c.from-width.result c.offset_width.result c.from-width.ensures c.offset_width.ensures).within

pub number-begin-requires : goal.number-begin-requires
number-begin-requires c =
    let width = width_is (length c.args.bytes.now) c.from-width.result c.offset_width.result c.from-width.ensures c.offset_width.ensures in
    omega (arith, width.narrow, width.within, length-take (length c.args.bytes.now - (length c.args.bytes.now - c.from-width.result)) (drop (length c.args.bytes.now - c.from-width.result) c.args.bytes.now))

pub invariant_of-result : goal.invariant_of-result
invariant_of-result c =
    let b = c.args.bytes.now in
    let width = width_is (length b) c.from-width.result c.offset_width.result c.from-width.ensures c.offset_width.ensures in
    record {
      aligned = c.alignment-aligned_to.ensures;
      narrow = width.narrow;
      inside = c.if-begin-len.true;
      whole = ap length (take_rest b c.number-begin.result) ∙ (length-drop c.number-begin.result b ∙ omega (arith, c.if-width-gt0.true, c.if-len-begin-eq0.true));
      small = omega arith;
    }

pub returns-then-len-begin-eq0 : goal.returns-then-len-begin-eq0
returns-then-len-begin-eq0 c =
    let b = c.args.bytes.now in
    let width = width_is (length b) c.from-width.result c.offset_width.result c.from-width.ensures c.offset_width.ensures in
    framed_array (ty c.args.element) b c.from-width.result c.number-begin.result (c.from-width.ensures ∙ c.offset_width.ensures)
    c.number-begin.ensures c.if-width-gt0.true width.within c.if-begin-len.true c.if-len-begin-eq0.true

pub invariant_of-result-2 : goal.invariant_of-result-2
invariant_of-result-2 c =
    let width = width_is (length c.args.bytes.now) c.from-width.result c.offset_width.result c.from-width.ensures c.offset_width.ensures in
    record { aligned = c.alignment-aligned_to.ensures; narrow = width.narrow; inside = omega arith; whole = omega arith; small = omega arith }

pub returns : goal.returns
unfolding offset_spans numbers_in
returns c =
    let b = c.args.bytes.now in
    let width = width_is (length b) c.from-width.result c.offset_width.result c.from-width.ensures c.offset_width.ensures in
    no_array (ty c.args.element) b c.from-width.result c.number-begin.result (c.from-width.ensures ∙ c.offset_width.ensures) c.number-begin.ensures width.some
    (λ pos within whole.
    elim c.else-width-gt0.branch [
      | else-width-gt0-via-then-width-gt0+then-begin-len+else-len-begin-eq0 w ↦ w.if-len-begin-eq0.false whole
      | else-width-gt0-via-then-width-gt0+else-begin-len w ↦ omega (arith, w.if-begin-len.false)
      | else-width-gt0-via-else-width-gt0 w ↦ omega (arith, w.if-width-gt0.false)
    ])
