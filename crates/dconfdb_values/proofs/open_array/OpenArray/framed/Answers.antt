use Rattle.std.proofs.Common.{length, drop, ◌-◌, sym, ap, refl, ◌∙◌, arith}
use Rattle.std.proofs.lemmas.List.{length-take, length-drop, take_rest}
use Rattle.gv_model.specs.BasicValue.{number_in}
use Rattle.gv_model.specs.TypeText.{type_at}
use Rattle.gv_layout.proofs.Widths.{width_is}
use Rattle.dconfdb_values.proofs.OrderLaws.{framed}
use Rattle.dconfdb_values.proofs.open_array.OpenArray.framed.Goals as goal

pub overflow_sub-bytes : goal.overflow_sub-bytes
overflow_sub-bytes c = (width_is (length c.args.bytes.now) c.from-width.result c.offset_width.result c.from-width.ensures c.offset_width.ensures).within

pub number-body-requires : goal.number-body-requires
number-body-requires c =
    let width = width_is (length c.args.bytes.now) c.from-width.result c.offset_width.result c.from-width.ensures c.offset_width.ensures in
    omega (arith, width.narrow, width.within, length-take (length c.args.bytes.now - (length c.args.bytes.now - c.from-width.result)) (drop (length c.args.bytes.now - c.from-width.result) c.args.bytes.now))

pub nonzero_rem-bytes : goal.nonzero_rem-bytes
nonzero_rem-bytes c = (width_is (length c.args.bytes.now) c.from-width.result c.offset_width.result c.from-width.ensures c.offset_width.ensures).some c.requires.some

pub nonzero_div-result : goal.nonzero_div-result
nonzero_div-result c = (width_is (length c.args.bytes.now) c.from-width.result c.offset_width.result c.from-width.ensures c.offset_width.ensures).some c.requires.some

pub invariant_of-result : goal.invariant_of-result
invariant_of-result c =
    let b = c.args.bytes.now in
    let width = width_is (length b) c.from-width.result c.offset_width.result c.from-width.ensures c.offset_width.ensures in
    record {
      spelled = c.requires.spelled;
      aligned = c.requires.aligned;
      narrow = width.narrow;
      whole = ap length (take_rest b c.number-body.result) ∙ (length-drop c.number-body.result b ∙ omega (arith, width.some c.requires.some, c.if-bytes-body-ne0.false));
      small = omega (arith, c.if-body-bytes.false);
    }

pub returns : goal.returns
returns c =
    let b = c.args.bytes.now in
    let wide = c.from-width.ensures ∙ c.offset_width.ensures in
    record {
      type_is = refl;
      body_is = ap (λ w. number_in (drop (length b - w) b)) (sym wide) ∙ (ap number_in (sym (take_rest b (length b - c.from-width.result))) ∙ sym c.number-body.ensures);
      spans_are = framed (type_at c.args.element.now) b c.from-width.result c.number-body.result wide c.number-body.ensures c.requires.some
          (omega (arith, c.if-body-bytes.false)) (omega (arith, c.if-bytes-body-ne0.false));
      within = omega (arith, c.if-body-bytes.false);
    }
