use Rattle.std.proofs.Common.{◌≡◌, Some, sym, ap, ap₂, ◌∙◌, arith}
use Rattle.gv_model.specs.Layout.{alignment, round_up}
use Rattle.gv_model.specs.TypeText.{type_at}
use Rattle.gv_model.proofs.LayoutLaws.{alignment_pos}
use Rattle.dconfdb_values.specs.OpenArrays.{end_before, ends_of, spans_of}
use Rattle.dconfdb_values.proofs.OrderLaws.{end_within, is_past, is_within, no_more, one_more, span_at}
use Rattle.dconfdb_values.proofs.open_array.OpenArray.place.Goals.{else-from-to-via-then-from-to+else-to-self, else-from-to-via-else-from-to}
use Rattle.dconfdb_values.proofs.open_array.OpenArray.place.Goals as goal

pub round_up-from-requires : goal.round_up-from-requires
round_up-from-requires c =
    let a = c.args.self in
    let within = end_within (type_at a.element.now) a.body 0 (ends_of a) c.args.k (omega arith) c.requires.order in
    record { aligned = omega (arith, a.aligned, alignment_pos (type_at a.element.now)); fits = omega (arith, within, c.end_before.ensures, a.small, c.ranges.self) }

pub returns-then-to-self-clause-some : goal.returns-then-to-self-clause-some
returns-then-to-self-clause-some c =
    let a = c.args.self in
    let k = c.args.k in
    let from : round_up (alignment (type_at a.element.now)) (end_before 0 (ends_of a) k) ≡ c.round_up-from.result =
    ap₂ round_up (sym a.aligned) (sym c.end_before.ensures) ∙ sym c.round_up-from.ensures.rounded in
    let lies = span_at (type_at a.element.now) 0 (ends_of a) k c.end-to.result c.end-to.ensures ∙ ap (λ x. Some (type_at a.element.now, Some (x, c.end-to.result))) from in
    record {
      lies = lies;
      passed = one_more (Some a.body) (spans_of a) (type_at a.element.now, Some (c.round_up-from.result, c.end-to.result)) k c.requires.order lies
          (is_within a.body c.round_up-from.result c.end-to.result c.if-from-to.true c.if-to-self.true);
      begins = c.if-from-to.true;
      ends = c.if-to-self.true;
    }

pub returns-else-from-to-clause-none : goal.returns-else-from-to-clause-none
returns-else-from-to-clause-none c =
    let a = c.args.self in
    let k = c.args.k in
    let from : round_up (alignment (type_at a.element.now)) (end_before 0 (ends_of a) k) ≡ c.round_up-from.result =
    ap₂ round_up (sym a.aligned) (sym c.end_before.ensures) ∙ sym c.round_up-from.ensures.rounded in
    let lies = span_at (type_at a.element.now) 0 (ends_of a) k c.end-to.result c.end-to.ensures ∙ ap (λ x. Some (type_at a.element.now, Some (x, c.end-to.result))) from in
    let past = is_past a.body c.round_up-from.result c.end-to.result (λ h g.
    elim c.else-from-to.branch [
      | else-from-to-via-then-from-to+else-to-self w ↦ omega (arith, g, w.if-to-self.false)
      | else-from-to-via-else-from-to w ↦ omega (arith, h, w.if-from-to.false)
    ]) in
    let most = no_more (Some a.body) (spans_of a) (type_at a.element.now, Some (c.round_up-from.result, c.end-to.result)) k lies past in
    omega (arith, most, c.requires.order)
