use Rattle.std.proofs.Common.{ap, ◌∙◌, arith}
use Rattle.gv_types.specs.TypeStr.{ty}
use Rattle.gv_model.specs.Layout.{round_up}
use Rattle.gv_model.proofs.LayoutLaws.{alignment_pos}
use Rattle.gv_layout.specs.Places.{child_of, clamp}
use Rattle.gv_layout.proofs.Lists.{one_less}
use Rattle.gv_layout.proofs.Elements.{by_offsets-none, by_offsets-unplaced, by_offsets-out, by_offsets-next}
use Rattle.gv_layout.proofs.array.ByOffsets.split_first.Goals as goal

pub returns-in_err-left : goal.returns-in_err-left
returns-in_err-left c =
    let self = c.args.self in
    rw c.from_residual.ensures (by_offsets-none (ty self.element) self.len self.body self.width self.left self.previous self.offsets.now (omega (arith, c.in_err-left.ensures)))

pub aligned-from-requires-clause-some : goal.aligned-from-requires-clause-some
aligned-from-requires-clause-some c = omega (arith, c.args.self.aligned, alignment_pos (ty c.args.self.element))

pub returns-in_default : goal.returns-in_default
returns-in_default c =
    let self = c.args.self in
    by_offsets-unplaced (ty self.element) self.len self.body self.width self.left c.in_ok-left.left self.previous
    self.offsets.now c.split_at.result.1.now (child_of c.nowhere-nowhere.result) c.in_ok-left.ensures c.in_default.is
    c.split_at.ensures.back c.nowhere-nowhere.ensures

pub returns-in_default-in_order : goal.returns-in_default-in_order
returns-in_default-in_order c =
    let self = c.args.self in
    by_offsets-out (ty self.element) self.len self.body self.width self.left c.in_ok-left.left c.in-Some.previous c.aligned-from.result c.number-end.result self.previous
    self.offsets.now c.split_at.result.0.now c.split_at.result.1.now (child_of c.nowhere-nowhere.result) self.inside c.in_ok-left.ensures c.in-Some.is
    (c.aligned-from.ensures ∙ ap (λ a. clamp self.len (round_up a c.in-Some.previous)) self.aligned)
    c.number-end.ensures c.split_at.ensures.front c.split_at.ensures.back
    c.in_default-in_order.ensures.order c.nowhere-nowhere.ensures

pub returns : goal.returns
returns c =
    let self = c.args.self in
    by_offsets-next (ty self.element) self.len self.body self.width self.left c.in_ok-left.left c.in-Some.previous c.aligned-from.result c.number-end.result self.previous
    self.offsets.now c.split_at.result.0.now c.split_at.result.1.now (child_of c.in-Some-in_order.place) self.inside c.in_ok-left.ensures c.in-Some.is
    (c.aligned-from.ensures ∙ ap (λ a. clamp self.len (round_up a c.in-Some.previous)) self.aligned)
    c.number-end.ensures c.split_at.ensures.front c.split_at.ensures.back
    c.in-Some-in_order.ensures.order c.in-Some-in_order.ensures.place

pub invariant_of-unplaced-in_default-in_order : goal.invariant_of-unplaced-in_default-in_order
invariant_of-unplaced-in_default-in_order c =
    let self = c.args.self in
    record {
      aligned = self.aligned;
      narrow = self.narrow;
      whole = omega (arith, c.split_at.ensures.back_len, self.whole, one_less self.width self.left c.in_ok-left.left c.in_ok-left.ensures.0 c.in_ok-left.ensures.1);
      inside = self.inside;
      small = self.small;
    }

pub invariant_of-after : goal.invariant_of-after
invariant_of-after c =
    let self = c.args.self in
    record {
      aligned = self.aligned;
      narrow = self.narrow;
      whole = omega (arith, c.split_at.ensures.back_len, self.whole, one_less self.width self.left c.in_ok-left.left c.in_ok-left.ensures.0 c.in_ok-left.ensures.1);
      inside = self.inside;
      small = self.small;
    }
