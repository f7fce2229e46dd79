use Rattle.std.proofs.Common.{length, ap, ◌∙◌}
use Rattle.std.specs.Prelude.{option_map}
use Rattle.gv_model.specs.Layout.{fixed_size}
use Rattle.gv_model.specs.Ty.{Ty}
use Rattle.gv_types.specs.TypeStr.{ty}
use Rattle.gv_types.specs.Members.{members_left}
use Rattle.gv_layout.specs.Places.{child_of, clamp, end_by}
use Rattle.gv_layout.proofs.MemberLaws.{none_next, unplaced_next, unknown_next, out_next, known_next, end_by-member_end, counted}
use Rattle.gv_layout.proofs.tuple.ByMembers.split_first.Goals as goal

pub returns-in_err-member : goal.returns-in_err-member
returns-in_err-member c =
    let self = c.args.self in
    rw c.from_residual.ensures (none_next (length self.bytes.now) self.body self.width self.used self.bytes.now self.previous (members_left self.members) c.in_err-member.ensures.steps.0)

pub returns-in_default : goal.returns-in_default
returns-in_default c =
    let self = c.args.self in
    unplaced_next (length self.bytes.now) self.body self.width self.used self.bytes.now self.previous (ty c.in_ok-member.member)
    (members_left c.next.new.self) (members_left self.members) (child_of c.nowhere-nowhere.result) c.in_ok-member.ensures.steps c.in_default.is c.nowhere-nowhere.ensures

pub returns-in_default-end : goal.returns-in_default-end
returns-in_default-end c =
    let self = c.args.self in
    let n = length self.bytes.now in
    let xs = members_left c.next.new.self in
    unknown_next n self.body self.width self.used c.in-Some.previous c.begin-from.result self.bytes.now self.previous (ty c.in_ok-member.member)
    xs (members_left self.members) (child_of c.nowhere-nowhere.result) c.in_ok-member.ensures.steps c.in-Some.is
    c.begin-from.ensures
    (c.in_default-end.ensures.end
    ∙ (ap (λ o. option_map (clamp n) (end_by self.width self.bytes.now self.used c.begin-from.result o c.is_empty-is_last.result)) c.sized-size.ensures.size
    ∙ ap (option_map (clamp n)) (end_by-member_end c.is_empty-is_last.result xs c.is_empty-is_last.ensures
    self.width self.used c.begin-from.result self.bytes.now (fixed_size (ty c.in_ok-member.member)))))
    c.nowhere-nowhere.ensures

pub returns-in_default-in_order : goal.returns-in_default-in_order
returns-in_default-in_order c =
    let self = c.args.self in
    let n = length self.bytes.now in
    let t = ty c.in_ok-member.member in
    let xs = members_left c.next.new.self in
    out_next n self.body self.width self.used c.in-Some.previous c.begin-from.result c.in-Some-end.to self.bytes.now self.previous t
    xs (members_left self.members) (child_of c.nowhere-nowhere.result) self.inside c.in_ok-member.ensures.steps c.in-Some.is
    c.begin-from.ensures
    (c.in-Some-end.ensures.end
    ∙ (ap (λ o. option_map (clamp n) (end_by self.width self.bytes.now self.used c.begin-from.result o c.is_empty-is_last.result)) c.sized-size.ensures.size
    ∙ ap (option_map (clamp n)) (end_by-member_end c.is_empty-is_last.result xs c.is_empty-is_last.ensures
    self.width self.used c.begin-from.result self.bytes.now (fixed_size t))))
    c.in_default-in_order.ensures.order c.nowhere-nowhere.ensures

pub returns : goal.returns
returns c =
    let self = c.args.self in
    let n = length self.bytes.now in
    let t = ty c.in_ok-member.member in
    let xs = members_left c.next.new.self in
    known_next n self.body self.width self.used c.in-Some-end.used c.in-Some.previous c.begin-from.result c.in-Some-end.to self.bytes.now self.previous t
    xs (members_left self.members) (child_of c.in-Some-in_order.place) self.inside c.in_ok-member.ensures.steps c.in-Some.is
    c.begin-from.ensures
    (c.in-Some-end.ensures.end
    ∙ (ap (λ o. option_map (clamp n) (end_by self.width self.bytes.now self.used c.begin-from.result o c.is_empty-is_last.result)) c.sized-size.ensures.size
    ∙ ap (option_map (clamp n)) (end_by-member_end c.is_empty-is_last.result xs c.is_empty-is_last.ensures
    self.width self.used c.begin-from.result self.bytes.now (fixed_size t))))
    (counted c.is_empty-is_last.result xs self.used c.in-Some-end.used c.sized-size.result.1 (fixed_size t)
    c.is_empty-is_last.ensures c.sized-size.ensures.size c.in-Some-end.ensures.used)
    c.in-Some-in_order.ensures.order
    (c.in-Some-in_order.ensures.place ∙ ap (λ (u : Ty). record { type = u; from = c.begin-from.result; to = c.in-Some-end.to }) c.sized-size.ensures.same)
