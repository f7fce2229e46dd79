use Rattle.std.proofs.Common.{string_bytes}
use Rattle.std.proofs.lemmas.Result.{err_from_is_err_and}
use Rattle.gv_model.specs.Tree.{default}
use Rattle.gv_types.specs.TypeStr.{ty}
use Rattle.gv_types.specs.Members.{members_left}
use Rattle.gv_text.specs.Defaults.{defaults_left}
use Rattle.gv_text.proofs.RestLaws.{all_written, fault_in_rest, fault_left, no_levels, one_less, then_left, types_first, types_none}
use Rattle.gv_text.proofs.printing.default.push_rest.Goals as goal

pub loop-member-init : goal.loop-member-init
loop-member-init c = c.in_ok-push_basics.ensures.written

pub returns-then-levels-eq0 : goal.returns-then-levels-eq0
returns-then-levels-eq0 c =
    no_levels c.args.mark.now (defaults_left c.args.members) (defaults_left c.loop-member.left) (defaults_left c.next.new.self) (default (ty c.in-Some.member)) c.args.levels c.args.annotated (string_bytes c.args.to.now) (string_bytes c.loop-member.to)
    c.if-levels-eq0.true (types_first (ty c.in-Some.member) (members_left c.next.new.self) (members_left c.loop-member.left) c.in-Some.ensures.steps) c.loop-member.invariant

pub returns-in_err-push_default : goal.returns-in_err-push_default
returns-in_err-push_default c =
    let e = err_from_is_err_and c.from_residual-in_err-push_default.result c.from_residual-in_err-push_default.ensures.1 in
    rw (e.1, e.2) (fault_in_rest c.args.mark.now (defaults_left c.args.members) (defaults_left c.loop-member.left) (defaults_left c.next.new.self) (default (ty c.in-Some.member)) c.args.levels c.args.annotated (string_bytes c.args.to.now) (string_bytes c.loop-member.to)
    c.in_err-push_default.field-0.0 (types_first (ty c.in-Some.member) (members_left c.next.new.self) (members_left c.loop-member.left) c.in-Some.ensures.steps) c.loop-member.invariant c.in_err-push_default.ensures)

pub loop-member-preserved : goal.loop-member-preserved
loop-member-preserved c =
    then_left c.args.mark.now (defaults_left c.args.members) (defaults_left c.next.new.self) (defaults_left c.push_basics-in-Some.new.members) c.args.levels c.args.annotated (string_bytes c.args.to.now) (string_bytes c.push_default.new.to) (string_bytes c.push_basics-in-Some.new.to)
    (one_less c.args.mark.now (defaults_left c.args.members) (defaults_left c.loop-member.left) (defaults_left c.next.new.self) (default (ty c.in-Some.member)) c.args.levels c.args.annotated (string_bytes c.args.to.now) (string_bytes c.loop-member.to) (string_bytes c.push_str.new.self) (string_bytes c.push_default.new.to)
    (types_first (ty c.in-Some.member) (members_left c.next.new.self) (members_left c.loop-member.left) c.in-Some.ensures.steps) c.loop-member.invariant c.in_ok-push_str.ensures.bytes c.in_ok-push_default.ensures)
    c.in_ok-push_basics-2.ensures.written

pub returns-in_err-push_basics-2 : goal.returns-in_err-push_basics-2
returns-in_err-push_basics-2 c =
    let e = err_from_is_err_and c.from_residual-in_err-push_basics-2.result c.from_residual-in_err-push_basics-2.ensures.1 in
    let one = one_less c.args.mark.now (defaults_left c.args.members) (defaults_left c.loop-member.left) (defaults_left c.next.new.self) (default (ty c.in-Some.member)) c.args.levels c.args.annotated (string_bytes c.args.to.now) (string_bytes c.loop-member.to) (string_bytes c.push_str.new.self) (string_bytes c.push_default.new.to)
    (types_first (ty c.in-Some.member) (members_left c.next.new.self) (members_left c.loop-member.left) c.in-Some.ensures.steps) c.loop-member.invariant c.in_ok-push_str.ensures.bytes c.in_ok-push_default.ensures in
    rw (e.1, e.2) (fault_left c.args.mark.now (defaults_left c.args.members) (defaults_left c.next.new.self) c.args.levels c.args.annotated (string_bytes c.args.to.now) (string_bytes c.push_default.new.to) c.in_err-push_basics-2.field-0.0 one c.in_err-push_basics-2.ensures.written)

pub returns : goal.returns
returns c =
    all_written c.args.mark.now (defaults_left c.args.members) (defaults_left c.loop-member.left) c.args.levels c.args.annotated (string_bytes c.args.to.now) (string_bytes c.loop-member.to)
    (types_none (members_left c.loop-member.left) c.in_default.ensures.steps.0) c.loop-member.invariant
