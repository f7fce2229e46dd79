use Rattle.std.proofs.Common.{◌≡◌, ◌++◌, false, List, refl, sym, ap, subst, length, arith, rules, string_bytes}
use Rattle.std.proofs.lemmas.Result.{err_from_is_err_and}
use Rattle.std.proofs.lemmas.Slice.Eq.{bytes_eq-Decides}
use Rattle.gv_model.specs.Ty.{Ty, types_from}
use Rattle.gv_model.specs.Ty.Ty.{basic}
use Rattle.gv_model.specs.Tree.{default, defaults}
use Rattle.gv_model.specs.Printed.{comma}
use Rattle.gv_types.specs.Classes.{basic_of}
use Rattle.gv_types.specs.Members.{members_left}
use Rattle.gv_text.specs.Defaults.{defaults_left, AreLeft}
use Rattle.gv_text.proofs.RestLaws.{fault_in_rest, one_less, types_first}
use Rattle.gv_text.proofs.DefaultTexts.{basic_fault, basic_writes}
use Rattle.gv_text.proofs.printing.default.push_basics.Goals as goal

pub loop-of-preserved : goal.loop-of-preserved
loop-of-preserved c =
    let k = basic_of c.in-Some.of in
    let now = string_bytes c.loop-of.to in
    let new = string_bytes c.push_basic_after.new.to in
    let mark : c.args.mark.now ≡ comma = search (rules, bytes_eq-Decides c.args.mark.now comma) in
    let plain : c.args.annotated ≡ false = c.if-annotated.false in
    let next = types_first (basic k) (members_left c.next_basic.new.self) (members_left c.loop-of.members) c.in-Some.ensures.taken in
    let fewer = ap length c.in-Some.ensures.taken in (
      one_less c.args.mark.now (defaults_left c.args.members.now) (defaults_left c.loop-of.members) (defaults_left c.next_basic.new.self) (default (basic k)) c.args.levels c.args.annotated (string_bytes c.args.to.now)
          now (now ++ c.args.mark.now) new next c.loop-of.invariant.0 refl (rw (mark, plain) (basic_writes (basic k) k c.args.levels false false (now ++ comma) new refl (omega (arith, c.if-levels-eq0.false)) c.in_ok-push_basic_after.ensures)),
      omega (arith, fewer, c.loop-of.invariant.1),
    )

pub returns-in_err-push_basic_after-clause-written : goal.returns-in_err-push_basic_after-clause-written
returns-in_err-push_basic_after-clause-written c =
    let k = basic_of c.in-Some.of in
    let next = types_first (basic k) (members_left c.next_basic.new.self) (members_left c.loop-of.members) c.in-Some.ensures.taken in
    let e = err_from_is_err_and c.from_residual.result c.from_residual.ensures.1 in
    rw (e.1, e.2) (fault_in_rest c.args.mark.now (defaults_left c.args.members.now) (defaults_left c.loop-of.members) (defaults_left c.next_basic.new.self) (default (basic k)) c.args.levels c.args.annotated (string_bytes c.args.to.now) (string_bytes c.loop-of.to)
    c.in_err-push_basic_after.field-0.0 next c.loop-of.invariant.0 (basic_fault (basic k) k c.args.levels c.in_err-push_basic_after.field-0.0 refl c.in_err-push_basic_after.ensures))

pub returns-clause-written : goal.returns-clause-written
returns-clause-written c =
    subst (λ (us : List Ty). AreLeft c.args.mark.now (defaults_left c.args.members.now) (defaults (types_from us)) c.args.levels c.args.annotated (string_bytes c.args.to.now) (string_bytes c.loop-of.to)) (sym c.in_default.ensures.left) c.loop-of.invariant.0
