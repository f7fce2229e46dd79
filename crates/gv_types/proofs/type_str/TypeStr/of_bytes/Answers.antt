use Rattle.std.proofs.Common.{sym, arith, eqb-true, Some, ap, ◌∙◌}
use Rattle.gv_model.specs.TypeText.{type_at}
use Rattle.std.proofs.lemmas.Bool.Decides.{nat_tests}
use Rattle.gv_types.proofs.Whole.{no_type_read, no_type_goes_on, no_type_stops, read_whole, too_long, whole_is_utf8, whole_type}
use Rattle.gv_types.proofs.type_str.TypeStr.of_bytes.Goals as goal

pub returns-then-bytes-gt-MAX_LEN : goal.returns-then-bytes-gt-MAX_LEN
returns-then-bytes-gt-MAX_LEN c = no_type_read c.args.bytes.now (too_long c.args.bytes.now c.if-bytes-gt-MAX_LEN.true)

pub returns-in_default : goal.returns-in_default
returns-in_default c = no_type_read c.args.bytes.now (no_type_stops c.args.bytes.now c.in_default.field-0.rest.now c.in_default.field-0.halt c.in_default.ensures)

pub returns-then-not-is_empty : goal.returns-then-not-is_empty
returns-then-not-is_empty c = no_type_read c.args.bytes.now (no_type_goes_on c.args.bytes.now c.in-Ok.rest.now c.in-Ok.ensures (grind (arith, nat_tests, c.if-not-is_empty.ensures)))

pub from_utf8_unchecked-text-requires : goal.from_utf8_unchecked-text-requires
from_utf8_unchecked-text-requires c =
    let none = eqb-true _ _ (sym c.if-not-is_empty.ensures) in
    whole_is_utf8 c.args.bytes.now c.in-Ok.rest.now c.in-Ok.ensures (omega (arith, none))

pub of_checked-requires : goal.of_checked-requires
of_checked-requires c =
    let none = eqb-true _ _ (sym c.if-not-is_empty.ensures) in
    rw c.from_utf8_unchecked-text.ensures (read_whole c.args.bytes.now c.in-Ok.rest.now c.in-Ok.ensures (omega (arith, none)) (omega (arith, c.if-bytes-gt-MAX_LEN.false)))

pub returns : goal.returns
returns c =
    let none = eqb-true _ _ (sym c.if-not-is_empty.ensures) in
    ap (λ v. Some (type_at v)) (c.of_checked.ensures ∙ c.from_utf8_unchecked-text.ensures) ∙ whole_type c.args.bytes.now c.in-Ok.rest.now c.in-Ok.ensures (omega (arith, none)) (omega (arith, c.if-bytes-gt-MAX_LEN.false))
