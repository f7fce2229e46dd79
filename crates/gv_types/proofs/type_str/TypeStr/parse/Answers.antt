use Rattle.std.proofs.Common.{sym, arith, rules}
use Rattle.gv_types.proofs.Whole.{read_whole, no_type, too_long, no_empty_type, no_type_goes_on, no_type_stops, trails}
use Rattle.std.proofs.lemmas.Bool.{eqb-true}
use Rattle.gv_types.proofs.type_str.TypeStr.parse.Goals as goal

pub returns-then-text-gt-MAX_LEN-clause-accepts : goal.returns-then-text-gt-MAX_LEN-clause-accepts
returns-then-text-gt-MAX_LEN-clause-accepts c = no_type c.args.text.now (too_long c.args.text.now c.if-text-gt-MAX_LEN.true)

pub returns-then-is_empty-clause-accepts : goal.returns-then-is_empty-clause-accepts
returns-then-is_empty-clause-accepts c = no_type c.args.text.now (no_empty_type c.args.text.now (eqb-true _ _ (sym c.if-is_empty.ensures)))

pub of_checked-requires : goal.of_checked-requires
of_checked-requires c =
    let e = rw c.as_bytes.ensures.value at c.in-Ok-empty.ensures in
    read_whole c.args.text.now c.in-Ok-empty.field-0.now e c.in-Ok-empty.len_below (omega (arith, c.if-text-gt-MAX_LEN.false))

pub returns-in-Ok-clause-accepts : goal.returns-in-Ok-clause-accepts
returns-in-Ok-clause-accepts c =
    let e = rw c.as_bytes.ensures.value at c.in-Ok.ensures in
    no_type c.args.text.now (no_type_goes_on c.args.text.now c.in-Ok.rest.now e c.in-Ok.len_at_least)

pub returns-in-Ok-clause-fault : goal.returns-in-Ok-clause-fault
returns-in-Ok-clause-fault c =
    let e = rw c.as_bytes.ensures.value at c.in-Ok.ensures in
    trails c.args.text.now c.in-Ok.rest.now e c.in-Ok.len_at_least (omega (arith, c.if-text-gt-MAX_LEN.false))

pub returns-in-Err-clause-accepts : goal.returns-in-Err-clause-accepts
returns-in-Err-clause-accepts c =
    let e = rw c.as_bytes.ensures.value at c.in-Err.ensures in
    no_type c.args.text.now (no_type_stops c.args.text.now c.in-Err.stop.rest.now c.in-Err.stop.halt e)

pub returns-then-text-gt-MAX_LEN-clause-fault : goal.returns-then-text-gt-MAX_LEN-clause-fault
returns-then-text-gt-MAX_LEN-clause-fault c = search rules
