use Rattle.std.proofs.Common.{◌++◌, Some, ap, ◌∙◌, sym, arith}
use Rattle.gv_model.specs.Ty.{spelling}
use Rattle.gv_model.specs.TypeText.{type_at}
use Rattle.gv_types.proofs.PrefixTypes.{halted_prefix, too_long_prefix}
use Rattle.gv_types.proofs.Splits.{prefix_is_utf8, split}
use Rattle.gv_types.proofs.type_str.TypeStr.split_prefix.Goals as goal

pub returns-in_default-clause-found : goal.returns-in_default-clause-found
returns-in_default-clause-found c =
    sym (halted_prefix c.args.bytes.now c.in_default.field-0.rest.now c.in_default.field-0.halt c.in_default.ensures)

pub returns-then-prefix-gt-MAX_LEN-clause-found : goal.returns-then-prefix-gt-MAX_LEN-clause-found
returns-then-prefix-gt-MAX_LEN-clause-found c =
    sym (too_long_prefix c.args.bytes.now c.in-Ok.after.now c.in-Ok.ensures (omega (arith, c.if-prefix-gt-MAX_LEN.true, c.split_at.ensures.front_len)))

pub from_utf8_unchecked-text-requires : goal.from_utf8_unchecked-text-requires
from_utf8_unchecked-text-requires c = prefix_is_utf8 c.args.bytes.now c.in-Ok.after.now c.split_at.result.0.now c.in-Ok.ensures c.split_at.ensures.front

pub of_checked-requires : goal.of_checked-requires
of_checked-requires c =
    let s = split c.args.bytes.now c.in-Ok.after.now c.split_at.result.0.now c.split_at.result.1.now c.in-Ok.ensures c.split_at.ensures.front c.split_at.ensures.back (omega (arith, c.if-prefix-gt-MAX_LEN.false)) in
    rw c.from_utf8_unchecked-text.ensures s.checked

pub returns-clause-found : goal.returns-clause-found
returns-clause-found c =
    let s = split c.args.bytes.now c.in-Ok.after.now c.split_at.result.0.now c.split_at.result.1.now c.in-Ok.ensures c.split_at.ensures.front c.split_at.ensures.back (omega (arith, c.if-prefix-gt-MAX_LEN.false)) in
    ap (λ v. Some (type_at v)) (c.of_checked.ensures ∙ c.from_utf8_unchecked-text.ensures) ∙ s.found

pub returns-clause-whole : goal.returns-clause-whole
returns-clause-whole c =
    let s = split c.args.bytes.now c.in-Ok.after.now c.split_at.result.0.now c.split_at.result.1.now c.in-Ok.ensures c.split_at.ensures.front c.split_at.ensures.back (omega (arith, c.if-prefix-gt-MAX_LEN.false)) in
    s.whole ∙ ap (λ v. spelling (type_at v) ++ c.split_at.result.1.now) (sym (c.of_checked.ensures ∙ c.from_utf8_unchecked-text.ensures))
