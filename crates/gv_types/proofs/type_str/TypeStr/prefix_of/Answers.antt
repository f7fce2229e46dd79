use Rattle.std.proofs.Common.{rules, Some, ap, ◌∙◌}
use Rattle.gv_model.specs.TypeText.{type_at}
use Rattle.gv_types.proofs.PrefixTypes.{halted_prefix, too_long_prefix, prefix_is_read, cut_after}
use Rattle.gv_types.proofs.type_str.TypeStr.prefix_of.Goals as goal

pub returns-in_default : goal.returns-in_default
returns-in_default c =
    let stop = rw c.as_bytes.ensures.value at c.in_default.ensures in
    search (rules, halted_prefix c.args.text.now c.in_default.field-0.rest.now c.in_default.field-0.halt stop)

pub returns-then-len-gt-MAX_LEN : goal.returns-then-len-gt-MAX_LEN
returns-then-len-gt-MAX_LEN c =
    let read = rw c.as_bytes.ensures.value at c.in-Ok.ensures in
    search (rules, too_long_prefix c.args.text.now c.in-Ok.rest.now read c.if-len-gt-MAX_LEN.true)

pub range-requires-clause-end_boundary : goal.range-requires-clause-end_boundary
range-requires-clause-end_boundary c =
    let read = rw c.as_bytes.ensures.value at c.in-Ok.ensures in
    let prefix = prefix_is_read c.args.text.now c.in-Ok.rest.now read c.if-len-gt-MAX_LEN.false in
    cut_after c.args.text.now _ c.utf8.text prefix

pub of_checked-requires : goal.of_checked-requires
of_checked-requires c =
    let read = rw c.as_bytes.ensures.value at c.in-Ok.ensures in
    let prefix = prefix_is_read c.args.text.now c.in-Ok.rest.now read c.if-len-gt-MAX_LEN.false in
    rw c.range.ensures.value prefix.checked

pub returns : goal.returns
returns c =
    let read = rw c.as_bytes.ensures.value at c.in-Ok.ensures in
    let prefix = prefix_is_read c.args.text.now c.in-Ok.rest.now read c.if-len-gt-MAX_LEN.false in
    ap (λ v. Some (type_at v)) (c.of_checked.ensures ∙ c.range.ensures.value) ∙ prefix.found
