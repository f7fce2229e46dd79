use Rattle.std.proofs.Common.{◌+◌, ◌++◌, ap, sym, subst, ◌∙◌, IsCharBoundary, string_bytes}
use Rattle.std.proofs.lemmas.List.{take_rest}
use Rattle.gv_syntax.specs.ByteClasses.{is_of}
use Rattle.gv_syntax.specs.declared.lexing.bytes.ByteClass.TheVariants.{Plain}
use Rattle.gv_syntax.proofs.Lists.{prefix_slice}
use Rattle.gv_syntax.proofs.QuotedLaws.{plain_end_cuts}
use Rattle.gv_syntax.proofs.lexing.quoted.push_plain.Goals as goal

pub range-requires-clause-end_boundary : goal.range-requires-clause-end_boundary
range-requires-clause-end_boundary c =
    let n = rw (c.as_bytes.ensures.value, take_rest c.args.text.now c.args.at) at c.prefix_len.ensures.len in
    subst (λ k. IsCharBoundary c.args.text.now (c.args.at + k)) (sym n) (plain_end_cuts c.args.text.now c.args.quote c.args.at c.requires.quote c.requires.place.0)

pub returns-clause-end : goal.returns-clause-end
returns-clause-end c =
    let n = rw (c.as_bytes.ensures.value, take_rest c.args.text.now c.args.at) at c.prefix_len.ensures.len in
    (ap (λ k. c.args.at + k) n, c.in_ok-push_str.ensures.bytes ∙ ap (λ l. string_bytes c.args.string.now ++ l) (c.range.ensures.value ∙ prefix_slice (is_of (Plain c.args.quote)) c.args.text.now c.args.at _ n))
