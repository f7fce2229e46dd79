use Rattle.std.proofs.Common.{◌≡◌, ◌++◌, ap, sym, ◌∙◌, arith, true, string_bytes}
use Rattle.std.specs.List.{list_all}
use Rattle.gv_syntax.specs.Printable.{is_printable}
use Rattle.gv_syntax.proofs.PlainTexts.{quoted_plain}
use Rattle.gv_text.proofs.Quotes.{between_whole}
use Rattle.gv_text.proofs.printing.quoted.push_quoted.Goals as goal

pub returns-then-is_plain : goal.returns-then-is_plain
returns-then-is_plain c =
    let text = c.args.text.now in
    let old = string_bytes c.args.to.now in
    let inside = string_bytes c.push_str.new.self in
    let plain : list_all (is_printable 39) text ≡ true = ap (list_all (is_printable 39)) (sym c.as_bytes.ensures.value) ∙ (sym c.is_plain.ensures ∙ c.if-is_plain.true) in
    between_whole old (string_bytes c.push.new.self) inside (string_bytes c.push-then-is_plain.new.self) text 39
    (c.in_ok-push.ensures.bytes ∙ ap (λ l. old ++ l) (c.in_ok-push.ensures.ascii (omega arith))) c.in_ok-push_str.ensures.bytes
    (c.in_ok-push-2.ensures.bytes ∙ ap (λ l. inside ++ l) (c.in_ok-push-2.ensures.ascii (omega arith)))
    ∙ ap (λ l. old ++ l) (sym (quoted_plain text plain))
