use Rattle.std.proofs.Common.{◌≡◌, ◌++◌, ap, sym, ◌∙◌, chars, string_bytes}
use Rattle.std.specs.Prelude.{flat_map}
use Rattle.std.specs.List.{list_all}
use Rattle.gv_model.specs.Quoted.{char_text, quote_for, between}
use Rattle.gv_syntax.specs.Printable.{is_printable}
use Rattle.gv_syntax.proofs.PlainTexts.{chars_alone}
use Rattle.gv_text.proofs.Quotes.{quote_low, between_whole}
use Rattle.gv_text.proofs.printing.quoted.push_escaped.Goals as goal
use Rattle.gv_text.proofs.printing.quoted.push_escaped.Goals.{then-is_plain+in_ok-push_str, else-is_plain+in_ok-push_each_char}

pub returns : goal.returns
returns c =
    let q = c.quote_for-quote.result in
    let text = c.args.text.now in
    let old = string_bytes c.args.to.now in
    let opened = string_bytes c.push.new.self in
    let inner = flat_map (char_text q) (chars text) in
    let same = c.quote_for-quote.ensures ∙ ap quote_for c.as_bytes.ensures.value in
    let low = quote_low q text same in
    let written : string_bytes c.if-is_plain.to ≡ opened ++ inner = elim c.if-is_plain.branch [
      | then-is_plain+in_ok-push_str w ↦ ap string_bytes w.to-is
          ∙ (w.in_ok-push_str.ensures.bytes ∙ ap (λ l. opened ++ l) (sym (chars_alone q text (ap (list_all (is_printable q)) (sym c.as_bytes-2.ensures.value) ∙ (sym c.is_plain.ensures ∙ w.if-is_plain.true)))))
      | else-is_plain+in_ok-push_each_char w ↦ ap string_bytes w.to-is ∙ w.in_ok-push_each_char.ensures
    ] in
    between_whole old opened (string_bytes c.if-is_plain.to) (string_bytes c.push-2.new.self) inner q (c.in_ok-push.ensures.bytes ∙ ap (λ l. old ++ l) (c.in_ok-push.ensures.ascii low)) written
    (c.in_ok-push-2.ensures.bytes ∙ ap (λ l. string_bytes c.if-is_plain.to ++ l) (c.in_ok-push-2.ensures.ascii low))
    ∙ ap (λ p. old ++ between p (flat_map (char_text p) (chars text)) p) same
