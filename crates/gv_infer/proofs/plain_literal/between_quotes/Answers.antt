use Rattle.std.proofs.Common.{refl, subst, sym, ◌∙◌}
use Rattle.gv_infer.proofs.PlainReading.{IsInQuotes, quotes_off}
use Rattle.gv_infer.proofs.plain_literal.between_quotes.Goals as goal

pub returns-then-is_plain : goal.returns-then-is_plain
returns-then-is_plain c =
    let is = c.if-not-is_in_quotes.ensures in
    let quotes : IsInQuotes c.args.text.now = subst IsInQuotes c.as_bytes.ensures.value record { long = is.len refl; first = is.first refl; last = is.last refl } in
    quotes_off c.args.text.now c.in_ok-inner.inner.now c.as_bytes-2.result.now quotes c.in_ok-inner.ensures.cases.0 c.as_bytes-2.ensures.value (sym c.is_plain.ensures ∙ c.if-is_plain.true)
