use Rattle.std.proofs.Common.{◌++◌, ◌∷◌, [], ap, sym, ◌∙◌}
use Rattle.std.specs.Prelude.{option_map, Some}
use Rattle.gv_view.specs.Texts.{utf8_in}
use Rattle.gv_view.proofs.ShortTexts.{ascii_chars_are_utf8, no_bytes, short_text}
use Rattle.gv_view.proofs.text.text_in.Goals as goal

pub returns-in_err-last : goal.returns-in_err-last
returns-in_err-last c = ap (option_map (λ s. s.now)) c.from_residual.ensures ∙ no_bytes c.args.bytes.now c.in_err-last.ensures.cases

pub from_utf8_unchecked-requires : goal.from_utf8_unchecked-requires
from_utf8_unchecked-requires c = ascii_chars_are_utf8 c.in_ok-last.prefix.now (sym c.is_ascii_text.ensures ∙ c.if-is_ascii_text.true)

pub returns-then-is_ascii_text : goal.returns-then-is_ascii_text
returns-then-is_ascii_text c =
    let parts = c.in_ok-last.ensures.cases.0 ∙ ap (λ n. c.in_ok-last.prefix.now ++ n ∷ []) c.if-last-eq0.true in
    ap Some c.from_utf8_unchecked.ensures ∙ (short_text c.in_ok-last.prefix.now (sym c.is_ascii_text.ensures ∙ c.if-is_ascii_text.true) ∙ sym (ap utf8_in parts))
