use Rattle.std.proofs.Common.{◌≡◌, false, ap, sym, ◌∙◌}
use Rattle.std.proofs.lemmas.Bool.{false_from_ne_true}
use Rattle.std.proofs.lemmas.Str.{IsUtf8-from_is_utf8, is_utf8-from_IsUtf8}
use Rattle.std.specs.Str.{is_utf8}
use Rattle.dconf_model.specs.Keyfiles.{line_kind, without_blanks}
use Rattle.dconf_model.specs.Paths.{has_zero_byte, starts_with_slash}
use Rattle.keyfile_lines.specs.Kinds.{sign_by}
use Rattle.keyfile_lines.proofs.SignOf.{of_no_text, of_text}
use Rattle.keyfile_lines.proofs.kinds.Sign.of.Goals as goal

pub returns-in-Ok : goal.returns-in-Ok
returns-in-Ok c =
    let line = c.args.line.now in
    let zero : has_zero_byte line ≡ false = sym c.contains.ensures.value ∙ c.if-contains.false in
    let slash : starts_with_slash line ≡ false = sym c.starts_with.ensures.value ∙ c.if-starts_with.false in
    let is = is_utf8-from_IsUtf8 line c.in-Ok.ensures.cases.1 in
    c.of_text.ensures ∙ (ap (λ t. sign_by (line_kind (without_blanks t)) (without_blanks t)) c.in-Ok.ensures.cases.0 ∙ sym (of_text line zero slash is))

pub returns-in-Err : goal.returns-in-Err
returns-in-Err c =
    let line = c.args.line.now in
    let zero : has_zero_byte line ≡ false = sym c.contains.ensures.value ∙ c.if-contains.false in
    let slash : starts_with_slash line ≡ false = sym c.starts_with.ensures.value ∙ c.if-starts_with.false in
    let none : is_utf8 line ≡ false = false_from_ne_true (is_utf8 line) (λ e. c.in-Err.ensures.cases.0 (IsUtf8-from_is_utf8 line e)) in
    sym (of_no_text line zero slash none)
