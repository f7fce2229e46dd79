use Rattle.std.proofs.Common.{refl, ◌+◌, ◌==◌, Some, length, take, count_by, sym, ap, ◌∙◌}
use Rattle.std.specs.Str.{is_utf8}
use Rattle.std.proofs.lemmas.Bool.{false_from_ne_true, le-ltb, lt-ltb}
use Rattle.std.proofs.lemmas.Str.{is_utf8-from_IsUtf8, IsUtf8-from_is_utf8}
use Rattle.dconf_model.specs.Causes.SettingsCause.{not_utf8}
use Rattle.dconf_model.specs.Lines.{longest_text}
use Rattle.dconf_path.proofs.TextFaults.{is_faultless, is_not_utf8}
use Rattle.dconf_path.proofs.texts.settings_text.Goals as goal

pub returns-then-bytes-gt-MAX_TEXT_LEN-clause-fault : goal.returns-then-bytes-gt-MAX_TEXT_LEN-clause-fault
returns-then-bytes-gt-MAX_TEXT_LEN-clause-fault c = rw (lt-ltb longest_text (length c.args.bytes.now) c.if-bytes-gt-MAX_TEXT_LEN.true) refl

pub returns-in-Ok-clause-faultless : goal.returns-in-Ok-clause-faultless
returns-in-Ok-clause-faultless c =
    let bytes = c.args.bytes.now in
    is_faultless bytes (le-ltb longest_text (length bytes) c.if-bytes-gt-MAX_TEXT_LEN.false) (is_utf8-from_IsUtf8 bytes c.in-Ok.ensures.cases.1)

pub returns-in-Err-clause-fault : goal.returns-in-Err-clause-fault
returns-in-Err-clause-fault c =
    let bytes = c.args.bytes.now in
    let small = le-ltb longest_text (length bytes) c.if-bytes-gt-MAX_TEXT_LEN.false in
    let none = false_from_ne_true (is_utf8 bytes) (λ e. c.in-Err.ensures.cases.0 (IsUtf8-from_is_utf8 bytes e)) in
    let place = c.valid_up_to.ensures ∙ c.in-Err.ensures.valid_len in
    let line = c.line_of.ensures ∙ ap (λ n. count_by (λ c. c == 10) (take n bytes) + 1) place in
    is_not_utf8 bytes small none ∙ (λ i. Some (record { line = sym line i; cause = not_utf8 }))
