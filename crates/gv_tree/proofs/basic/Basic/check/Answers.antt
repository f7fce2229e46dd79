use Rattle.std.proofs.Common.{refl, sym, ap, ◌∙◌, rules}
use Rattle.std.specs.Prelude.{string_bytes}
use Rattle.std.proofs.lemmas.Str.{is_utf8-from_IsUtf8, IsUtf8-string_bytes}
use Rattle.gv_model.specs.Ty.Basic.{string, path, signature}
use Rattle.gv_model.specs.Texts.{is_object_path, is_signature, has_zero_byte}
use Rattle.gv_tree.proofs.BasicLaws.{checked_text, text_value}
use Rattle.gv_tree.proofs.basic.Basic.check.Goals as goal

pub returns-in-Text : goal.returns-in-Text
returns-in-Text c =
    let s = c.in-Text.text in
    rw c.in-Text.is (checked_text string (string_bytes s) _ c.check_nul.result refl (is_utf8-from_IsUtf8 _ (IsUtf8-string_bytes s)) c.as_str.ensures.value c.check_nul.ensures)

pub returns-then-is_object_path : goal.returns-then-is_object_path
returns-then-is_object_path c =
    let s = string_bytes c.in-ObjectPath.text in
    rw c.in-ObjectPath.is (text_value path s refl
    (ap has_zero_byte (sym c.as_str-in-ObjectPath.ensures.value) ∙ c.in_ok-check_nul-in-ObjectPath.ensures)
    (ap is_object_path (sym c.as_str-in-ObjectPath-2.ensures.value) ∙ sym c.is_object_path.ensures ∙ c.if-is_object_path.true))

pub returns-then-is_signature : goal.returns-then-is_signature
returns-then-is_signature c =
    let s = string_bytes c.in-Signature.text in
    rw c.in-Signature.is (text_value signature s refl
    (ap has_zero_byte (sym c.as_str-in-Signature.ensures.value) ∙ c.in_ok-check_nul-in-Signature.ensures)
    (ap is_signature (sym c.as_str-in-Signature-2.ensures.value) ∙ sym c.is_signature.ensures ∙ c.if-is_signature.true))

pub returns-else-is_object_path : goal.returns-else-is_object_path
returns-else-is_object_path c = search rules
