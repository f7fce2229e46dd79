use Rattle.std.proofs.Common.{◌≡◌, sym, ◌∙◌, Bool, true, false, cond, List, ℕ, Some, None, string_bytes}
use Rattle.std.specs.Str.{is_utf8}
use Rattle.gv_view.specs.Texts.{utf8_of}
use Rattle.gv_syntax.proofs.PlainTexts.{bytes_alone}
use Rattle.gv_text.proofs.Quotes.{written_as}
use Rattle.gv_text.proofs.printing.quoted.push_bytes.Goals as goal

-- a text has the bytes that it was made of
same_bytes : (text bytes : List ℕ) → Some text ≡ utf8_of bytes → text ≡ bytes
same_bytes text bytes e = go (is_utf8 bytes) e
  where
    go : (b : Bool) → Some text ≡ cond b (Some bytes) None → text ≡ bytes
    go true e = cc
    go false e = absurd cc

pub returns-in-Some : goal.returns-in-Some
returns-in-Some c =
    let q = c.args.quote in
    let plain = sym c.is_plain.ensures ∙ c.if-is_plain.true in
    written_as c.push_str.result (string_bytes c.args.to.now) (string_bytes c.push_str.new.self) c.in-Some.text.now _ c.push_str.ensures.bytes (same_bytes _ _ c.in-Some.ensures ∙ sym (bytes_alone q c.args.bytes.now plain))
