-- The classes of bytes that the code looks for.
use Rattle.std.specs.Prelude.{ℕ, Bool, ◌==◌, ◌&&◌, not}
use Rattle.gv_model.specs.Characters.{is_blank, is_digit, is_digit_of, is_word_byte}
use Rattle.gv_syntax.specs.declared.lexing.bytes.ByteClass.{ByteClass}
use Rattle.gv_syntax.specs.declared.lexing.bytes.ByteClass.TheVariants.{Blank, Digit, DigitOf, WordByte, Plain}

abbrev pub is_of : ByteClass → ℕ → Bool
is_of Blank c = is_blank c
is_of Digit c = is_digit c
is_of (DigitOf base) c = is_digit_of base c
is_of WordByte c = is_word_byte c
is_of (Plain quote) c = not (c == quote) && (not (c == 0) && not (c == 92))
