-- Worked texts, as tokens.
use Rattle.std.specs.Prelude.{◌≡◌, ℕ, true, false, [], ◌∷◌, Some, None, refl, codes}
use lib.Utf8.{encode as encode_char}
use Rattle.gv_model.specs.Ty.{spelling, nesting}
use Rattle.gv_model.specs.Ty.Ty.{basic}
use Rattle.gv_model.specs.Ty.Basic.{int64}
use Rattle.gv_model.specs.TypeText.{type_of_text, seen, mark, tuple_type_before}
use Rattle.gv_model.specs.Lexed.{lexed}
use Rattle.gv_model.specs.Characters.{prefix_of, same_text}
use Rattle.gv_model.specs.Numerals.{run_after, number_after}
use Rattle.gv_model.specs.Words.{word_among}
use Rattle.gv_model.specs.Strings.{at_most, string_from}
use Rattle.gv_model.specs.Lexing.{type_prefix, token_at}
use Rattle.gv_model.specs.TextFault.Cause.{bad_token, unclosed, double_text}
use Rattle.gv_model.specs.Tokens.Token.{mark as mark_token, integer_token, type_token, byte_string}
use Rattle.gv_model.specs.Tokens.Mark.{open_list, close_list, comma}

unfoldable pub lexing : ℕ
unfolding encode_char spelling nesting type_of_text seen mark tuple_type_before lexed prefix_of same_text run_after number_after word_among at_most string_from type_prefix token_at
lexing = 0

nine_in_octal : lexed 0 0 (codes "09") ≡ ([], Some (record { cause = bad_token; start = 0; stop = 2 }))
unfolding lexing
nine_in_octal = refl

double : lexed 0 0 (codes "1e5") ≡ ([], Some (record { cause = double_text; start = 0; stop = 3 }))
unfolding lexing
double = refl

unclosed_string : lexed 0 0 (codes "'a") ≡ ([], Some (record { cause = unclosed; start = 0; stop = 1 }))
unfolding lexing
unclosed_string = refl

list_with_a_type : lexed 0 0 (codes "[1, @x 2]") ≡ (
  record { token = mark_token open_list; start = 0; stop = 1 } ∷ record
      { token = integer_token false 1; start = 1; stop = 2 } ∷ record { token = mark_token comma; start = 2; stop = 3 } ∷ record
      { token = type_token (basic int64); start = 4; stop = 6 } ∷ record { token = integer_token false 2; start = 7; stop = 8 } ∷ record
      { token = mark_token close_list; start = 8; stop = 9 } ∷ [],
  None,
)
unfolding lexing
list_with_a_type = refl

octal_escapes : (lexed 0 0 (98 ∷ 39 ∷ 92 ∷ 51 ∷ 55 ∷ 55 ∷ 92 ∷ 49 ∷ 48 ∷ 49 ∷ 39 ∷ [])) ≡ (record { token = byte_string (255 ∷ 65 ∷ []); start = 0; stop = 11 } ∷ [], None)
unfolding lexing
octal_escapes = refl

-- a number past 64 bits, by 2^64
huge_number : lexed 0 0 (codes "-0x123456789abcdef01") ≡ (record { token = integer_token true 18446744073709551616; start = 0; stop = 20 } ∷ [], None)
unfolding lexing
huge_number = refl
