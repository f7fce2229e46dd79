-- What tokens and faults of the code are in the words of the model.
use Rattle.std.specs.Prelude.{ℕ, List, Some, None, map, string_bytes}
use Rattle.gv_model.specs.TextFault.{Cause, Fault}
use Rattle.gv_model.specs.TextFault.Cause.{bad_token, unclosed, bad_escape, double_text, unexpected, too_deep}
use Rattle.gv_model.specs.Tokens.{Mark as TheMark, Word as TheWord, Token as TheToken, Placed}
use Rattle.gv_model.specs.Tokens.Mark.{open_tuple, close_tuple, open_list, close_list, open_brace, close_brace, open_box, close_box, comma, colon}
use Rattle.gv_model.specs.Tokens.Word.{truth, just, nothing, type_word}
use Rattle.gv_model.specs.Tokens.Token.{mark, string_token, byte_string, integer_token, type_token, word}
use Rattle.gv_model.specs.Lexing.{Lexes}
use Rattle.gv_types.specs.Classes.{basic_of}
use Rattle.gv_syntax.specs.TypeTexts.{type_of_owned}
use Rattle.gv_syntax.specs.declared.token.Span.{Span}
use Rattle.gv_syntax.specs.declared.token.Token.{Token}
use Rattle.gv_syntax.specs.declared.token.TokenKind.{TokenKind}
use Rattle.gv_syntax.specs.declared.token.TokenKind.TheVariants as kinds
use Rattle.gv_syntax.specs.declared.token.Mark.{Mark}
use Rattle.gv_syntax.specs.declared.token.Mark.TheVariants.{OpenTuple, CloseTuple, OpenArray, CloseArray, OpenBrace, CloseBrace, OpenVariant, CloseVariant, Comma, Colon}
use Rattle.gv_syntax.specs.declared.token.Word.{Word}
use Rattle.gv_syntax.specs.declared.token.Word.TheVariants.{Truth, Just, Nothing, «Type»}
use Rattle.gv_syntax.specs.declared.fault.TextCause.{TextCause}
use Rattle.gv_syntax.specs.declared.fault.TextCause.TheVariants.{BadToken, Unclosed, BadEscape, DoubleText, Unexpected, TooDeep}
use Rattle.refused.specs.declared.Refused.{Refused}
use Rattle.refused.specs.Faults.{OfFault}
use Rattle.gv_syntax.specs.declared.fault.TextFlaw.{TextFlaw}

abbrev pub mark_of : Mark → TheMark
mark_of OpenTuple = open_tuple
mark_of CloseTuple = close_tuple
mark_of OpenArray = open_list
mark_of CloseArray = close_list
mark_of OpenBrace = open_brace
mark_of CloseBrace = close_brace
mark_of OpenVariant = open_box
mark_of CloseVariant = close_box
mark_of Comma = comma
mark_of Colon = colon

abbrev pub word_of : Word → TheWord
word_of (Truth b) = truth b
word_of Just = just
word_of Nothing = nothing
word_of («Type» k) = type_word (basic_of k)

abbrev pub token_of : TokenKind → TheToken
token_of (kinds.Mark m) = mark (mark_of m)
token_of (kinds.Text s) = string_token (string_bytes s)
token_of (kinds.ByteString s) = byte_string s.items
token_of (kinds.Integer negative magnitude) = integer_token negative magnitude
token_of (kinds.«Type» t) = type_token (type_of_owned t)
token_of (kinds.Word w) = word (word_of w)

-- a token and the bytes that it takes
abbrev pub placed_of : Token → Placed
placed_of t = record { token = token_of t.kind; start = t.span.start; stop = t.span.end }

abbrev pub cause_of : TextCause → Cause
cause_of BadToken = bad_token
cause_of Unclosed = unclosed
cause_of BadEscape = bad_escape
cause_of DoubleText = double_text
cause_of Unexpected = unexpected
cause_of TooDeep = too_deep

-- the fault of a cause at a span
abbrev pub fault_at_span : TextCause → Span → Fault
fault_at_span cause span = record { cause = cause_of cause; start = span.start; stop = span.end }

-- the tokens of a whole text
abbrev pub AreTokens : List ℕ → List Token → Type 0
AreTokens text ts = Lexes 0 text (map placed_of ts) None

-- the first fault of a text's tokens; running out of memory is never the text's fault
abbrev pub IsTokenFault : List ℕ → Refused TextFlaw → Type 0
IsTokenFault text fault = OfFault (λ f. (ts : List Placed) × Lexes 0 text ts (Some (fault_at_span f.cause f.span))) fault
