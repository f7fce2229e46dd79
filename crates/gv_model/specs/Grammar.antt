-- The tokens of a syntax tree: the grammar, a line for each case.
-- GLib, "GVariant Text Format", Syntax Summary.
use Rattle.std.specs.Prelude.{ℕ, suc, ◌+◌, List, [], ◌∷◌, ◌++◌, length}
use Rattle.gv_model.specs.Ty.{spelling}
use Rattle.gv_model.specs.Syntax.{Syntax, Syntaxes, Pairs}
use Rattle.gv_model.specs.Syntax.Syntax.{truth, integer, quoted, bytes, list, tuple_of, dictionary, lone, boxed, just, nothing, at_type, keyword}
use Rattle.gv_model.specs.Syntax.Syntaxes.{none, first}
use Rattle.gv_model.specs.Syntax.Pairs.{no_pair, pair}
use Rattle.gv_model.specs.Tokens.{Token}
use Rattle.gv_model.specs.Tokens.Mark.{open_tuple, close_tuple, open_list, close_list, open_brace, close_brace, open_box, close_box, comma, colon}
use Rattle.gv_model.specs.Tokens.Word.{truth as truth_word, just as just_word, nothing as nothing_word, type_word}
use Rattle.gv_model.specs.Tokens.Token.{mark, string_token, byte_string, integer_token, type_token, word}

unfoldable mutual
  pub tokens_of : Syntax → List Token
  tokens_of (truth b) = word (truth_word b) ∷ []
  tokens_of (integer negative n) = integer_token negative n ∷ []
  tokens_of (quoted s) = string_token s ∷ []
  tokens_of (bytes s) = byte_string s ∷ []
  tokens_of (list xs) = mark open_list ∷ (commas xs ++ mark close_list ∷ [])
  tokens_of (tuple_of xs) = mark open_tuple ∷ (members_tokens xs ++ mark close_tuple ∷ [])
  tokens_of (dictionary ps) = mark open_brace ∷ (pairs_tokens ps ++ mark close_brace ∷ [])
  tokens_of (lone k v) = mark open_brace ∷ (tokens_of k ++ mark comma ∷ (tokens_of v ++ mark close_brace ∷ []))
  tokens_of (boxed x) = mark open_box ∷ (tokens_of x ++ mark close_box ∷ [])
  tokens_of (just x) = word just_word ∷ tokens_of x
  tokens_of nothing = word nothing_word ∷ []
  tokens_of (at_type t x) = type_token t ∷ tokens_of x
  tokens_of (keyword k x) = word (type_word k) ∷ tokens_of x

  -- values with `,` between
  pub commas : Syntaxes → List Token
  commas none = []
  commas (first x none) = tokens_of x
  commas (first x (first y xs)) = tokens_of x ++ mark comma ∷ commas (first y xs)

  -- a single member has a `,` after it
  pub members_tokens : Syntaxes → List Token
  members_tokens none = []
  members_tokens (first x none) = tokens_of x ++ mark comma ∷ []
  members_tokens (first x (first y xs)) = tokens_of x ++ mark comma ∷ commas (first y xs)

  pub pairs_tokens : Pairs → List Token
  pairs_tokens no_pair = []
  pairs_tokens (pair k v no_pair) = tokens_of k ++ mark colon ∷ tokens_of v
  pairs_tokens (pair k v (pair j w ps)) = tokens_of k ++ mark colon ∷ (tokens_of v ++ mark comma ∷ pairs_tokens (pair j w ps))

-- How many bytes these tokens take in a text at least

abbrev pub least_bytes : Token → ℕ
least_bytes (type_token t) = suc (length (spelling t))
least_bytes _ = 1

unfoldable pub tokens_bytes : List Token → ℕ
tokens_bytes [] = 0
tokens_bytes (t ∷ ts) = least_bytes t + tokens_bytes ts

abbrev pub text_bytes : Syntax → ℕ
text_bytes x = tokens_bytes (tokens_of x)

abbrev pub syntaxes_bytes : Syntaxes → ℕ
syntaxes_bytes none = 0
syntaxes_bytes (first x xs) = text_bytes x + syntaxes_bytes xs

abbrev pub pairs_bytes : Pairs → ℕ
pairs_bytes no_pair = 0
pairs_bytes (pair k v ps) = (text_bytes k + text_bytes v) + pairs_bytes ps
