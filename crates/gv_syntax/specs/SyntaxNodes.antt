-- The syntax tree that a node stands for, over the trees of its parts.
use Rattle.std.specs.Prelude.{List, [], ◌∷◌, string_bytes}
use Rattle.gv_model.specs.Syntax.{Syntax as Value, Syntaxes, Pairs}
use Rattle.gv_model.specs.Syntax.Syntax.{truth, integer, quoted, bytes, list, tuple_of, dictionary, lone, boxed, just, nothing, at_type, keyword}
use Rattle.gv_model.specs.Syntax.Syntaxes.{none, first}
use Rattle.gv_model.specs.Syntax.Pairs.{no_pair, pair}
use Rattle.gv_types.specs.Classes.{basic_of}
use Rattle.gv_syntax.specs.TypeTexts.{type_of_owned}
use Rattle.gv_syntax.specs.declared.syntax.SyntaxKind.{SyntaxKind}
use Rattle.gv_syntax.specs.declared.syntax.SyntaxKind.TheVariants.{Truth, Integer, Text, ByteString, Array, Tuple, Dictionary, Entry, Variant, Just, Nothing, OfType, Keyword}

abbrev pub nodes_of : List Value → Syntaxes
nodes_of [] = none
nodes_of (x ∷ xs) = first x (nodes_of xs)

abbrev pub pairs_of : List (Value × Value) → Pairs
pairs_of [] = no_pair
pairs_of (p ∷ ps) = pair p.0 p.1 (pairs_of ps)

abbrev pub syntax_of : SyntaxKind → Value
syntax_of (Truth b) = truth b
syntax_of (Integer negative magnitude) = integer negative magnitude
syntax_of (Text s) = quoted (string_bytes s)
syntax_of (ByteString s) = bytes s.items
syntax_of (Array xs) = list (nodes_of xs.items)
syntax_of (Tuple xs) = tuple_of (nodes_of xs.items)
syntax_of (Dictionary ps) = dictionary (pairs_of ps.items)
syntax_of (Entry k v) = lone k.value v.value
syntax_of (Variant x) = boxed x.value
syntax_of (Just x) = just x.value
syntax_of Nothing = nothing
syntax_of (OfType t x) = at_type (type_of_owned t) x.value
syntax_of (Keyword k x) = keyword (basic_of k) x.value
