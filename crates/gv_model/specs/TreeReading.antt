-- The tree that tokens are of, read from their end on.
use Rattle.std.specs.Prelude.{List, [], ◌∷◌, Option, Some, None}
use Rattle.gv_model.specs.Syntax.{Syntax}
use Rattle.gv_model.specs.Syntax.Syntax.{truth, integer, quoted, bytes, list, tuple_of, dictionary, lone, boxed, just, nothing, at_type, keyword}
use Rattle.gv_model.specs.Syntax.Syntaxes.{none, first}
use Rattle.gv_model.specs.Syntax.Pairs.{no_pair, pair}
use Rattle.gv_model.specs.Tokens.{Mark, Token}
use Rattle.gv_model.specs.Tokens.Mark.{open_tuple, close_tuple, open_list, close_list, open_brace, close_brace, open_box, close_box, comma, colon}
use Rattle.gv_model.specs.Tokens.Word.{truth as truth_word, just as just_word, nothing as nothing_word, type_word}
use Rattle.gv_model.specs.Tokens.Token.{mark, string_token, byte_string, integer_token, type_token, word}

pub data Read : Type 0 where
  nothing_more : Read
  value : Syntax → Read → Read
  mark_then : Mark → Read → Read
  broken : Read

abbrev pub around : (Syntax → Syntax) → Read → Read
around f (value x r) = value (f x) r
around f _ = broken

abbrev pub list_with_first : Syntax → Read → Read
list_with_first x (value (list xs) r) = value (list (first x xs)) r
list_with_first x _ = broken

unfoldable pub list_items : Read → Read
list_items (value x (mark_then close_list r)) = value (list (first x none)) r
list_items (value x (mark_then comma r)) = list_with_first x (list_items r)
list_items _ = broken

abbrev pub list_before : Read → Read
list_before (mark_then close_list r) = value (list none) r
list_before r = list_items r

abbrev pub tuple_with_first : Syntax → Read → Read
tuple_with_first x (value (tuple_of xs) r) = value (tuple_of (first x xs)) r
tuple_with_first x _ = broken

unfoldable pub tuple_items : Read → Read
tuple_items (value x (mark_then close_tuple r)) = value (tuple_of (first x none)) r
tuple_items (value x (mark_then comma r)) = tuple_with_first x (tuple_items r)
tuple_items _ = broken

abbrev pub tuple_before : Read → Read
tuple_before (mark_then close_tuple r) = value (tuple_of none) r
tuple_before (value x (mark_then comma (mark_then close_tuple r))) = value (tuple_of (first x none)) r
tuple_before (value x (mark_then comma r)) = tuple_with_first x (tuple_items r)
tuple_before _ = broken

abbrev pub pair_with_first : Syntax → Syntax → Read → Read
pair_with_first k v (value (dictionary ps) r) = value (dictionary (pair k v ps)) r
pair_with_first k v _ = broken

unfoldable pub pair_items : Read → Read
pair_items (value k (mark_then colon (value v (mark_then close_brace r)))) = value (dictionary (pair k v no_pair)) r
pair_items (value k (mark_then colon (value v (mark_then comma r)))) = pair_with_first k v (pair_items r)
pair_items _ = broken

abbrev pub brace_before : Read → Read
brace_before (mark_then close_brace r) = value (dictionary no_pair) r
brace_before (value k (mark_then comma (value v (mark_then close_brace r)))) = value (lone k v) r
brace_before r = pair_items r

abbrev pub box_before : Read → Read
box_before (value x (mark_then close_box r)) = value (boxed x) r
box_before _ = broken

abbrev pub before : Token → Read → Read
before (mark open_list) r = list_before r
before (mark open_tuple) r = tuple_before r
before (mark open_brace) r = brace_before r
before (mark open_box) r = box_before r
before (mark m) r = mark_then m r
before (string_token s) r = value (quoted s) r
before (byte_string s) r = value (bytes s) r
before (integer_token negative n) r = value (integer negative n) r
before (type_token t) r = around (at_type t) r
before (word (truth_word b)) r = value (truth b) r
before (word nothing_word) r = value nothing r
before (word just_word) r = around just r
before (word (type_word k)) r = around (keyword k) r

unfoldable pub read : List Token → Read
read [] = nothing_more
read (t ∷ ts) = before t (read ts)

abbrev pub one_tree : Read → Option Syntax
one_tree (value x nothing_more) = Some x
one_tree _ = None
