-- The parts of syntax within the limits of a text are within them too.
use Rattle.std.proofs.Common.{◌≤◌, arith}
use Rattle.gv_model.specs.Ty.{Ty, Basic}
use Rattle.gv_model.specs.Syntax.{Syntax, Syntaxes, Pairs, levels, greatest_levels, pairs_levels}
use Rattle.gv_model.specs.Syntax.Syntax.{list, tuple_of, dictionary, lone, boxed, just, at_type, keyword}
use Rattle.gv_model.specs.Syntax.Syntaxes.{none, first}
use Rattle.gv_model.specs.Syntax.Pairs.{no_pair, pair}
use Rattle.gv_model.specs.Grammar.{tokens_bytes, tokens_of}
use Rattle.gv_model.specs.PlainTexts.{ArePlain, PairsPlain}
use Rattle.gv_syntax.specs.Parsed.{IsWithin}
use Rattle.gv_model.specs.Grammar.{syntaxes_bytes, pairs_bytes}
use Rattle.gv_infer.specs.Within.{AreWithin, PairsWithin}
use Rattle.gv_patterns.proofs.Levels.{list_levels, tuple_levels, dictionary_levels, lone_levels, boxed_levels, just_levels, of_type_levels, keyword_levels}
use Rattle.gv_model.proofs.TypeWeights.{list_bytes, tuple_bytes, dictionary_bytes, entry_bytes, box_bytes}

each_within : (xs : Syntaxes) → greatest_levels xs ≤ 128 → syntaxes_bytes xs ≤ 16777216 → ArePlain xs → AreWithin xs
unfolding levels
each_within none deep long plain = tt
each_within (first x xs) deep long plain = (
  record { levels = omega (arith, deep); bytes = omega (arith, long); plain = plain.0 },
  each_within xs (omega (arith, deep)) (omega (arith, long)) plain.1,
)

each_pair_within : (ps : Pairs) → pairs_levels ps ≤ 128 → pairs_bytes ps ≤ 16777216 → PairsPlain ps → PairsWithin ps
unfolding levels
each_pair_within no_pair deep long plain = tt
each_pair_within (pair k v ps) deep long plain = (
  record { levels = omega (arith, deep); bytes = omega (arith, long); plain = plain.0 },
  record { levels = omega (arith, deep); bytes = omega (arith, long); plain = plain.1 },
  each_pair_within ps (omega (arith, deep)) (omega (arith, long)) plain.2,
)

pub list_within : (xs : Syntaxes) → IsWithin (list xs) → AreWithin xs
list_within xs w = each_within xs (omega (arith, list_levels xs, w.levels)) (omega (arith, list_bytes xs, w.bytes)) w.plain

pub tuple_within : (xs : Syntaxes) → IsWithin (tuple_of xs) → AreWithin xs
tuple_within xs w = each_within xs (omega (arith, tuple_levels xs, w.levels)) (omega (arith, tuple_bytes xs, w.bytes)) w.plain

pub dictionary_within : (ps : Pairs) → IsWithin (dictionary ps) → PairsWithin ps
dictionary_within ps w = each_pair_within ps (omega (arith, dictionary_levels ps, w.levels)) (omega (arith, dictionary_bytes ps, w.bytes)) w.plain

pub entry_within : (k v : Syntax) → IsWithin (lone k v) → IsWithin k × IsWithin v
entry_within k v w = (
  record { levels = omega (arith, lone_levels k v, w.levels); bytes = omega (arith, entry_bytes k v, w.bytes); plain = w.plain.0 },
  record { levels = omega (arith, lone_levels k v, w.levels); bytes = omega (arith, entry_bytes k v, w.bytes); plain = w.plain.1 },
)

pub box_within : (x : Syntax) → IsWithin (boxed x) → IsWithin x
box_within x w = record { levels = omega (arith, boxed_levels x, w.levels); bytes = omega (arith, box_bytes x, w.bytes); plain = w.plain }

pub just_within : (x : Syntax) → IsWithin (just x) → IsWithin x
unfolding tokens_bytes tokens_of
just_within x w = record { levels = omega (arith, just_levels x, w.levels); bytes = omega (arith, w.bytes); plain = w.plain }

pub of_type_within : (t : Ty) (x : Syntax) → IsWithin (at_type t x) → IsWithin x
unfolding tokens_bytes tokens_of
of_type_within t x w = record { levels = omega (arith, of_type_levels t x, w.levels); bytes = omega (arith, w.bytes); plain = w.plain }

pub keyword_within : (k : Basic) (x : Syntax) → IsWithin (keyword k x) → IsWithin x
unfolding tokens_bytes tokens_of
keyword_within k x w = record { levels = omega (arith, keyword_levels k x, w.levels); bytes = omega (arith, w.bytes); plain = w.plain }
