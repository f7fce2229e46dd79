-- Several parts of syntax, each within the limits of a text.
use Rattle.gv_model.specs.Syntax.{Syntaxes, Pairs}
use Rattle.gv_model.specs.Syntax.Syntaxes.{none, first}
use Rattle.gv_model.specs.Syntax.Pairs.{no_pair, pair}
use Rattle.gv_syntax.specs.Parsed.{IsWithin}

abbrev pub AreWithin : Syntaxes → Type 0
AreWithin none = Unit {0}
AreWithin (first x xs) = IsWithin x × AreWithin xs

abbrev pub PairsWithin : Pairs → Type 0
PairsWithin no_pair = Unit {0}
PairsWithin (pair k v ps) = IsWithin k × IsWithin v × PairsWithin ps
