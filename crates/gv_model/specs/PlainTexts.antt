-- Syntax whose strings have no zero byte, as those of a text never do.
use Rattle.std.specs.Prelude.{◌≡◌, false}
use Rattle.gv_model.specs.Syntax.{Syntax, Syntaxes, Pairs}
use Rattle.gv_model.specs.Syntax.Syntax.{truth, integer, quoted, bytes, list, tuple_of, dictionary, lone, boxed, just, nothing, at_type, keyword}
use Rattle.gv_model.specs.Syntax.Syntaxes.{none, first}
use Rattle.gv_model.specs.Syntax.Pairs.{no_pair, pair}
use Rattle.gv_model.specs.Texts.{has_zero_byte}

abbrev mutual
  pub IsPlain : Syntax → Type 0
  IsPlain (truth b) = Unit {0}
  IsPlain (integer negative n) = Unit {0}
  IsPlain (quoted s) = has_zero_byte s ≡ false
  IsPlain (bytes s) = Unit {0}
  IsPlain (list xs) = ArePlain xs
  IsPlain (tuple_of xs) = ArePlain xs
  IsPlain (dictionary ps) = PairsPlain ps
  IsPlain (lone k v) = IsPlain k × IsPlain v
  IsPlain (boxed x) = IsPlain x
  IsPlain (just x) = IsPlain x
  IsPlain nothing = Unit {0}
  IsPlain (at_type t x) = IsPlain x
  IsPlain (keyword k x) = IsPlain x

  pub ArePlain : Syntaxes → Type 0
  ArePlain none = Unit {0}
  ArePlain (first x xs) = IsPlain x × ArePlain xs

  pub PairsPlain : Pairs → Type 0
  PairsPlain no_pair = Unit {0}
  PairsPlain (pair k v ps) = IsPlain k × IsPlain v × PairsPlain ps
