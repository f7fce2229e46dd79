-- The syntax of a value in a text, before it has a type.
-- GLib, "GVariant Text Format", Syntax Summary.
use Rattle.std.specs.Prelude.{ℕ, Bool, max, suc, List}
use Rattle.gv_model.specs.Ty.{Ty, Basic}

mutual
  pub data Syntax : Type 0 where
    truth : Bool → Syntax
    -- whether it has a minus sign, and its digits' number
    integer : Bool → ℕ → Syntax
    -- the text that occurs between the quotes, in UTF-8
    quoted : List ℕ → Syntax
    -- the bytes of a byte string, without the zero byte at the end
    bytes : List ℕ → Syntax
    list : Syntaxes → Syntax
    tuple_of : Syntaxes → Syntax
    dictionary : Pairs → Syntax
    -- an entry by itself
    lone : Syntax → Syntax → Syntax
    boxed : Syntax → Syntax
    just : Syntax → Syntax
    nothing : Syntax
    -- after `@` and a type
    at_type : Ty → Syntax → Syntax
    -- after the word of a basic type
    keyword : Basic → Syntax → Syntax

  pub data Syntaxes : Type 0 where
    none : Syntaxes
    first : Syntax → Syntaxes → Syntaxes

  pub data Pairs : Type 0 where
    no_pair : Pairs
    pair : Syntax → Syntax → Pairs → Pairs

-- how deep a syntax tree is: a dictionary's pairs add nothing of their own
unfoldable mutual
  pub levels : Syntax → ℕ
  levels (truth b) = 1
  levels (integer negative n) = 1
  levels (quoted s) = 1
  levels (bytes s) = 1
  levels (list xs) = suc (greatest_levels xs)
  levels (tuple_of xs) = suc (greatest_levels xs)
  levels (dictionary ps) = suc (pairs_levels ps)
  levels (lone k v) = suc (max (levels k) (levels v))
  levels (boxed x) = suc (levels x)
  levels (just x) = suc (levels x)
  levels nothing = 1
  levels (at_type t x) = suc (levels x)
  levels (keyword k x) = suc (levels x)

  pub greatest_levels : Syntaxes → ℕ
  greatest_levels none = 0
  greatest_levels (first x xs) = max (levels x) (greatest_levels xs)

  pub pairs_levels : Pairs → ℕ
  pairs_levels no_pair = 0
  pairs_levels (pair k v ps) = max (max (levels k) (levels v)) (pairs_levels ps)
