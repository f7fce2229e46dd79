-- Sets of types, as they come from syntax, and what two of them have in common.
use Rattle.std.specs.Prelude.{◌≡◌, ℕ, Bool, true, false, ◌==◌}
use Rattle.gv_model.specs.Ty.{Ty, Types, Basic}
use Rattle.gv_model.specs.Ty.Ty.{basic, variant, array, maybe, tuple, entry}
use Rattle.gv_model.specs.Ty.Types.{end, member}
use Rattle.gv_model.specs.Ty.Basic.{boolean, byte, int16, uint16, int32, uint32, int64, uint64, handle, double, string, path, signature}
use Rattle.gv_model.specs.Syntax.{Syntax, Syntaxes, Pairs}
use Rattle.gv_model.specs.Syntax.Syntax.{truth, integer, quoted, bytes, list, tuple_of, dictionary, lone, boxed, just, nothing, at_type, keyword}
use Rattle.gv_model.specs.Syntax.Syntaxes.{none, first}
use Rattle.gv_model.specs.Syntax.Pairs.{no_pair, pair}
use Rattle.gv_model.specs.Admits.{AlsoMaybe, IsNumberType, IsTextType, IsMaybeOf}

-- a set of basic types
pub data BasicSet : Type 0 where
  any numbers texts empty : BasicSet
  only : Basic → BasicSet

mutual
  pub data Pattern : Type 0 where
    anything : Pattern
    never : Pattern
    -- maybes of these
    maybe_of : Pattern → Pattern
    -- these alone, and these with any number of maybes around them
    strict : Bare → Pattern
    loose : Bare → Pattern

  -- types that are no maybes
  pub data Bare : Type 0 where
    basics : BasicSet → Bare
    a_variant : Bare
    array_of : Pattern → Bare
    tuple_with : Patterns → Bare
    entry_of : BasicSet → Pattern → Bare
    no_bare : Bare

  pub data Patterns : Type 0 where
    stop : Patterns
    next : Pattern → Patterns → Patterns

-- Which types are in a pattern

abbrev pub Within : BasicSet → Basic → Type 0
Within any k = Unit {0}
Within numbers k = IsNumberType (basic k)
Within texts k = IsTextType (basic k)
Within empty k = ⊥
Within (only j) k = k ≡ j

abbrev mutual
  pub In : Pattern → Ty → Type 0
  In anything t = Unit {0}
  In never t = ⊥
  In (maybe_of p) t = IsMaybeOf (In p) t
  In (strict c) t = InBare c t
  In (loose c) t = AlsoMaybe (InBare c) t

  pub InBare : Bare → Ty → Type 0
  InBare (basics s) (basic k) = Within s k
  InBare a_variant variant = Unit {0}
  InBare (array_of p) (array t) = In p t
  InBare (tuple_with ps) (tuple ts) = AreIn ps ts
  InBare (entry_of s p) (entry k t) = Within s k × In p t
  InBare c t = ⊥

  pub AreIn : Patterns → Types → Type 0
  AreIn stop end = Unit {0}
  AreIn (next p ps) (member t ts) = In p t × AreIn ps ts
  AreIn ps ts = ⊥

-- What two have in common

abbrev pub is_number : Basic → Bool
is_number boolean = false
is_number string = false
is_number path = false
is_number signature = false
is_number k = true

abbrev pub is_textual : Basic → Bool
is_textual string = true
is_textual path = true
is_textual signature = true
is_textual k = false

-- whether two basic types are one
abbrev pub code : Basic → ℕ
code boolean = 0
code byte = 1
code int16 = 2
code uint16 = 3
code int32 = 4
code uint32 = 5
code int64 = 6
code uint64 = 7
code handle = 8
code double = 9
code string = 10
code path = 11
code signature = 12

abbrev pub only_if : Bool → Basic → BasicSet
only_if true k = only k
only_if false k = empty

abbrev pub holds : BasicSet → Basic → Bool
holds any k = true
holds numbers k = is_number k
holds texts k = is_textual k
holds empty k = false
holds (only j) k = code j == code k

abbrev pub common_set : BasicSet → BasicSet → BasicSet
common_set any s = s
common_set s any = s
common_set (only j) s = only_if (holds s j) j
common_set s (only k) = only_if (holds s k) k
common_set numbers numbers = numbers
common_set texts texts = texts
common_set _ _ = empty

-- f of what is under a pattern's maybes
unfoldable pub under : (Bare → Bare) → Bare → Pattern → Pattern
under f c anything = loose c
under f c never = never
under f c (maybe_of p) = maybe_of (under f c p)
under f c (strict d) = strict (f d)
under f c (loose d) = loose (f d)

unfoldable mutual
  pub common : Pattern → Pattern → Pattern
  common anything q = q
  common never q = never
  common (maybe_of p) anything = maybe_of p
  common (maybe_of p) never = never
  common (maybe_of p) (maybe_of q) = maybe_of (common p q)
  common (maybe_of p) (strict d) = never
  common (maybe_of p) (loose d) = maybe_of (common p (loose d))
  common (strict c) anything = strict c
  common (strict c) never = never
  common (strict c) (maybe_of q) = never
  common (strict c) (strict d) = strict (common_bare c d)
  common (strict c) (loose d) = strict (common_bare c d)
  common (loose c) q = under (common_bare c) c q

  pub common_bare : Bare → Bare → Bare
  common_bare (basics s) (basics r) = basics (common_set s r)
  common_bare a_variant a_variant = a_variant
  common_bare (array_of p) (array_of q) = array_of (common p q)
  common_bare (tuple_with ps) (tuple_with qs) = tuple_with (common_each ps qs)
  common_bare (entry_of s p) (entry_of r q) = entry_of (common_set s r) (common p q)
  common_bare _ _ = no_bare

  -- lists of two lengths have nothing in common
  pub common_each : Patterns → Patterns → Patterns
  common_each stop stop = stop
  common_each (next p ps) (next q qs) = next (common p q) (common_each ps qs)
  common_each stop (next q qs) = next never stop
  common_each (next p ps) stop = next never stop

-- The pattern of a syntax tree

unfoldable mutual
  pub exactly : Ty → Pattern
  exactly (basic k) = strict (basics (only k))
  exactly variant = strict a_variant
  exactly (array t) = strict (array_of (exactly t))
  exactly (maybe t) = maybe_of (exactly t)
  exactly (tuple ts) = strict (tuple_with (exactly_each ts))
  exactly (entry k t) = strict (entry_of (only k) (exactly t))

  pub exactly_each : Types → Patterns
  exactly_each end = stop
  exactly_each (member t ts) = next (exactly t) (exactly_each ts)

-- the basic types in a pattern
abbrev pub basics_of_bare : Bare → BasicSet
basics_of_bare (basics s) = s
basics_of_bare _ = empty

abbrev pub basics_of : Pattern → BasicSet
basics_of anything = any
basics_of (strict c) = basics_of_bare c
basics_of (loose c) = basics_of_bare c
basics_of _ = empty

unfoldable mutual
  pub pattern : Syntax → Pattern
  pattern (truth b) = loose (basics (only boolean))
  pattern (integer negative n) = loose (basics numbers)
  pattern (quoted s) = loose (basics texts)
  pattern (bytes s) = loose (array_of (strict (basics (only byte))))
  pattern (list xs) = loose (array_of (all_common xs))
  pattern (tuple_of xs) = loose (tuple_with (patterns xs))
  pattern (dictionary ps) = loose (array_of (strict (entry_of (basics_of (common_key ps)) (common_value ps))))
  pattern (lone k v) = loose (entry_of (basics_of (pattern k)) (pattern v))
  pattern (boxed x) = loose a_variant
  pattern (just x) = maybe_of (pattern x)
  pattern nothing = maybe_of anything
  pattern (at_type t x) = common (exactly t) (pattern x)
  pattern (keyword k x) = common (strict (basics (only k))) (pattern x)

  pub all_common : Syntaxes → Pattern
  all_common none = anything
  all_common (first x xs) = common (pattern x) (all_common xs)

  pub patterns : Syntaxes → Patterns
  patterns none = stop
  patterns (first x xs) = next (pattern x) (patterns xs)

  pub common_key : Pairs → Pattern
  common_key no_pair = anything
  common_key (pair k v ps) = common (pattern k) (common_key ps)

  pub common_value : Pairs → Pattern
  common_value no_pair = anything
  common_value (pair k v ps) = common (pattern v) (common_value ps)
