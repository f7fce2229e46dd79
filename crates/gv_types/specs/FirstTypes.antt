-- The type at the start of a text, its parts and what follows it, told by what occurs in the text.
use Rattle.std.specs.Prelude.{◌≡◌, ◌≤◌, ◌<◌, ℕ, List, length, Bool, true, false}
use Rattle.gv_model.specs.Ty.{Ty, Types, nesting, greatest_nesting}
use Rattle.gv_model.specs.Ty.Ty.{tuple}
use Rattle.gv_model.specs.Ty.Types.{end, member}
use Rattle.gv_model.specs.TypeText.{Seen, seen}
use Rattle.gv_model.specs.TypeText.Seen.{type, tuple_end, wrong}

-- whether a type is at the start, which, and what follows it
abbrev pub begins_type : Seen → Bool
begins_type (type t s) = true
begins_type _ = false

abbrev pub first_type : Seen → Ty
first_type (type t s) = t
first_type _ = tuple end

abbrev pub after : Seen → Seen
after (type t s) = s
after _ = wrong

-- whether types alone occur before a tuple's closing bracket, which, and what follows the bracket
abbrev pub closes : Seen → Bool
closes (type t s) = closes s
closes (tuple_end s) = true
closes _ = false

abbrev pub types_inside : Seen → Types
types_inside (type t s) = member t (types_inside s)
types_inside _ = end

abbrev pub after_close : Seen → Seen
after_close (type t s) = after_close s
after_close (tuple_end s) = s
after_close _ = wrong

-- ---- texts within the limits of a type's text

-- a type of at most 128 levels is at the start
pub record HasFirstType (text : List ℕ) : Type 0 where
  pub begins : begins_type (seen text) ≡ true
  pub nested : nesting (first_type (seen text)) ≤ 128
  pub short : length text ≤ 67108864

-- members of at most 128 levels are at the start, and then their tuple's closing bracket
pub record BeginsInside (text : List ℕ) : Type 0 where
  pub ends : closes (seen text) ≡ true
  pub nested : greatest_nesting (types_inside (seen text)) ≤ 128
  pub short : length text ≤ 67108864

-- the rest comes after the type at the start
pub record IsAfterFirst (text rest : List ℕ) : Type 0 where
  pub is : seen rest ≡ after (seen text)
  pub shorter : length rest < length text
