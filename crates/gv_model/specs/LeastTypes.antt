-- The least type in a pattern, where it has one.
use Rattle.std.specs.Prelude.{if◌then◌else◌, nat_le}
use Rattle.gv_model.specs.Ty.{Ty, Types, Basic, nesting}
use Rattle.gv_model.specs.Ty.Ty.{basic, variant, array, maybe, tuple, entry}
use Rattle.gv_model.specs.Ty.Types.{end, member}
use Rattle.gv_model.specs.Ty.Basic.{boolean, int32, string}
use Rattle.gv_model.specs.Syntax.{Syntax}
use Rattle.gv_model.specs.Chosen.{Choice}
use Rattle.gv_model.specs.Chosen.Choice.{is, no_common_type, ambiguous}
use Rattle.gv_model.specs.Patterns.{BasicSet, Pattern, Bare, Patterns, pattern}
use Rattle.gv_model.specs.Patterns.BasicSet.{any, numbers, texts, empty, only}
use Rattle.gv_model.specs.Patterns.Pattern.{anything, never, maybe_of, strict, loose}
use Rattle.gv_model.specs.Patterns.Bare.{basics, a_variant, array_of, tuple_with, entry_of, no_bare}
use Rattle.gv_model.specs.Patterns.Patterns.{stop, next}

pub data Least : Type 0 where
  -- nothing is in it
  nowhere : Least
  -- t is in it, and below all in it
  least : Ty → Least
  -- t is in it, as shallow as any, and none is below all in it
  many : Ty → Least

pub data Leasts : Type 0 where
  nowhere_each : Leasts
  least_each : Types → Leasts
  many_each : Types → Leasts

abbrev pub least_with : (Ty → Ty) → Least → Least
least_with f nowhere = nowhere
least_with f (least t) = least (f t)
least_with f (many t) = many (f t)

abbrev pub least_basics : (Basic → Ty) → BasicSet → Least
least_basics f any = many (f boolean)
least_basics f numbers = least (f int32)
least_basics f texts = least (f string)
least_basics f empty = nowhere
least_basics f (only k) = least (f k)

abbrev pub least_entry : Least → (Basic → Least) → Least
least_entry nowhere f = nowhere
least_entry (least (basic k)) f = f k
least_entry (many (basic k)) f = least_entry_many (f k)
  where
    least_entry_many : Least → Least
    least_entry_many nowhere = nowhere
    least_entry_many (least t) = many t
    least_entry_many (many t) = many t
least_entry _ f = nowhere

abbrev pub least_tuple : Leasts → Least
least_tuple nowhere_each = nowhere
least_tuple (least_each ts) = least (tuple ts)
least_tuple (many_each ts) = many (tuple ts)

abbrev pub least_member : Least → Leasts → Leasts
least_member nowhere ts = nowhere_each
least_member (least t) nowhere_each = nowhere_each
least_member (least t) (least_each ts) = least_each (member t ts)
least_member (least t) (many_each ts) = many_each (member t ts)
least_member (many t) nowhere_each = nowhere_each
least_member (many t) (least_each ts) = many_each (member t ts)
least_member (many t) (many_each ts) = many_each (member t ts)

unfoldable mutual
  pub least_in : Pattern → Least
  least_in anything = many variant
  least_in never = nowhere
  least_in (maybe_of p) = least_with maybe (least_in p)
  least_in (strict c) = least_bare c
  least_in (loose c) = least_bare c

  pub least_bare : Bare → Least
  least_bare (basics s) = least_basics basic s
  least_bare a_variant = least variant
  least_bare (array_of p) = least_with array (least_in p)
  least_bare (tuple_with ps) = least_tuple (leasts_in ps)
  least_bare (entry_of s p) = least_entry (least_basics basic s) (λ k. least_with (entry k) (least_in p))
  least_bare no_bare = nowhere

  pub leasts_in : Patterns → Leasts
  leasts_in stop = least_each end
  leasts_in (next p ps) = least_member (least_in p) (leasts_in ps)

abbrev pub choice_from : Least → Choice
choice_from nowhere = no_common_type
choice_from (least t) = if nat_le (nesting t) 128 then is t else no_common_type
choice_from (many t) = if nat_le (nesting t) 128 then ambiguous else no_common_type

-- the chosen type of a syntax tree
unfoldable pub choice : Syntax → Choice
choice x = choice_from (least_in (pattern x))
