-- How many parts a pattern has, itself and all in it.
use Rattle.std.specs.Prelude.{ℕ, suc, ◌+◌}
use Rattle.gv_model.specs.Patterns.{Pattern, Bare, Patterns}
use Rattle.gv_model.specs.Patterns.Pattern.{anything, never, maybe_of, strict, loose}
use Rattle.gv_model.specs.Patterns.Bare.{basics, a_variant, array_of, tuple_with, entry_of, no_bare}
use Rattle.gv_model.specs.Patterns.Patterns.{stop, next}

unfoldable mutual
  pub parts : Pattern → ℕ
  parts anything = 1
  parts never = 1
  parts (maybe_of p) = suc (parts p)
  parts (strict c) = suc (bare_parts c)
  parts (loose c) = suc (bare_parts c)

  pub bare_parts : Bare → ℕ
  bare_parts (basics s) = 1
  bare_parts a_variant = 1
  bare_parts (array_of p) = suc (parts p)
  bare_parts (tuple_with ps) = suc (all_parts ps)
  bare_parts (entry_of s p) = suc (parts p)
  bare_parts no_bare = 1

  pub all_parts : Patterns → ℕ
  all_parts stop = 0
  all_parts (next p ps) = suc (parts p + all_parts ps)
