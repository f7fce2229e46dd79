-- Patterns as trees of numbers, by which a proof tells them apart. Nothing here is to be believed: that they are told apart is proved.
use Rattle.std.specs.Prelude.{◌≡◌, ℕ, zero, suc, refl}
use Rattle.std.specs.Coded.{Coded, code_by}
use Rattle.std.proofs.Common.{ap, ap₂}
use base.Stored.{Gv, gnil, gnum, gcons, num}
use Rattle.gv_model.specs.Patterns.{BasicSet, Pattern, Bare, Patterns}
use Rattle.gv_model.specs.Patterns.BasicSet.{any, numbers, texts, empty, only}
use Rattle.gv_model.specs.Patterns.Pattern.{anything, never, maybe_of, strict, loose}
use Rattle.gv_model.specs.Patterns.Bare.{basics, a_variant, array_of, tuple_with, entry_of, no_bare}
use Rattle.gv_model.specs.Patterns.Patterns.{stop, next}
use Rattle.gv_model.specs.Ty.{letter as letter_of}
use Rattle.gv_model.specs.Codes.{coded_gv, basic_of_code}
use Rattle.gv_model.proofs.CodeLaws.{basic_back}

abbrev basics_gv : BasicSet → Gv
basics_gv any = gnum 0
basics_gv numbers = gnum 1
basics_gv texts = gnum 2
basics_gv empty = gnum 3
basics_gv (only k) = gcons (gnum (letter_of k)) gnil

abbrev basics_at : ℕ → BasicSet
basics_at zero = any
basics_at (suc zero) = numbers
basics_at (suc (suc zero)) = texts
basics_at (suc (suc (suc n))) = empty

abbrev gv_basics : Gv → BasicSet
gv_basics (gcons k g) = only (basic_of_code k)
gv_basics g = basics_at (num g)

basics_back : (s : BasicSet) → gv_basics (basics_gv s) ≡ s
basics_back any = refl
basics_back numbers = refl
basics_back texts = refl
basics_back empty = refl
basics_back (only k) = ap only (basic_back k)

abbrev mutual
  pattern_gv : Pattern → Gv
  pattern_gv anything = gcons (gnum 0) gnil
  pattern_gv never = gcons (gnum 1) gnil
  pattern_gv (maybe_of p) = gcons (gnum 2) (pattern_gv p)
  pattern_gv (strict c) = gcons (gnum 3) (bare_gv c)
  pattern_gv (loose c) = gcons (gnum 4) (bare_gv c)

  bare_gv : Bare → Gv
  bare_gv (basics s) = gcons (gnum 0) (basics_gv s)
  bare_gv a_variant = gcons (gnum 1) gnil
  bare_gv (array_of p) = gcons (gnum 2) (pattern_gv p)
  bare_gv (tuple_with ps) = gcons (gnum 3) (patterns_gv ps)
  bare_gv (entry_of s p) = gcons (gnum 4) (gcons (basics_gv s) (pattern_gv p))
  bare_gv no_bare = gcons (gnum 5) gnil

  patterns_gv : Patterns → Gv
  patterns_gv stop = gnil
  patterns_gv (next p ps) = gcons (pattern_gv p) (patterns_gv ps)

abbrev pattern_tagged : ℕ → Pattern → Bare → Pattern
pattern_tagged zero p c = anything
pattern_tagged (suc zero) p c = never
pattern_tagged (suc (suc zero)) p c = maybe_of p
pattern_tagged (suc (suc (suc zero))) p c = strict c
pattern_tagged (suc (suc (suc (suc n)))) p c = loose c

abbrev bare_tagged : ℕ → BasicSet → Pattern → Patterns → Bare → Bare
bare_tagged zero s p ps c = basics s
bare_tagged (suc zero) s p ps c = a_variant
bare_tagged (suc (suc zero)) s p ps c = array_of p
bare_tagged (suc (suc (suc zero))) s p ps c = tuple_with ps
bare_tagged (suc (suc (suc (suc zero)))) s p ps c = c
bare_tagged (suc (suc (suc (suc (suc n))))) s p ps c = no_bare

abbrev mutual
  gv_pattern : Gv → Pattern
  gv_pattern (gcons a c) = pattern_tagged (num a) (gv_pattern c) (gv_bare c)
  gv_pattern _ = anything

  gv_bare : Gv → Bare
  gv_bare (gcons a c) = bare_tagged (num a) (gv_basics c) (gv_pattern c) (gv_patterns c) (gv_entry c)
  gv_bare _ = no_bare

  gv_entry : Gv → Bare
  gv_entry (gcons s p) = entry_of (gv_basics s) (gv_pattern p)
  gv_entry _ = no_bare

  gv_patterns : Gv → Patterns
  gv_patterns (gcons p ps) = next (gv_pattern p) (gv_patterns ps)
  gv_patterns _ = stop

mutual
  pub pattern_back : (p : Pattern) → gv_pattern (pattern_gv p) ≡ p
  pattern_back anything = refl
  pattern_back never = refl
  pattern_back (maybe_of p) = ap maybe_of (pattern_back p)
  pattern_back (strict c) = ap strict (bare_back c)
  pattern_back (loose c) = ap loose (bare_back c)

  bare_back : (c : Bare) → gv_bare (bare_gv c) ≡ c
  bare_back (basics s) = ap basics (basics_back s)
  bare_back a_variant = refl
  bare_back (array_of p) = ap array_of (pattern_back p)
  bare_back (tuple_with ps) = ap tuple_with (patterns_back ps)
  bare_back (entry_of s p) = ap₂ entry_of (basics_back s) (pattern_back p)
  bare_back no_bare = refl

  patterns_back : (ps : Patterns) → gv_patterns (patterns_gv ps) ≡ ps
  patterns_back stop = refl
  patterns_back (next p ps) = ap₂ next (pattern_back p) (patterns_back ps)

abbrev pub coded_pattern : Coded Pattern
coded_pattern = code_by Gv coded_gv pattern_gv gv_pattern pattern_back
