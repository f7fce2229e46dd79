-- The pattern that a form stands for, over its children's patterns.
use Rattle.std.specs.Prelude.{List, [], ◌∷◌}
use Rattle.gv_model.specs.Patterns.{Pattern as Value, Bare as TheBare, Patterns}
use Rattle.gv_model.specs.Patterns.Pattern.{anything, never, maybe_of, strict, loose}
use Rattle.gv_model.specs.Patterns.Bare.{basics, a_variant, array_of, tuple_with, entry_of, no_bare}
use Rattle.gv_model.specs.Patterns.Patterns.{stop, next}
use Rattle.gv_patterns.specs.BasicSets.{basic_set_of}
use Rattle.gv_patterns.specs.declared.pattern.PatternForm.{PatternForm}
use Rattle.gv_patterns.specs.declared.pattern.PatternForm.TheVariants as forms
use Rattle.gv_patterns.specs.declared.pattern.Bare.{Bare}
use Rattle.gv_patterns.specs.declared.pattern.Bare.TheVariants as bares

abbrev pub patterns_of : List Value → Patterns
patterns_of [] = stop
patterns_of (p ∷ ps) = next p (patterns_of ps)

abbrev pub bare_of : Bare → TheBare
bare_of (bares.Basic s) = basics (basic_set_of s)
bare_of bares.Variant = a_variant
bare_of (bares.Array p) = array_of p.value
bare_of (bares.Tuple ps) = tuple_with (patterns_of ps.items)
bare_of (bares.Entry s p) = entry_of (basic_set_of s) p.value
bare_of bares.Empty = no_bare

abbrev pub form_of : PatternForm → Value
form_of forms.Anything = anything
form_of forms.Never = never
form_of (forms.MaybeOf p) = maybe_of p.value
form_of (forms.Strict c) = strict (bare_of c)
form_of (forms.Loose c) = loose (bare_of c)
