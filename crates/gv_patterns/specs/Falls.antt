-- A pattern has more parts in it than each of its children.
use Rattle.std.specs.Prelude.{◌+◌, ◌≤◌, max, List, [], ◌∷◌}
use Rattle.std.proofs.Common.{arith}
use denote.Param.Weighed.{most}
use Rattle.gv_model.specs.Patterns.{Pattern as Value}
use Rattle.gv_patterns.specs.declared.pattern.PatternForm.{PatternForm}
use Rattle.gv_patterns.specs.declared.pattern.PatternForm.TheVariants as forms
use Rattle.gv_patterns.specs.declared.pattern.Bare.{Bare}
use Rattle.gv_patterns.specs.declared.pattern.Bare.TheVariants as bares
use Rattle.gv_patterns.specs.declared.pattern.Pattern.TheDeep.{deep-PatternForm, deep-Bare}
use Rattle.gv_patterns.specs.Forms.{patterns_of, bare_of, form_of}
use Rattle.gv_patterns.specs.Parts.{parts, bare_parts, all_parts}

most_le-all_parts : (ps : List Value) → most (λ p. parts p + 1) ps ≤ all_parts (patterns_of ps) + 1
unfolding parts
most_le-all_parts [] = omega arith
most_le-all_parts (p ∷ ps) = omega (arith, most_le-all_parts ps)

deep-le_bare_parts : (c : Bare) → max (deep-Bare c) 0 ≤ bare_parts (bare_of c)
unfolding parts
deep-le_bare_parts (bares.Basic s) = omega arith
deep-le_bare_parts bares.Variant = omega arith
deep-le_bare_parts (bares.Array p) = omega arith
deep-le_bare_parts (bares.Tuple ps) = omega (arith, most_le-all_parts ps.items)
deep-le_bare_parts (bares.Entry s p) = omega arith
deep-le_bare_parts bares.Empty = omega arith

pub deep-le_parts : (f : PatternForm) → max (deep-PatternForm f) 0 ≤ parts (form_of f)
unfolding parts
deep-le_parts forms.Anything = omega arith
deep-le_parts forms.Never = omega arith
deep-le_parts (forms.MaybeOf p) = omega arith
deep-le_parts (forms.Strict c) = omega (arith, deep-le_bare_parts c)
deep-le_parts (forms.Loose c) = omega (arith, deep-le_bare_parts c)
