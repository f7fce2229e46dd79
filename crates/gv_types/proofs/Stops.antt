-- Where reading stops, there is no type.
use Rattle.std.proofs.Common.{ℕ, ◌≤◌, ◌≡◌, List, [], ◌∷◌, ◌++◌, sym, ap, ◌∙◌, arith, length, length-append}
use Rattle.gv_model.specs.Ty.{Ty, spelling, nesting}
use Rattle.gv_model.specs.TypeFault.{Prefix, prefix_text}
use Rattle.gv_model.proofs.Prefixes.{prefix_is_shorter, prefix_goes_on}
use Rattle.gv_types.specs.declared.grammar.Halt.{Halt}
use Rattle.gv_types.specs.declared.grammar.Halt.TheVariants.{Unclosed, BadChar, KeyNotBasic, TooDeep}
use Rattle.gv_types.specs.TypePrefix.{HaltsAfter, HaltsAt}

none_goes_on : (room : ℕ) (f : Prefix) (t : Ty) (x rest : List ℕ) (h : Halt) → HaltsAfter room f rest h → spelling t ++ x ≡ prefix_text f ++ rest → nesting t ≤ room → ⊥
none_goes_on room f t x [] Unclosed s e n = omega (arith, ap length e, length-append (spelling t) x, length-append (prefix_text f) [], prefix_is_shorter f t x [] e)
none_goes_on room f t x (b ∷ rest) BadChar s e n = s (prefix_goes_on f t x b rest e).allowed
none_goes_on room f t x (b ∷ rest) KeyNotBasic s e n = s.2 ((prefix_goes_on f t x b rest e).key s.0)
none_goes_on room f t x (b ∷ rest) TooDeep s e n = omega (arith, s.0, (prefix_goes_on f t x b rest e).deep s.1)
none_goes_on room f t x rest h s e n = absurd s

-- no type of these levels occurs at the start of a text in which reading stops
pub no_type_where_stopped : (room : ℕ) (text rest : List ℕ) (h : Halt) (t : Ty) (x : List ℕ) → HaltsAt room text rest h → text ≡ spelling t ++ x → nesting t ≤ room → ⊥
no_type_where_stopped room text rest h t x s e n = none_goes_on room s.prefix t x rest h s.stops (sym e ∙ s.whole) n
