-- How deep the parts of a type nest.
use Rattle.std.proofs.Common.{ℕ, ◌+◌, ◌≤◌, ◌≡◌, max, List, [], ◌∷◌, Option, Some, None, true, refl, ap, arith, ◌⊎◌, inl, inr, length}
use Rattle.std.specs.Prelude.{option_map}
use Rattle.std.proofs.lemmas.Option.{same_Some}
use Rattle.gv_model.specs.Ty.{Ty, Types, nesting, greatest_nesting, type_list, members}
use Rattle.gv_model.specs.Ty.Ty.{basic, variant, array, maybe, tuple, entry}
use Rattle.gv_model.specs.Ty.Types.{end, member}
use Rattle.gv_model.specs.TypeText.{is_type, type_at}
use Rattle.gv_model.proofs.TypeTextParts.{spelling-type_at}
use Rattle.gv_model.proofs.TypeTextLaws.{limits_of}
use Rattle.gv_model.proofs.Prefixes.{nesting-positive}
use Rattle.gv_types.specs.declared.type_str.TypeStr.{TypeStr}
use Rattle.gv_types.specs.declared.class.BasicType.{BasicType}
use Rattle.gv_types.specs.declared.class.Class.{Class}
use Rattle.gv_types.specs.declared.class.Class.TheVariants as classes
use Rattle.gv_types.specs.Classes.{class_of}
use Rattle.gv_types.specs.TypeStr.{ty, element_of}

abbrev pub greatest_of : List Ty → ℕ
greatest_of [] = 0
greatest_of (t ∷ ts) = max (nesting t) (greatest_of ts)

pub greatest_of-listed : (ts : Types) → greatest_of (type_list ts) ≡ greatest_nesting ts
unfolding nesting type_list
greatest_of-listed end = refl
greatest_of-listed (member t ts) = ap (max (nesting t)) (greatest_of-listed ts)

pub short_type : (w : List ℕ) → is_type w ≡ true → length w ≤ 67108864
short_type w h = (limits_of (type_at w) w (spelling-type_at w h).1).1

-- a checked text's type nests within the limit
pub low_type : (w : List ℕ) → is_type w ≡ true → nesting (type_at w) ≤ 128
low_type w h = (limits_of (type_at w) w (spelling-type_at w h).1).0

-- the type that an array or a maybe holds nests one less
pub element_nesting : (t : Ty) (o : Option TypeStr) (e : TypeStr) → option_map ty o ≡ element_of t → o ≡ Some e → nesting t ≡ nesting (ty e) + 1
unfolding nesting
element_nesting t None e h g = absurd cc
element_nesting (array t) (Some x) e h g = omega (arith, ap nesting (same_Some (ty x) t h), ap (λ (y : TypeStr). nesting (ty y)) (same_Some x e g))
element_nesting (maybe t) (Some x) e h g = omega (arith, ap nesting (same_Some (ty x) t h), ap (λ (y : TypeStr). nesting (ty y)) (same_Some x e g))
element_nesting _ (Some x) e h g = absurd cc

-- a tuple and an entry nest one more than their deepest member
pub members_nesting : (t : Ty) (c : Class) → c ≡ class_of t → ((c ≡ classes.Tuple) ⊎ (c ≡ classes.Entry)) → nesting t ≡ greatest_nesting (members t) + 1
unfolding nesting
members_nesting (tuple ts) c e h = omega arith
members_nesting (entry k t) c e h = omega (arith, nesting-positive t)
members_nesting (basic k) c e (inr h) = absurd cc
members_nesting variant c e (inr h) = absurd cc
members_nesting (array t) c e (inr h) = absurd cc
members_nesting (maybe t) c e (inr h) = absurd cc
members_nesting _ c e (inl h) = absurd cc

-- a basic type and a variant's have one level
pub one_level : (t : Ty) (c : Class) → c ≡ class_of t → (((k : BasicType) × (c ≡ classes.Basic k)) ⊎ (c ≡ classes.Variant)) → 1 ≡ nesting t
unfolding nesting
one_level (basic k) c e h = refl
one_level variant c e h = refl
one_level (array t) c e (inr h) = absurd cc
one_level (maybe t) c e (inr h) = absurd cc
one_level (tuple ts) c e (inr h) = absurd cc
one_level (entry k t) c e (inr h) = absurd cc
one_level _ c e (inl h) = let is : c ≡ classes.Basic h.0 = h.1 in absurd cc
