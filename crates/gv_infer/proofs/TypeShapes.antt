-- What a type's class and its parts say of it.
use Rattle.std.proofs.Common.{◌≡◌, ◌≢◌, ◌<◌, ◌↔◌, List, [], ◌∷◌, Option, Some, refl, arith}
use Rattle.std.specs.Prelude.{option_map}
use Rattle.gv_model.specs.Ty.{Ty, nesting, type_list, members}
use Rattle.gv_model.specs.Ty.Ty.{array, maybe, entry}
use Rattle.gv_model.specs.Admits.{AlsoMaybe}
use Rattle.gv_types.specs.Classes.{class_of}
use Rattle.gv_types.specs.TypeStr.{ty, element_of, key_of}
use Rattle.gv_types.specs.declared.class.Class.{Class}
use Rattle.gv_types.specs.declared.class.Class.TheVariants as classes
use Rattle.gv_types.specs.declared.type_str.TypeStr.{TypeStr}
use Rattle.gv_infer.specs.BareTypes.{bare_type, AreEntryTypes}

-- a maybe holds its element
pub maybe_of : (t : Ty) (c : Class) (e : Option TypeStr) (u : TypeStr) → c ≡ class_of t → c ≡ classes.Maybe → option_map ty e ≡ element_of t → e ≡ Some u → t ≡ maybe (ty u)
maybe_of (maybe t) c e u h g m s = cc
maybe_of _ c e u h g m s = absurd cc

-- and so does an array
pub array_of : (t : Ty) (c : Class) (e : Option TypeStr) (u : TypeStr) → c ≡ class_of t → c ≡ classes.Array → option_map ty e ≡ element_of t → e ≡ Some u → t ≡ array (ty u)
array_of (array t) c e u h g m s = cc
array_of _ c e u h g m s = absurd cc

pub bare_none : (t : Ty) → class_of t ≢ classes.Maybe → t ≡ bare_type t
bare_none (maybe t) h = absurd (h refl)
bare_none _ h = refl

-- a type and its maybes are alike
pub also_bare : (P : Ty → Type 0) (t : Ty) → AlsoMaybe P t ↔ P (bare_type t)
also_bare P (maybe t) = also_bare P t
also_bare P _ = (λ h. h, λ h. h)

pub less_than_maybe : (t u : Ty) → t ≡ maybe u → nesting u < nesting t
unfolding nesting
less_than_maybe t u e = rw e (omega arith)

-- the key and the members of an entry
pub entry_types_of : (t : Ty) (o : Option TypeStr) (key a b : TypeStr) (left rest : List Ty) → option_map ty o ≡ key_of t → o ≡ Some key → type_list (members t) ≡ ty a ∷ left → left ≡ ty b ∷ rest → AreEntryTypes t (Some (key, b))
unfolding type_list
entry_types_of (entry k t) o key a b left rest h e g f = (cc, cc)
entry_types_of _ o key a b left rest h e g f = absurd cc

pub entry_has_two : (t : Ty) (o : Option TypeStr) (key : TypeStr) → option_map ty o ≡ key_of t → o ≡ Some key → (type_list (members t) ≡ [] → ⊥) × ((a : TypeStr) (left : List Ty) → type_list (members t) ≡ ty a ∷ left → left ≡ [] → ⊥)
unfolding type_list
entry_has_two (entry k t) o key h e = (λ f. absurd cc, λ a left g f. absurd cc)
entry_has_two _ o key h e = absurd cc
