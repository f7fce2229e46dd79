-- Types by their class.
use Rattle.std.proofs.Common.{◌≡◌, ◌⊎◌, inl, inr, ℕ, suc, ◌↔◌, IsTrue, Bool, List, Option, Some, refl, sym, ap, subst, ◌∙◌}
use Rattle.std.proofs.lemmas.Option.{none-some, same_Some}
use Rattle.gv_model.specs.Ty.{Ty}
use Rattle.gv_model.specs.Ty.Ty.{basic, variant, array, maybe, tuple, entry}
use Rattle.gv_model.specs.Layout.{fixed_size}
use Rattle.gv_types.specs.Classes.{class_of, basic_of, basic_type}
use Rattle.gv_types.specs.TypeStr.{element_of}
use Rattle.gv_types.specs.declared.class.Class.TheVariants as classes
use Rattle.gv_types.specs.declared.class.BasicType.{BasicType}
use Rattle.gv_model.specs.Normal.{IsEncoded}
use Rattle.gv_model.specs.Tree.{nodes}
use Rattle.gv_model.specs.Decode.{decode}
use Rattle.gv_normal.specs.InPlace.{IsNormalWithin, HasMembers}
use Rattle.gv_model.proofs.WellTyped.{IsBytes}
use Rattle.gv_normal.proofs.BasicBytes.{basic_within}
use Rattle.gv_normal.proofs.PackedParts.{basic_value_is_one}

pub fixed_members : (t : Ty) (n : ℕ) → ((k : BasicType) → class_of t ≡ classes.Basic k → ⊥) → fixed_size t ≡ Some n → HasMembers t
unfolding fixed_size
fixed_members (basic k) n h e = absurd (h (basic_type k) refl)
fixed_members variant n h e = absurd (none-some n e)
fixed_members (array t) n h e = absurd (none-some n e)
fixed_members (maybe t) n h e = absurd (none-some n e)
fixed_members (tuple ts) n h e = tt
fixed_members (entry k t) n h e = tt

pub members_class : (t : Ty) → (class_of t ≡ classes.Tuple) ⊎ (class_of t ≡ classes.Entry) → HasMembers t
members_class (tuple ts) h = tt
members_class (entry k t) h = tt
members_class (basic k) h = elim h [ inl e ↦ absurd cc | inr e ↦ absurd cc ]
members_class variant h = elim h [ inl e ↦ absurd cc | inr e ↦ absurd cc ]
members_class (array t) h = elim h [ inl e ↦ absurd cc | inr e ↦ absurd cc ]
members_class (maybe t) h = elim h [ inl e ↦ absurd cc | inr e ↦ absurd cc ]

pub array_class : (t u : Ty) (o : Option Ty) → classes.Array ≡ class_of t → element_of t ≡ Some u → t ≡ array u
array_class (array v) u o h e = ap array (same_Some v u e)
array_class (maybe v) u o h e = absurd cc
array_class (basic k) u o h e = absurd cc
array_class variant u o h e = absurd cc
array_class (tuple ts) u o h e = absurd cc
array_class (entry k t) u o h e = absurd cc

pub maybe_class : (t u : Ty) (o : Option Ty) → classes.Maybe ≡ class_of t → element_of t ≡ Some u → t ≡ maybe u
maybe_class (maybe v) u o h e = ap maybe (same_Some v u e)
maybe_class (array v) u o h e = absurd cc
maybe_class (basic k) u o h e = absurd cc
maybe_class variant u o h e = absurd cc
maybe_class (tuple ts) u o h e = absurd cc
maybe_class (entry k t) u o h e = absurd cc

-- a number's class and size
pub basic_here : (d n : ℕ) (t : Ty) (k : BasicType) (b : List ℕ) (r : Bool) → t ≡ basic (basic_of k) → n ≡ suc d → (IsTrue r ↔ IsEncoded (basic (basic_of k)) b) → (IsTrue r ↔ IsNormalWithin n t b)
basic_here d n t k b r is low h =
    let law = basic_within d (basic_of k) b in
    subst (λ (m : ℕ). IsTrue r ↔ IsNormalWithin m t b) (sym low) (subst (λ (u : Ty). IsTrue r ↔ IsNormalWithin (suc d) u b) (sym is) (λ g. law.1 (h.0 g), λ g. h.1 (law.0 g)))

-- and its one value
pub basic_values : (t : Ty) (k : BasicType) (b : List ℕ) → IsBytes b → t ≡ basic (basic_of k) → nodes (decode t b) ≡ 1
basic_values t k b bytes is = ap (λ (u : Ty). nodes (decode u b)) is ∙ basic_value_is_one (basic_of k) b bytes
