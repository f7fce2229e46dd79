-- When a type is the one that is asked for.
use Rattle.std.proofs.Common.{◌≡◌, ◌↔◌, Bool, List, [], ◌∷◌, refl, sym, ap, ◌∙◌}
use Rattle.std.specs.Prelude.{IsTrue}
use Rattle.gv_model.specs.Ty.{Ty, Types, spelling, type_list, types_from}
use Rattle.gv_model.specs.Ty.Ty.{basic, variant, array}
use Rattle.gv_model.specs.Ty.Basic.{boolean, byte}
use Rattle.gv_model.specs.Syntax.{Syntaxes}
use Rattle.gv_model.specs.Admits.{AlsoMaybe, Admit}
use Rattle.gv_model.proofs.ListLaws.{types_from-listed}
use Rattle.gv_model.proofs.TypeTextLaws.{one_spelling}
use Rattle.gv_types.specs.Classes.{class_of}
use Rattle.gv_types.specs.declared.class.Class.{Class}
use Rattle.gv_types.specs.declared.class.Class.TheVariants as classes
use Rattle.gv_types.specs.declared.class.BasicType.TheVariants as basics
use Rattle.gv_infer.specs.BareTypes.{bare_type}
use Rattle.gv_infer.proofs.TypeShapes.{also_bare}

-- what is asked of the bare type is asked of the type
pub also_where_bare : (P : Ty → Type 0) (b : Bool) (t u : Ty) → u ≡ bare_type t → (IsTrue b ↔ P u) → (IsTrue b ↔ AlsoMaybe P t)
also_where_bare P b t u e h =
    let also = also_bare P t in
    (λ y. also.1 (rw e at (h.0 y)), λ y. h.1 (rw e (also.0 y)))

pub is_boolean : (t : Ty) (c : Class) → c ≡ class_of t → (c ≡ classes.Basic basics.Boolean) ↔ (t ≡ basic boolean)
is_boolean (basic boolean) c h = (λ e. refl, λ e. h)
is_boolean _ c h = (λ e. absurd cc, λ e. absurd cc)

pub is_variant : (t : Ty) (c : Class) → c ≡ class_of t → (c ≡ classes.Variant) ↔ (t ≡ variant)
is_variant variant c h = (λ e. refl, λ e. h)
is_variant _ c h = (λ e. absurd cc, λ e. absurd cc)

pub is_byte_array : (t : Ty) (s : List _) → s ≡ spelling t → (s ≡ 97 ∷ 121 ∷ []) ↔ (t ≡ array (basic byte))
unfolding spelling
is_byte_array t s h = (λ e. one_spelling t (array (basic byte)) (sym h ∙ e), λ e. h ∙ ap spelling e)

pub admit_listed : (xs : Syntaxes) (ts : Types) (left : List Ty) → left ≡ type_list ts → Admit xs ts ↔ Admit xs (types_from left)
admit_listed xs ts left e =
    let same : types_from left ≡ ts = ap types_from e ∙ types_from-listed ts in
    (λ h. rw same h, λ h. rw same at h)
