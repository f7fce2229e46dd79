-- The elements of an array have one type, so those without bytes are one value.
use Rattle.std.proofs.Common.{◌≡◌, ℕ, Bool, true, false, List, ◌∷◌, length, nat_le, eqb, eqb-true, refl, sym, ap, ◌∙◌, subst}
use Rattle.std.specs.Prelude.{All, IsTrue, ◌||◌, ◌&&◌}
use Rattle.std.proofs.lemmas.Bool.{false≢true}
use Rattle.std.proofs.lemmas.List.{nil_from_length}
use Rattle.std.proofs.lemmas.List.Elements.{All-head, All-tail}
use Rattle.gv_model.specs.Ty.{Ty}
use Rattle.gv_model.specs.Ty.Ty.{basic, variant, array, maybe, tuple, entry}
use Rattle.gv_model.specs.Tree.{default, depth}
use Rattle.gv_model.specs.Decode.{decode}
use Rattle.gv_model.specs.Parts.{Part, parts}
use Rattle.gv_model.proofs.EmptyLaws.{decode-nil}
use Rattle.gv_types.specs.Classes.{class_of}
use Rattle.gv_types.specs.declared.class.Class.TheVariants as classes
use Rattle.gv_view.proofs.PartValues.{part_value}
use Rattle.gv_view.proofs.TreeParts.{array_parts}

abbrev pub HasType : Ty → Part → Type 0
HasType t p = p.0 ≡ t

-- without bytes the part would have no more than these levels
abbrev pub FitsEmpty : ℕ → Part → Type 0
FitsEmpty levels p = nat_le (depth (default p.0)) levels ≡ true

-- Of the parts that are left it is known, in an array, that they have one type, and, where `empty_fits`, that without bytes they have no more than these levels.
pub record AreAlike (in_array empty_fits : Bool) (levels : ℕ) (left : List Part) : Type 0 where
  pub element : Ty
  pub alike : IsTrue in_array → All (HasType element) left
  pub fits : IsTrue empty_fits → All (FitsEmpty levels) left

-- the type of an array's elements
pub element_in : Ty → Ty
element_in (array t) = t
element_in t = t

pub in_array : (t : Ty) (b : List ℕ) → class_of t ≡ classes.Array → All (HasType (element_in t)) (parts t b)
unfolding element_in
in_array (array t) b is = array_parts t b
in_array (basic k) b is = absurd cc
in_array variant b is = absurd cc
in_array (maybe t) b is = absurd cc
in_array (tuple ts) b is = absurd cc
in_array (entry k t) b is = absurd cc

pub all_alike : (t : Ty) (b : List ℕ) (is_array : Bool) (levels : ℕ) (left : List Part) → (IsTrue is_array → class_of t ≡ classes.Array) → left ≡ parts t b → AreAlike is_array false levels left
all_alike t b is_array levels left h e = record {
  element = element_in t;
  alike = λ is. subst (λ (ps : List Part). All (HasType (element_in t)) ps) (sym e) (in_array t b (h is));
  fits = λ is. absurd (false≢true is);
}

-- what a value without bytes has, its type's default has
empty_part : (p : Part) (levels : ℕ) (all : Bool) → eqb (length p.1) 0 ≡ true → nat_le (depth (part_value p)) levels ≡ all → nat_le (depth (default p.0)) levels ≡ all
empty_part p levels all e h = sym (ap (λ v. nat_le (depth v) levels) (ap (decode p.0) (nil_from_length p.1 (eqb-true (length p.1) 0 e)) ∙ decode-nil p.0)) ∙ h

pub empty_fits_whole : (t : Ty) (b : List ℕ) (levels : ℕ) → eqb (length b) 0 ≡ true → nat_le (depth (default t)) levels ≡ true → nat_le (depth (decode t b)) levels ≡ true
empty_fits_whole t b levels e h = ap (λ v. nat_le (depth v) levels) (ap (decode t) (nil_from_length b (eqb-true (length b) 0 e)) ∙ decode-nil t) ∙ h

pub head_fits : (is_array empty_fits : Bool) (levels : ℕ) (p : Part) (ps left : List Part) → left ≡ p ∷ ps → AreAlike is_array empty_fits levels left → IsTrue empty_fits → nat_le (depth (default p.0)) levels ≡ true
head_fits is_array empty_fits levels p ps left e are is = All-head (FitsEmpty levels) p ps (subst (λ (qs : List Part). All (FitsEmpty levels) qs) e (are.fits is))

pub later_alike : (is_array empty_fits is_empty new : Bool) (levels : ℕ) (p : Part) (ps left : List Part) → left ≡ p ∷ ps → AreAlike is_array empty_fits levels left → new ≡ empty_fits || is_empty && is_array
    → is_empty ≡ eqb (length p.1) 0 → nat_le (depth (part_value p)) levels ≡ true → AreAlike is_array new levels ps
later_alike is_array empty_fits is_empty new levels p ps left e are is empty fits =
    let same : IsTrue is_array → All (HasType are.element) (p ∷ ps) = λ a. subst (λ (qs : List Part). All (HasType are.element) qs) e (are.alike a) in
    record {
      element = are.element;
      alike = λ a. All-tail (HasType are.element) p ps (same a);
      fits = λ h. known empty_fits is_empty is_array refl refl refl (sym is ∙ h) same;
    }
  where
    known : (a b c : Bool) → empty_fits ≡ a → is_empty ≡ b → is_array ≡ c → a || b && c ≡ true → (IsTrue is_array → All (HasType are.element) (p ∷ ps))
        → All (FitsEmpty levels) ps
    known true b c x y z h same = All-tail (FitsEmpty levels) p ps (subst (λ (qs : List Part). All (FitsEmpty levels) qs) e (are.fits x))
    known false true true x y z h same =
        let all = same z in
        let one = All-head (HasType are.element) p ps all in
        let fitting = empty_part p levels true (sym empty ∙ y) fits in
        λ k d lt. ap (λ u. nat_le (depth (default u)) levels) (All-tail (HasType are.element) p ps all k d lt ∙ sym one) ∙ fitting
    known false true false x y z h same = absurd (false≢true h)
    known false false c x y z h same = absurd (false≢true h)
