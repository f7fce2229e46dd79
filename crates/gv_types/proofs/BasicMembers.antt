-- A member of a basic type at the start of a text.
use Rattle.std.proofs.Common.{◌≡◌, ℕ, List, [], ◌∷◌, Some, None, true, false, refl, sym, ap, ◌∙◌}
use Rattle.std.proofs.lemmas.Bool.{and_parts}
use Rattle.std.proofs.lemmas.Option.{same_Some}
use Rattle.gv_model.specs.Ty.{Ty, spelling}
use Rattle.gv_model.specs.Ty.Ty.{basic, variant, array, maybe, tuple, entry}
use Rattle.gv_model.specs.Texts.{are_types}
use Rattle.gv_model.specs.TypeText.{Seen, is_within_limits, TypeMark, mark, mark_before, seen, array_before, maybe_before, entry_before, member_before, tuple_type_before}
use Rattle.gv_model.specs.TypeText.Seen.{type, nothing, tuple_end, entry_end, wrong}
use Rattle.gv_model.specs.TypeText.TypeMark.{letter, of_variant, of_array, of_maybe, open_tuple, close_tuple, open_entry, close_entry, other}
use Rattle.gv_types.specs.declared.class.BasicType.{BasicType}
use Rattle.gv_types.specs.declared.class.Class.TheVariants as classes
use Rattle.gv_types.specs.Classes.{basic_in, basic_of, class_of_mark}
use Rattle.gv_types.specs.Members.{begins_with_basic, types_in}
use Rattle.gv_types.proofs.ClassLaws.{basic_class}

cut_letter : (m : TypeMark) (s : Seen) (b : BasicType) → basic_in (class_of_mark m) ≡ Some b → mark_before m s ≡ type (basic (basic_of b)) s
cut_letter (letter k) s b e = ap (λ (t : Ty). type t s) (basic_class (basic k) b (ap classes.Basic (same_Some _ _ (sym e))))
cut_letter _ s b e = absurd cc

-- where the first letter is a basic type's, the members go on behind it
pub letter_seen : (w : List ℕ) (c : ℕ) (cs : List ℕ) (b : BasicType) → w ≡ c ∷ cs → basic_in (class_of_mark (mark c)) ≡ Some b → seen w ≡ type (basic (basic_of b)) (seen cs)
unfolding seen
letter_seen w c cs b is e = ap seen is ∙ cut_letter (mark c) (seen cs) b e

later : (s : Seen) (t : Ty) → are_types (type t s) ≡ true → are_types s ≡ true
later s t e = (and_parts (is_within_limits t (spelling t)) (are_types s) e).1

pub later_types : (w : List ℕ) (c : ℕ) (cs : List ℕ) (b : BasicType) → w ≡ c ∷ cs → basic_in (class_of_mark (mark c)) ≡ Some b → are_types (seen w) ≡ true → are_types (seen cs) ≡ true
later_types w c cs b is e h = later (seen cs) (basic (basic_of b)) (ap are_types (sym (letter_seen w c cs b is e)) ∙ h)

-- ---- no other mark begins a basic type

no_array : (s : Seen) → begins_with_basic (types_in (array_before s)) ≡ false
no_array (type t s) = refl
no_array _ = refl

no_maybe : (s : Seen) → begins_with_basic (types_in (maybe_before s)) ≡ false
no_maybe (type t s) = refl
no_maybe _ = refl

no_entry : (s : Seen) → begins_with_basic (types_in (entry_before s)) ≡ false
no_entry (type (basic k) (type t (entry_end s))) = refl
no_entry _ = refl

no_member : (t : Ty) (s : Seen) → begins_with_basic (types_in (member_before t s)) ≡ false
no_member t (type (tuple ts) s) = refl
no_member t _ = refl

no_tuple : (s : Seen) → begins_with_basic (types_in (tuple_type_before s)) ≡ false
unfolding tuple_type_before
no_tuple (type t s) = no_member t (tuple_type_before s)
no_tuple _ = refl

no_basic : (m : TypeMark) (s : Seen) → basic_in (class_of_mark m) ≡ None → begins_with_basic (types_in (mark_before m s)) ≡ false
no_basic (letter k) s h = absurd cc
no_basic of_array s h = no_array s
no_basic of_maybe s h = no_maybe s
no_basic open_tuple s h = no_tuple s
no_basic open_entry s h = no_entry s
no_basic _ s h = refl

pub other_seen : (w : List ℕ) (c : ℕ) (cs : List ℕ) → w ≡ c ∷ cs → basic_in (class_of_mark (mark c)) ≡ None → begins_with_basic (types_in (seen w)) ≡ false
unfolding seen
other_seen w c cs is h = ap (λ (v : List ℕ). begins_with_basic (types_in (seen v))) is ∙ no_basic (mark c) (seen cs) h

pub nothing_seen : (w : List ℕ) → w ≡ [] → begins_with_basic (types_in (seen w)) ≡ false
unfolding seen
nothing_seen w is = ap (λ (v : List ℕ). begins_with_basic (types_in (seen v))) is
