-- What the first byte of a type says of the type.
use Rattle.std.proofs.Common.{ℕ, ◌≡◌, [], ◌∷◌, get_or, Option, Some, None, sym, ap, ◌∙◌, subst}
use Rattle.std.proofs.lemmas.Option.{same_Some, none-some}
use Rattle.gv_model.specs.Ty.{Basic, spelling, letter as letter_of}
use Rattle.gv_model.specs.Ty.Ty.{basic, variant, array, maybe, tuple, entry}
use Rattle.gv_model.specs.Ty.Types.{end}
use Rattle.gv_model.specs.Ty.Basic.{boolean}
use Rattle.gv_model.specs.TypeText.{TypeMark, mark}
use Rattle.gv_model.specs.TypeText.TypeMark.{letter, of_variant, of_array, of_maybe, open_tuple, close_tuple, open_entry, close_entry, other}
use Rattle.gv_model.specs.TypeFault.{BeginsType, IsKey}
use Rattle.gv_model.proofs.TypeTextLaws.{mark_letter}
use Rattle.gv_model.proofs.TypeTextSound.{byte_of_mark, IsByteOf}
use Rattle.gv_types.specs.declared.class.BasicType.{BasicType}
use Rattle.gv_types.specs.declared.class.Class.{Class}
use Rattle.gv_types.specs.declared.class.Class.TheVariants as classes
use Rattle.gv_types.specs.Classes.{basic_of, basic_type, class_of_mark}
use Rattle.gv_types.proofs.ClassLaws.{basic_of-basic_type}
use Rattle.gv_types.proofs.Letters.{starts_with_class}

-- the byte is the first of the types of a class
abbrev pub IsFirst : Option Class → ℕ → Type 0
IsFirst None b = Unit {0}
IsFirst (Some (classes.Basic k)) b = b ≡ letter_of (basic_of k)
IsFirst (Some classes.Variant) b = b ≡ 118
IsFirst (Some classes.Array) b = b ≡ 97
IsFirst (Some classes.Maybe) b = b ≡ 109
IsFirst (Some classes.Tuple) b = b ≡ 40
IsFirst (Some classes.Entry) b = b ≡ 123

first_of_mark : (m : TypeMark) (b : ℕ) → IsByteOf m b → IsFirst (class_of_mark m) b
first_of_mark (letter k) b e = e ∙ ap letter_of (sym (basic_of-basic_type k))
first_of_mark close_tuple b e = tt
first_of_mark close_entry b e = tt
first_of_mark other b e = tt
first_of_mark _ b e = e

pub first_of_class : (b : ℕ) (c : Option Class) → class_of_mark (mark b) ≡ c → IsFirst c b
first_of_class b c e = subst (λ (d : Option Class). IsFirst d b) e (first_of_mark (mark b) b (byte_of_mark b))

-- a byte of no class begins no type
pub begins_none : (b : ℕ) → class_of_mark (mark b) ≡ None → BeginsType b → ⊥
begins_none b e h =
    let first = starts_with_class h.0 in
    none-some _ (sym (sym first.class ∙ (ap (λ w. class_of_mark (mark (get_or w 0 0))) h.1.1 ∙ e)))

begins_class : (b : ℕ) (c : Class) → IsFirst (Some c) b → BeginsType b
unfolding spelling
begins_class b (classes.Basic k) e = (basic (basic_of k), ([], ap (λ x. x ∷ []) (sym e)))
begins_class b classes.Variant e = (variant, ([], ap (λ x. x ∷ []) (sym e)))
begins_class b classes.Array e = (array variant, (spelling variant, ap (λ x. x ∷ spelling variant) (sym e)))
begins_class b classes.Maybe e = (maybe variant, (spelling variant, ap (λ x. x ∷ spelling variant) (sym e)))
begins_class b classes.Tuple e = (tuple end, (41 ∷ [], ap (λ x. x ∷ 41 ∷ []) (sym e)))
begins_class b classes.Entry e = (entry boolean variant, (98 ∷ 118 ∷ 125 ∷ [], ap (λ x. x ∷ 98 ∷ 118 ∷ 125 ∷ []) (sym e)))

-- a byte of some class begins a type
pub begins_some : (b : ℕ) (c : Class) → class_of_mark (mark b) ≡ Some c → BeginsType b
begins_some b c e = begins_class b c (first_of_class b (Some c) e)

-- the letter of a key is of a basic class
class_of_key : (b : ℕ) (k : Basic) → b ≡ letter_of k → class_of_mark (mark b) ≡ Some (classes.Basic (basic_type k))
class_of_key b k e = ap (λ x. class_of_mark (mark x)) e ∙ ap class_of_mark (mark_letter k)

pub first_is : (b : ℕ) (c d : Class) → class_of_mark (mark b) ≡ Some c → c ≡ d → IsFirst (Some d) b
first_is b c d e is = first_of_class b (Some d) (e ∙ ap Some is)

-- a byte of a basic class is a key, and no other is
pub is_key : (b : ℕ) (c : Class) (k : BasicType) → class_of_mark (mark b) ≡ Some c → c ≡ classes.Basic k → IsKey b
is_key b c k e is = (basic_of k, first_is b c (classes.Basic k) e is)

pub is_no_key : (b : ℕ) (c : Class) → class_of_mark (mark b) ≡ Some c → ((k : BasicType) → c ≡ classes.Basic k → ⊥) → IsKey b → ⊥
is_no_key b c e not_basic k = not_basic (basic_type k.0) (same_Some c (classes.Basic (basic_type k.0)) (sym e ∙ class_of_key b k.0 k.1))
