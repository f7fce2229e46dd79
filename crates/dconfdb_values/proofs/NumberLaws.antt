-- Numbers, and the letters of their types.
use Rattle.std.specs.Prelude.{IsSome, slice_index_or}
use Rattle.std.proofs.Common.{◌≡◌, ◌==◌, ◌∷◌, [], ℕ, Bool, true, false, cond, List, length, Option, Some, None, refl, sym, ap, subst, ◌∙◌, inl, inr, arith, eq-eqb, ne_eqb}
use Rattle.std.proofs.lemmas.Option.{none-some}
use Rattle.gv_model.specs.Ty.{Basic, letter, nesting, spelling}
use Rattle.gv_model.specs.Ty.Ty.{basic}
use Rattle.gv_model.specs.Ty.Basic.{double, handle, int64, uint64, string, path, signature}
use Rattle.gv_model.specs.BasicValue.{basic_of_size, basic_value, bits_of, number_in, truth}
use Rattle.gv_model.specs.Decode.{decode}
use Rattle.gv_model.specs.Layout.{basic_size}
use Rattle.gv_model.specs.Tree.{basic_default}
use Rattle.gv_model.specs.Tree.Tree.{number}
use Rattle.gv_model.specs.TypeText.{TypeMark, mark, type_of_text}
use Rattle.gv_model.specs.TypeText.TypeMark.{letter as mark_of}
use Rattle.gv_model.proofs.DecodeLaws.{decode_children}
use Rattle.gv_model.proofs.TypeTextLaws.{mark_letter, type_of_text-spelling}
use Rattle.gv_model.proofs.TypeTextSound.{IsByteOf, byte_of_mark, spelling_of_read}
use Rattle.gv_types.specs.Classes.{basic_of, basic_type}
use Rattle.gv_types.specs.declared.class.BasicType.{BasicType}
use Rattle.gv_types.specs.declared.class.BasicType.TheVariants as basics
use Rattle.gv_types.proofs.ClassLaws.{basic_of-basic_type}
use Rattle.dconfdb_values.specs.Numbers.{IsAskedAs, IsAskedBy, IsNumberType, IsTypeOf, number_type, sized, sized_type}

-- ---- bytes

default_zero : (k : Basic) (size : ℕ) → basic_size k ≡ Some size → basic_default k ≡ number k (bits_of k 0)
default_zero string size e = absurd (none-some size e)
default_zero path size e = absurd (none-some size e)
default_zero signature size e = absurd (none-some size e)
default_zero _ size e = refl

by_test : (k : Basic) (size n : ℕ) (c : Bool) → basic_size k ≡ Some size → cond c (number k (bits_of k n)) (basic_default k) ≡ number k (bits_of k (cond c n 0))
by_test k size n true e = refl
by_test k size n false e = default_zero k size e

pub sized_number : (k : Basic) (b : List ℕ) (size : ℕ) → basic_size k ≡ Some size → decode (basic k) b ≡ number k (bits_of k (sized size b))
unfolding basic_value
sized_number k b size e = decode_children (basic k) b ∙ (ap (basic_of_size k b) e ∙ by_test k size (number_in b) (length b == size) e)

-- of a type of this size
pub bits_are : (of : BasicType) (k : Basic) (b : List ℕ) (size n : ℕ) → of ≡ basic_type k → basic_size k ≡ Some size → n ≡ bits_of k (sized size b) →
    decode (basic (basic_of of)) b ≡ number (basic_of of) n
bits_are of k b size n e s h =
    let same : basic_of of ≡ k = ap basic_of e ∙ basic_of-basic_type k in
    rw same (sized_number k b size s ∙ ap (number k) (sym h))

-- the types of eight bytes are the others
pub eight_bits : (of : BasicType) (b : List ℕ) (n : ℕ) → IsSome (basic_size (basic_of of)) → (of ≡ basics.Boolean → ⊥) → (of ≡ basics.Byte → ⊥) → (of ≡ basics.Int16 → ⊥) →
    (of ≡ basics.Uint16 → ⊥) → (of ≡ basics.Int32 → ⊥) → (of ≡ basics.Uint32 → ⊥) → (of ≡ basics.Handle → ⊥) → n ≡ sized 8 b → decode (basic (basic_of of)) b ≡ number (basic_of of) n
eight_bits basics.Boolean b n s one two three four five six seven e = absurd (one refl)
eight_bits basics.Byte b n s one two three four five six seven e = absurd (two refl)
eight_bits basics.Int16 b n s one two three four five six seven e = absurd (three refl)
eight_bits basics.Uint16 b n s one two three four five six seven e = absurd (four refl)
eight_bits basics.Int32 b n s one two three four five six seven e = absurd (five refl)
eight_bits basics.Uint32 b n s one two three four five six seven e = absurd (six refl)
eight_bits basics.Handle b n s one two three four five six seven e = absurd (seven refl)
eight_bits basics.Int64 b n s one two three four five six seven e = bits_are basics.Int64 int64 b 8 n refl refl e
eight_bits basics.Uint64 b n s one two three four five six seven e = bits_are basics.Uint64 uint64 b 8 n refl refl e
eight_bits basics.Double b n s one two three four five six seven e = bits_are basics.Double double b 8 n refl refl e
eight_bits _ b n s one two three four five six seven e = absurd cc

-- ---- the number in bytes

pub whole_sized : (size : ℕ) (b : List ℕ) → length b ≡ size → number_in b ≡ sized size b
whole_sized size b h = let same : (length b == size) ≡ true = eq-eqb (length b) size h in rw same refl

first_number : (b : List ℕ) → length b ≡ 1 → slice_index_or b 0 0 ≡ number_in b
unfolding number_in
first_number (c ∷ []) h = omega arith
first_number _ h = absurd (omega (arith, h))

pub one_sized : (b : List ℕ) → length b ≡ 1 → slice_index_or b 0 0 ≡ sized 1 b
one_sized b h = first_number b h ∙ whole_sized 1 b h

pub zero_truth : (n m : ℕ) → n ≡ m → n ≡ 0 → 0 ≡ truth m
zero_truth n m e h = let same : (m == 0) ≡ true = eq-eqb m 0 (sym e ∙ h) in rw same refl

pub one_truth : (n m : ℕ) → n ≡ m → (n ≡ 0 → ⊥) → 1 ≡ truth m
one_truth n m e h = let other : (m == 0) ≡ false = ne_eqb m 0 (λ z. h (e ∙ z)) in rw other refl

-- ---- letters

same_mark : (j k : Basic) → mark_of j ≡ mark_of k → j ≡ k
same_mark j k e = cc

same_letter : (j k : Basic) → letter j ≡ letter k → j ≡ k
same_letter j k e = same_mark j k (sym (mark_letter j) ∙ (ap mark e ∙ mark_letter k))

-- the text of a basic type is its letter, and no other
letter_text : (k : Basic) → type_of_text (letter k ∷ []) ≡ Some (basic k)
unfolding spelling nesting
letter_text k = type_of_text-spelling (basic k) refl

text_is_letter : (text : List ℕ) (k : Basic) → type_of_text text ≡ Some (basic k) → text ≡ letter k ∷ []
unfolding spelling
text_is_letter text k e = sym (spelling_of_read text (basic k) e).0

sized_is : (k : Basic) (o : Option ℕ) (of : BasicType) → sized_type k o ≡ Some of → (basic_type k ≡ of) × IsSome o
sized_is k None of e = absurd (none-some of e)
sized_is k (Some size) of e = (cc, refl)

-- a letter of a type of numbers
record IsLetterOf (own : ℕ) (of : BasicType) : Type 0 where
  pub spelled : own ≡ letter (basic_of of)
  pub is_sized : IsSome (basic_size (basic_of of))

number_letter : (own : ℕ) (of : BasicType) → number_type (mark own) ≡ Some of → IsLetterOf own of
number_letter own of e = go (mark own) (byte_of_mark own) e
  where
    go : (m : TypeMark) → IsByteOf m own → number_type m ≡ Some of → IsLetterOf own of
    go (mark_of k) byte is =
        let both = sized_is k (basic_size k) of is in
        let same : k ≡ basic_of of = sym (basic_of-basic_type k) ∙ ap basic_of both.0 in
        record { spelled = byte ∙ ap letter same; is_sized = subst (λ (j : Basic). IsSome (basic_size j)) same both.1 }
    go _ byte is = absurd (none-some of is)

-- ---- which letter asks for which

asked_by : (own asked : ℕ) (k : Basic) → own ≡ letter k → IsAskedAs own asked → IsAskedBy k asked
asked_by own asked k e (inl same) = inl (sym e ∙ same)
asked_by own asked k e (inr both) = inr (same_letter k handle (sym e ∙ both.0), sym both.1)

asked_as : (own asked : ℕ) (k : Basic) → own ≡ letter k → IsAskedBy k asked → IsAskedAs own asked
asked_as own asked k e (inl same) = inl (e ∙ same)
asked_as own asked k e (inr both) = inr (e ∙ ap letter both.0, sym both.1)

head_is : (a b : ℕ) → a ∷ [] ≡ b ∷ [] → a ≡ b
head_is a b e = cc

-- what is asked of a text of one letter
asked_of : (own asked : ℕ) → IsNumberType (own ∷ []) asked → IsAskedAs own asked
asked_of own asked h = asked_as own asked h.0 (head_is own (letter h.0) (text_is_letter (own ∷ []) h.0 h.1.0)) h.1.1.1

sized_some : (k : Basic) (o : Option ℕ) → IsSome o → sized_type k o ≡ None → ⊥
sized_some k None is e = absurd cc
sized_some k (Some size) is e = none-some (basic_type k) (sym e)

no_letter : (own asked : ℕ) → None ≡ number_type (mark own) → IsNumberType (own ∷ []) asked → ⊥
no_letter own asked none h =
    let same : own ≡ letter h.0 = head_is own (letter h.0) (text_is_letter (own ∷ []) h.0 h.1.0) in
    sized_some h.0 (basic_size h.0) h.1.1.0 (sym (none ∙ (ap (λ (c : ℕ). number_type (mark c)) same ∙ ap number_type (mark_letter h.0))))

number_type_of : (own asked : ℕ) (of : BasicType) → IsLetterOf own of → IsAskedAs own asked → IsTypeOf (own ∷ []) asked (basic_of of)
number_type_of own asked of is asks =
    let k = basic_of of in
    (ap (λ (c : ℕ). type_of_text (c ∷ [])) is.spelled ∙ letter_text k, (is.is_sized, asked_by own asked k is.spelled asks))

-- ---- the same of a text of one byte

single : (text : List ℕ) → length text ≡ 1 → text ≡ slice_index_or text 0 0 ∷ []
single (c ∷ []) h = refl
single _ h = absurd (omega (arith, h))

-- no text of another length is that of a number's type
pub no_number : (text : List ℕ) (asked : ℕ) → (length text ≡ 1 → ⊥) → IsNumberType text asked → ⊥
no_number text asked apart h = apart (ap (λ (w : List ℕ). length w) (text_is_letter text h.0 h.1.0))

pub asked_first : (text : List ℕ) (asked : ℕ) → length text ≡ 1 → IsNumberType text asked → IsAskedAs (slice_index_or text 0 0) asked
asked_first text asked one h = asked_of (slice_index_or text 0 0) asked (subst (λ (w : List ℕ). IsNumberType w asked) (single text one) h)

pub no_first : (text : List ℕ) (asked : ℕ) → length text ≡ 1 → None ≡ number_type (mark (slice_index_or text 0 0)) → IsNumberType text asked → ⊥
no_first text asked one none h = no_letter (slice_index_or text 0 0) asked none (subst (λ (w : List ℕ). IsNumberType w asked) (single text one) h)

pub asked_number : (text : List ℕ) (asked : ℕ) (of : BasicType) → length text ≡ 1 → Some of ≡ number_type (mark (slice_index_or text 0 0)) →
    IsAskedAs (slice_index_or text 0 0) asked → IsTypeOf text asked (basic_of of)
asked_number text asked of one is asks =
    subst (λ (w : List ℕ). IsTypeOf w asked (basic_of of)) (sym (single text one))
    (number_type_of (slice_index_or text 0 0) asked of (number_letter (slice_index_or text 0 0) of (sym is)) asks)
