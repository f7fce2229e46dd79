-- The alignment of a type is the greatest of those of its letters.
use Rattle.std.proofs.Common.{◌≡◌, ◌≤◌, ◌⊎◌, inl, inr, ℕ, Bool, true, false, ◌||◌, List, [], ◌∷◌, ◌++◌, max, refl, sym, ap, ap₂, ◌∙◌, subst, arith}
use Rattle.std.specs.Prelude.{nat_le}
use Rattle.std.specs.List.{list_any}
use Rattle.std.proofs.lemmas.List.Folds.{list_any-append}
use Rattle.std.proofs.lemmas.Bool.Decides.{nat_tests}
use Rattle.std.proofs.Math.Bool.{or-false}
use Rattle.gv_model.specs.Ty.{Ty, Types, Basic, letter, spelling, spellings}
use Rattle.gv_model.specs.Ty.Ty.{basic, variant, array, maybe, tuple, entry}
use Rattle.gv_model.specs.Ty.Types.{end, member}
use Rattle.gv_model.specs.Ty.Basic.{boolean, byte, int16, uint16, int32, uint32, int64, uint64, handle, double, string, path, signature}
use Rattle.gv_model.specs.Layout.{alignment, greatest_alignment, basic_size, or_one}
use Rattle.gv_layout.specs.Letters.{letter_alignment, is_aligned_letter}

of_letter : (k : Basic) → letter_alignment (letter k) ≡ or_one (basic_size k)
of_letter boolean = refl
of_letter _ = refl

not_one : (n : ℕ) → 2 ≤ n → nat_le n 1 ≡ false
not_one n h = grind (arith, nat_tests)

of_greater : (n a b : ℕ) → nat_le n (max a b) ≡ (nat_le n a || nat_le n b)
of_greater n a b = grind (arith, nat_tests)

-- a letter behind, whose type is not aligned
unaligned : (n : ℕ) (xs : List ℕ) (c : ℕ) → 2 ≤ n → letter_alignment c ≡ 1 → list_any (is_aligned_letter n) (xs ++ c ∷ []) ≡ list_any (is_aligned_letter n) xs
unaligned n xs c h e =
    list_any-append (is_aligned_letter n) xs (c ∷ [])
    ∙ (ap (λ b. list_any (is_aligned_letter n) xs || (b || false)) (ap (nat_le n) e ∙ not_one n h) ∙ or-false (list_any (is_aligned_letter n) xs))

-- and one in front
after_unaligned : (n : ℕ) (xs : List ℕ) (c : ℕ) → 2 ≤ n → letter_alignment c ≡ 1 → list_any (is_aligned_letter n) (c ∷ xs) ≡ list_any (is_aligned_letter n) xs
after_unaligned n xs c h e = ap (λ b. b || list_any (is_aligned_letter n) xs) (ap (nat_le n) e ∙ not_one n h)

mutual
  unfolding spelling spellings alignment greatest_alignment

  pub aligned_type : (n : ℕ) → 2 ≤ n → (t : Ty) → list_any (is_aligned_letter n) (spelling t) ≡ nat_le n (alignment t)
  aligned_type n h (basic k) = or-false (is_aligned_letter n (letter k)) ∙ ap (nat_le n) (of_letter k)
  aligned_type n h variant = or-false (nat_le n 8)
  aligned_type n h (array t) = after_unaligned n (spelling t) 97 h refl ∙ aligned_type n h t
  aligned_type n h (maybe t) = after_unaligned n (spelling t) 109 h refl ∙ aligned_type n h t
  aligned_type n h (tuple ts) = after_unaligned n (spellings ts ++ 41 ∷ []) 40 h refl ∙ (unaligned n (spellings ts) 41 h refl ∙ aligned_types n h ts)
  aligned_type n h (entry k t) =
      after_unaligned n (letter k ∷ (spelling t ++ 125 ∷ [])) 123 h refl
      ∙ (ap₂ (λ a b. a || b) (ap (nat_le n) (of_letter k)) (unaligned n (spelling t) 125 h refl ∙ aligned_type n h t)
      ∙ sym (of_greater n (or_one (basic_size k)) (alignment t)))

  pub aligned_types : (n : ℕ) → 2 ≤ n → (ts : Types) → list_any (is_aligned_letter n) (spellings ts) ≡ nat_le n (greatest_alignment ts)
  aligned_types n h end = sym (not_one n h)
  aligned_types n h (member t ts) =
      list_any-append (is_aligned_letter n) (spelling t) (spellings ts)
      ∙ (ap₂ (λ a b. a || b) (aligned_type n h t) (aligned_types n h ts) ∙ sym (of_greater n (alignment t) (greatest_alignment ts)))

-- ---- an alignment is a power of two up to 8

abbrev pub IsPower : ℕ → Type 0
IsPower a = ((a ≡ 1) ⊎ (a ≡ 2)) ⊎ ((a ≡ 4) ⊎ (a ≡ 8))

either : (a b : ℕ) → (max a b ≡ a) ⊎ (max a b ≡ b)
either a b = go (nat_le a b) refl
  where
    go : (c : Bool) → nat_le a b ≡ c → (max a b ≡ a) ⊎ (max a b ≡ b)
    go true e = inr (grind (arith, nat_tests))
    go false e = inl (grind (arith, nat_tests))

greater_power : (a b : ℕ) → IsPower a → IsPower b → IsPower (max a b)
greater_power a b h g = elim (either a b) [
  | inl e ↦ subst IsPower (sym e) h
  | inr e ↦ subst IsPower (sym e) g
]

basic_power : (k : Basic) → IsPower (or_one (basic_size k))
basic_power int16 = inl (inr refl)
basic_power uint16 = inl (inr refl)
basic_power int32 = inr (inl refl)
basic_power uint32 = inr (inl refl)
basic_power int64 = inr (inr refl)
basic_power uint64 = inr (inr refl)
basic_power handle = inr (inl refl)
basic_power double = inr (inr refl)
basic_power _ = inl (inl refl)

mutual
  unfolding alignment greatest_alignment

  pub alignment_power : (t : Ty) → IsPower (alignment t)
  alignment_power (basic k) = basic_power k
  alignment_power variant = inr (inr refl)
  alignment_power (array t) = alignment_power t
  alignment_power (maybe t) = alignment_power t
  alignment_power (tuple ts) = greatest_power ts
  alignment_power (entry k t) = greater_power (or_one (basic_size k)) (alignment t) (basic_power k) (alignment_power t)

  greatest_power : (ts : Types) → IsPower (greatest_alignment ts)
  greatest_power end = inl (inl refl)
  greatest_power (member t ts) = greater_power (alignment t) (greatest_alignment ts) (alignment_power t) (greatest_power ts)

-- ---- what is told by the letters of a text

eight : (a : ℕ) → IsPower a → nat_le 8 a ≡ true → 8 ≡ a
eight a (inl (inl e)) h = absurd (grind (arith, nat_tests))
eight a (inl (inr e)) h = absurd (grind (arith, nat_tests))
eight a (inr (inl e)) h = absurd (grind (arith, nat_tests))
eight a (inr (inr e)) h = sym e

four : (a : ℕ) → IsPower a → nat_le 8 a ≡ false → nat_le 4 a ≡ true → 4 ≡ a
four a (inl (inl e)) g h = absurd (grind (arith, nat_tests))
four a (inl (inr e)) g h = absurd (grind (arith, nat_tests))
four a (inr (inl e)) g h = sym e
four a (inr (inr e)) g h = absurd (grind (arith, nat_tests))

two : (a : ℕ) → IsPower a → nat_le 4 a ≡ false → nat_le 2 a ≡ true → 2 ≡ a
two a (inl (inl e)) g h = absurd (grind (arith, nat_tests))
two a (inl (inr e)) g h = sym e
two a (inr (inl e)) g h = absurd (grind (arith, nat_tests))
two a (inr (inr e)) g h = absurd (grind (arith, nat_tests))

one : (a : ℕ) → IsPower a → nat_le 2 a ≡ false → 1 ≡ a
one a (inl (inl e)) g = sym e
one a (inl (inr e)) g = absurd (grind (arith, nat_tests))
one a (inr (inl e)) g = absurd (grind (arith, nat_tests))
one a (inr (inr e)) g = absurd (grind (arith, nat_tests))

-- what is seen of a text is so of the alignment
said : (n : ℕ) → 2 ≤ n → (t : Ty) (text : List ℕ) (found wanted : Bool) → text ≡ spelling t → found ≡ list_any (is_aligned_letter n) text → found ≡ wanted → nat_le n (alignment t) ≡ wanted
said n h t text found wanted e is w = sym (aligned_type n h t) ∙ (ap (list_any (is_aligned_letter n)) (sym e) ∙ (sym is ∙ w))

pub is_eight : (t : Ty) (text : List ℕ) (found : Bool) → text ≡ spelling t → found ≡ list_any (is_aligned_letter 8) text → found ≡ true → 8 ≡ alignment t
is_eight t text found e is w = eight (alignment t) (alignment_power t) (said 8 (omega arith) t text found true e is w)

pub is_four : (t : Ty) (text : List ℕ) (b c : Bool) → text ≡ spelling t → b ≡ list_any (is_aligned_letter 8) text → b ≡ false → c ≡ list_any (is_aligned_letter 4) text → c ≡ true → 4 ≡ alignment t
is_four t text b c e is w has h = four (alignment t) (alignment_power t) (said 8 (omega arith) t text b false e is w) (said 4 (omega arith) t text c true e has h)

pub is_two : (t : Ty) (text : List ℕ) (b c : Bool) → text ≡ spelling t → b ≡ list_any (is_aligned_letter 4) text → b ≡ false → c ≡ list_any (is_aligned_letter 2) text → c ≡ true → 2 ≡ alignment t
is_two t text b c e is w has h = two (alignment t) (alignment_power t) (said 4 (omega arith) t text b false e is w) (said 2 (omega arith) t text c true e has h)

pub is_one : (t : Ty) (text : List ℕ) (b : Bool) → text ≡ spelling t → b ≡ list_any (is_aligned_letter 2) text → b ≡ false → 1 ≡ alignment t
is_one t text b e is w = one (alignment t) (alignment_power t) (said 2 (omega arith) t text b false e is w)
