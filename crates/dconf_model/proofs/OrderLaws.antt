-- Lists in the order of their names: the same things, rising, and as they were where names are equal.
use Rattle.std.specs.Prelude.{◌≡◌, ℕ, ◌+◌, Bool, true, false, not, cond, List, [], ◌∷◌, refl, IsPermutation}
use Rattle.std.specs.List.{filter}
use Rattle.std.specs.List.Sorted.{IsSortedBy, ties}
use Rattle.std.specs.Ordering.{nat_cmp, is_lt, is_le, ordering_reverse}
use Rattle.std.specs.Cmp.Lexicographic.{slice_cmp}
use Rattle.std.proofs.Common.{sym, ap, ◌∙◌, arith, zero, suc, Ordering, Less, Equal, Greater}
use Rattle.std.proofs.lemmas.Bool.{true≢false, and_parts, not-true}
use Rattle.std.proofs.lemmas.Cmp.{nat_list_cmp_total}
use Rattle.std.proofs.lemmas.List.Sorted.{IsPermutation-refl, IsPermutation-cons, IsPermutation-trans, IsPermutation-middle}
use Rattle.dconf_model.specs.Order.{is_at_most, put_by, in_order, OrderIsStable}

abbrev compared : List ℕ → List ℕ → Ordering
compared a b = slice_cmp nat_cmp a b

at_most_back : (o : Ordering) → is_le o ≡ true → is_lt (ordering_reverse o) ≡ false
at_most_back Less e = refl
at_most_back Equal e = refl
at_most_back Greater e = absurd (true≢false (sym e))

not_less_back : (a b : List ℕ) → is_at_most a b ≡ true → is_lt (compared b a) ≡ false
not_less_back a b e = ap is_lt (nat_list_cmp_total.antisymm b a) ∙ at_most_back (compared a b) e

more_is_no_less : (o : Ordering) → is_le o ≡ false → is_lt o ≡ false
more_is_no_less Less e = absurd (true≢false e)
more_is_no_less Equal e = refl
more_is_no_less Greater e = refl

tied : (o : Ordering) → is_lt o ≡ false → is_lt (ordering_reverse o) ≡ false → o ≡ Equal
tied Less e f = absurd (true≢false e)
tied Equal e f = refl
tied Greater e f = absurd (true≢false f)

module _ {X : Type 0} (name : X → List ℕ) where
  abbrev less : X → X → Bool
  less x y = is_lt (compared (name x) (name y))

  -- each thing is not less than the one before it
  abbrev Rises : List X → Type 0
  Rises [] = Unit {0}
  Rises (x ∷ []) = Unit {0}
  Rises (x ∷ y ∷ ys) = (less y x ≡ false) × Rises (y ∷ ys)

  sorted_from : (xs : List X) → Rises xs → IsSortedBy less xs
  sorted_from [] r k d low high = let no : ⊥ = omega (arith, high) in absurd no
  sorted_from (x ∷ []) r k d low high = let no : ⊥ = omega (arith, high) in absurd no
  sorted_from (x ∷ y ∷ ys) r zero d low high = r.0
  sorted_from (x ∷ y ∷ ys) r (suc k) d low high = let e : suc k + 1 ≡ suc (k + 1) = omega arith in rw e (sorted_from (y ∷ ys) r.1 k d (omega arith) (omega (arith, high)))

  rises_after : (y x : X) (ys : List X) → less x y ≡ false → Rises (y ∷ ys) → Rises (y ∷ put_by name x ys)
  rises_after y x [] l r = (l, tt)
  rises_after y x (z ∷ zs) l r = go (is_at_most (name x) (name z)) refl (λ m. rises_after z x zs m r.1)
    where
      go : (b : Bool) → is_at_most (name x) (name z) ≡ b → (less x z ≡ false → Rises (z ∷ put_by name x zs)) → Rises (y ∷ put_by name x (z ∷ zs))
      go true e later = rw e (l, (not_less_back (name x) (name z) e, r.1))
      go false e later = rw e (r.0, later (more_is_no_less (compared (name x) (name z)) e))

  put_rises : (x : X) (ys : List X) → Rises ys → Rises (put_by name x ys)
  put_rises x [] r = tt
  put_rises x (y ∷ ys) r = go (is_at_most (name x) (name y)) refl
    where
      go : (b : Bool) → is_at_most (name x) (name y) ≡ b → Rises (put_by name x (y ∷ ys))
      go true e = rw e (not_less_back (name x) (name y) e, r)
      go false e = rw e (rises_after y x ys (more_is_no_less (compared (name x) (name y)) e) r)

  in_order_rises : (xs : List X) → Rises (in_order name xs)
  in_order_rises [] = tt
  in_order_rises (x ∷ xs) = put_rises x (in_order name xs) (in_order_rises xs)

  put_permutes : (x : X) (ys : List X) → IsPermutation (x ∷ ys) (put_by name x ys)
  put_permutes x [] = IsPermutation-refl (x ∷ [])
  put_permutes x (y ∷ ys) = go (is_at_most (name x) (name y)) refl (put_permutes x ys)
    where
      go : (b : Bool) → is_at_most (name x) (name y) ≡ b → IsPermutation (x ∷ ys) (put_by name x ys) → IsPermutation (x ∷ y ∷ ys) (put_by name x (y ∷ ys))
      go true e later = rw e (IsPermutation-refl (x ∷ y ∷ ys))
      go false e later = rw e (IsPermutation-trans _ _ _ (IsPermutation-middle (x ∷ []) y ys) (IsPermutation-cons y _ _ later))

  pub in_order_permutes : (xs : List X) → IsPermutation xs (in_order name xs)
  in_order_permutes [] = IsPermutation-refl []
  in_order_permutes (x ∷ xs) = IsPermutation-trans _ _ _ (IsPermutation-cons x _ _ (in_order_permutes xs)) (put_permutes x (in_order name xs))

  tied_names : (x y : X) → ties less x y ≡ true → compared (name x) (name y) ≡ Equal
  tied_names x y e =
      let parts = and_parts (not (less x y)) (not (less y x)) e in
      tied (compared (name x) (name y)) (not-true _ parts.0) (sym (ap is_lt (nat_list_cmp_total.antisymm (name y) (name x))) ∙ not-true _ parts.1)

  -- what ties with one thing is at most each other that does
  ties_are_at_most : (x a y : X) → ties less x a ≡ true → ties less x y ≡ true → is_at_most (name a) (name y) ≡ true
  ties_are_at_most x a y ta ty =
      ap is_le (sym (nat_list_cmp_total.congr (name x) (name a) (name y) (tied_names x a ta)) ∙ tied_names x y ty)

  put_keeps : (x a : X) (ys : List X) → filter (ties less x) (put_by name a ys) ≡ filter (ties less x) (a ∷ ys)
  put_keeps x a [] = refl
  put_keeps x a (y ∷ ys) = go (is_at_most (name a) (name y)) refl (put_keeps x a ys)
    where
      by : (s t : Bool) → ties less x a ≡ s → ties less x y ≡ t → is_at_most (name a) (name y) ≡ false →
          cond t (y ∷ cond s (a ∷ filter (ties less x) ys) (filter (ties less x) ys)) (cond s (a ∷ filter (ties less x) ys) (filter (ties less x) ys))
          ≡ cond s (a ∷ cond t (y ∷ filter (ties less x) ys) (filter (ties less x) ys)) (cond t (y ∷ filter (ties less x) ys) (filter (ties less x) ys))
      by true true p q e = absurd (true≢false (sym (ties_are_at_most x a y p q) ∙ e))
      by true false p q e = refl
      by false true p q e = refl
      by false false p q e = refl

      go : (b : Bool) → is_at_most (name a) (name y) ≡ b → filter (ties less x) (put_by name a ys) ≡ filter (ties less x) (a ∷ ys) →
          filter (ties less x) (put_by name a (y ∷ ys)) ≡ filter (ties less x) (a ∷ y ∷ ys)
      go true e later = rw e refl
      go false e later = rw (e, later) (by (ties less x a) (ties less x y) refl refl e)

  in_order_keeps : (x : X) (xs : List X) → filter (ties less x) (in_order name xs) ≡ filter (ties less x) xs
  in_order_keeps x [] = refl
  in_order_keeps x (a ∷ xs) = put_keeps x a (in_order name xs) ∙ ap (λ l. cond (ties less x a) (a ∷ l) l) (in_order_keeps x xs)

  pub in_order_sorts : (xs : List X) → IsSortedBy less (in_order name xs)
  in_order_sorts xs = sorted_from (in_order name xs) (in_order_rises xs)

  pub order_is_stable : OrderIsStable X name
  order_is_stable xs = record { same = in_order_permutes xs; sorted = in_order_sorts xs; stable = λ x. in_order_keeps x xs }
