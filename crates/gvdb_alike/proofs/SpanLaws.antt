-- Steps along two files that are the same so far.
use Rattle.std.proofs.Common.{zero, suc, max, ltb-true, ltb-false, subst, ℕ, ◌+◌, ◌-◌, ◌<◌, ◌≤◌, ◌≡◌, ◌∙◌, ◌++◌, List, [], ◌∷◌, length, get_or, take, drop, ap, ap₂, sym, arith}
use Rattle.std.specs.Prelude.{◌≢◌, nat_lt, slice_get, slice_range}
use Rattle.std.proofs.lemmas.List.{drop_all}
use Rattle.std.proofs.lemmas.Option.{none-some, same_Some, slice_get-get_or, slice_get_past}
use Rattle.dconf_model.proofs.ParentLaws.{by_bool}
use Rattle.gvdb_alike.specs.Spans.{IsDifferingSpan}
use Rattle.std.proofs.lemmas.List.Folds.{drop_split}
use Rattle.std.proofs.Math.Seq.{take-add}

-- one step further on
pub same_further : (f g : List ℕ) (at step : ℕ) → take at f ≡ take at g → slice_range f at (at + step) ≡ slice_range g at (at + step) → take (at + step) f ≡ take (at + step) g
same_further f g at step before more = take_on f at step ∙ ap₂ ◌++◌ before more ∙ sym (take_on g at step)
  where
    take_on : (h : List ℕ) (at step : ℕ) → take (at + step) h ≡ take at h ++ slice_range h at (at + step)
    take_on h at step = let size : step ≡ at + step - at = omega arith in take-add at step h ∙ ap (λ (n : ℕ). take at h ++ take n (drop at h)) size

-- one step further back
pub same_back : (f g : List ℕ) (at end : ℕ) → at ≤ end → drop end f ≡ drop end g → slice_range f at end ≡ slice_range g at end → drop at f ≡ drop at g
same_back f g at end le after more = drop_split f at end le ∙ ap₂ ◌++◌ more after ∙ sym (drop_split g at end le)

-- ---- the whole span

get_differs : (f g : List ℕ) (i : ℕ) → i < length f → i < length g → get_or f i 0 ≢ get_or g i 0 → slice_get f i ≢ slice_get g i
get_differs f g i here there ne same =
    ne (same_Some (get_or f i 0) (get_or g i 0) (sym (slice_get-get_or f i 0 here) ∙ same ∙ slice_get-get_or g i 0 there))

there_alone : (f g : List ℕ) (i : ℕ) → i < length f → length g ≤ i → slice_get f i ≢ slice_get g i
there_alone f g i here past same = none-some (get_or f i 0) (sym (slice_get_past g i past) ∙ sym same ∙ slice_get-get_or f i 0 here)

module _ (f g : List ℕ) (first : ℕ) (before : take first f ≡ take first g) (differs : first < length f → first < length g → get_or f first 0 ≢ get_or g first 0) where
  pub span_of_equal : (end : ℕ) → length f ≡ length g → first < length f → drop end f ≡ drop end g → end ≤ length f → (0 < end → get_or f (end - 1) 0 ≢ get_or g (end - 1) 0) →
      IsDifferingSpan f g first (end - 1)
  span_of_equal zero len here after within last = absurd (differs here (omega (arith, len, here)) (ap (λ (l : List ℕ). get_or l first 0) after))
  span_of_equal (suc n) len here after within last =
      let place : suc n ≡ suc n - 1 + 1 = omega arith in
      record {
        before = before;
        at_first = get_differs f g first here (omega (arith, len, here)) (differs here (omega (arith, len, here)));
        at_last = get_differs f g (suc n - 1) (omega (arith, within)) (omega (arith, within, len)) (last (omega arith));
        after = subst (λ (k : ℕ). drop k f ≡ drop k g) place after;
      }

  at_first_of : first ≤ length f → first ≤ length g → length f ≢ length g → slice_get f first ≢ slice_get g first
  at_first_of here there len =
      by_bool (nat_lt first (length f)) (slice_get f first ≢ slice_get g first)
      (λ inside. let lt = ltb-true first (length f) inside in by_bool (nat_lt first (length g)) (slice_get f first ≢ slice_get g first)
      (λ also. let lu = ltb-true first (length g) also in get_differs f g first lt lu (differs lt lu))
      (λ past. let ge = ltb-false first (length g) past in there_alone f g first lt ge))
      (λ past. let ge = ltb-false first (length f) past in λ same. there_alone g f first (omega (arith, ge, here, there, len)) ge (sym same))

  pub span_of_longer : first ≤ length f → first ≤ length g → length f ≢ length g → (last : ℕ) → last + 1 ≡ max (length f) (length g) → IsDifferingSpan f g first last
  span_of_longer here there len last is =
      record {
        before = before;
        at_first = at_first_of here there len;
        at_last = by_bool (nat_lt (length f) (length g)) (slice_get f last ≢ slice_get g last)
            (λ shorter. let lt = ltb-true (length f) (length g) shorter in λ same. there_alone g f last (omega (arith, lt, is)) (omega (arith, lt, is)) (sym same))
            (λ longer. let ge = ltb-false (length f) (length g) longer in there_alone f g last (omega (arith, ge, is, len)) (omega (arith, ge, is, len)));
        after = drop_all (last + 1) f (omega (arith, is)) ∙ sym (drop_all (last + 1) g (omega (arith, is)));
      }
