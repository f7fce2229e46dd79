-- What is left of a text, once the ASCII characters of a list are cut off its start, or off its end: `without_start` and `without_end`.
use Rattle.std.proofs.Common.{◌≡◌, ℕ, ◌+◌, ◌-◌, ◌<◌, ◌≤◌, Bool, true, false, List, [], ◌∷◌, ◌++◌, length, get_or, take, drop, Option, Some, None, refl, sym, ap, subst, ◌∙◌, arith, eqb, IfSome, below_more, ◌==◌, ◌||◌, ◌⊎◌, inl, inr}
use Rattle.std.proofs.lemmas.Bool.{eqb-true, eqb-false, or_cases}
use Rattle.std.proofs.lemmas.List.{length-drop, length-take-le, get_or-take, get_or-drop, drop-drop, take-take, take_all, drop_all, drop_more, take-append-drop}
use Rattle.std.proofs.lemmas.List.Sums.{prefix_len_is, suffix_len_is}
use Rattle.std.proofs.lemmas.Str.{encode_ascii, len_utf8_ascii, len_utf8_bounds}
use Rattle.std.proofs.Math.Bool.{or-false}
use lib.Utf8.{low_scalar}
use Rattle.std.specs.Char.{char_set_contains}
use Rattle.std.specs.Str.Pattern.{FindsPrefixBy, FindsSuffixBy, CutsPrefixes, CutsSuffixes, IsTrimStartMatches, IsTrimEndMatches, HasPassingCharAt}
use Rattle.dconf_model.specs.Lines.{without_start, without_end, is_space, is_line_blank}

module _ (set : List ℕ) (f : ℕ → Bool) (same : (c : ℕ) → char_set_contains set c ≡ f c) (small : (c : ℕ) → f c ≡ true → c < 128) where
  abbrev Front : List ℕ → Option ℕ → Type 0
  Front s r = (k : ℕ → Bool) → ((c : ℕ) → char_set_contains set c ≡ k c) → FindsPrefixBy k s r

  abbrev Back : List ℕ → Option ℕ → Type 0
  Back s r = (k : ℕ → Bool) → ((c : ℕ) → char_set_contains set c ≡ k c) → FindsSuffixBy k s r

  -- ---- at the start

  record CutTo (s r : List ℕ) : Type 0 where
    n : ℕ
    is : r ≡ drop n s
    fits : n ≤ length s
    passes : (k : ℕ) → k < n → f (get_or s k 0) ≡ true

  at_place : (s m : List ℕ) (cut : CutTo s m) → get_or s cut.n 0 ≡ get_or m 0 0
  at_place s m cut = ap (λ k. get_or s k 0) (omega arith) ∙ (sym (get_or-drop cut.n s 0 0) ∙ ap (λ l. get_or l 0 0) (sym cut.is))

  one_more : (s m : List ℕ) (n : ℕ) → CutTo s m → HasPassingCharAt f m 0 n → CutTo s (drop n m)
  one_more s m n cut (c, p, at) =
      let low : c < 128 = small c p in
      let width = len_utf8_ascii c low in
      let one : n ≡ 1 = omega (arith, at.ends, width) in
      let whole : m ≡ c ∷ drop n m = at.split ∙ ap (λ e. e ++ drop n m) (encode_ascii c low) in
      let long : length m ≡ length (c ∷ drop n m) = ap length whole in
      let left : length m ≡ length s - cut.n = ap length cut.is ∙ length-drop cut.n s in
      let there : get_or s cut.n 0 ≡ c = at_place s m cut ∙ at.byte low in
      record {
        n = cut.n + 1;
        is = ap (λ k. drop k m) one ∙ (ap (drop 1) cut.is ∙ drop-drop 1 cut.n s);
        fits = omega (arith, long, left);
        passes = below_more _ _ cut.passes (ap f there ∙ p);
      }

  all_cut : (s r ns : List ℕ) → CutsPrefixes Front s ns r → CutTo s r
  all_cut s r [] e = record { n = 0; is = e; fits = omega arith; passes = λ k below. absurd (omega arith) }
  all_cut s r (n ∷ ns) (m, cuts, gives, e) = subst (CutTo s) (sym e) (one_more s m n (all_cut s m ns cuts) (gives f same))

  -- what is left begins with no such character
  starts_otherwise : (r : List ℕ) (o : Option ℕ) → Front r o → IfSome o (λ n. n ≡ 0) → 0 < length r → f (get_or r 0 0) ≡ false
  starts_otherwise [] o gives none some = absurd (omega arith)
  starts_otherwise (c ∷ r) None gives none some = go (f c) refl
    where
      go : (b : Bool) → f c ≡ b → f c ≡ false
      go false e = e
      go true e =
          let low : c < 128 = small c e in
          gives f same c r (low_scalar c (omega arith)) (ap (λ l. l ++ r) (sym (encode_ascii c low)))
  starts_otherwise (c ∷ r) (Some n) gives none some =
      let at = (gives f same).2 in
      let wide = len_utf8_bounds (gives f same).0 in
      absurd (omega (arith, at.ends, none, wide.0))

  pub trimmed_start : (s r : List ℕ) → IsTrimStartMatches Front s r → r ≡ without_start f s
  trimmed_start s r ((ns, cuts), (o, gives, none)) =
      let cut = all_cut s r ns cuts in
      let left : length r ≡ length s - cut.n = ap length cut.is ∙ length-drop cut.n s in
      let stops : cut.n < length s → f (get_or s cut.n 0) ≡ false = λ lt.
      ap f (at_place s r cut) ∙ starts_otherwise r o gives none (omega arith) in
      cut.is ∙ ap (λ n. drop n s) (sym (prefix_len_is f s cut.n 0 cut.fits cut.passes stops))

  -- ---- at the end

  record CutDown (s r : List ℕ) : Type 0 where
    n : ℕ
    is : r ≡ take n s
    fits : n ≤ length s
    passes : (k : ℕ) → n ≤ k → k < length s → f (get_or s k 0) ≡ true

  one_less : (s m : List ℕ) (j : ℕ) → CutDown s m → HasPassingCharAt f m (length m - j) (length m) → CutDown s (take (length m - j) m)
  one_less s m j cut (c, p, at) =
      let low : c < 128 = small c p in
      let width = len_utf8_ascii c low in
      let long : length m ≡ cut.n = ap length cut.is ∙ length-take-le cut.n s cut.fits in
      let place : length m - j ≡ cut.n - 1 = omega (arith, at.ends, width) in
      let some : 0 < cut.n = omega (arith, at.ends, width) in
      let there : get_or s (cut.n - 1) 0 ≡ c = sym (get_or-take cut.n s (cut.n - 1) 0 (omega arith)) ∙ (ap (λ l. get_or l (cut.n - 1) 0) (sym cut.is) ∙ (ap (λ k. get_or m k 0) (sym place) ∙ at.byte low)) in
      record {
        n = cut.n - 1;
        is = ap (λ k. take k m) place ∙ (ap (take (cut.n - 1)) cut.is ∙ take-take (cut.n - 1) cut.n s (omega arith));
        fits = omega arith;
        passes = λ k from below. go k from below (eqb k (cut.n - 1)) refl there p some;
      }
    where
      go : (k : ℕ) → cut.n - 1 ≤ k → k < length s → (b : Bool) → eqb k (cut.n - 1) ≡ b → get_or s (cut.n - 1) 0 ≡ c → f c ≡ true → 0 < cut.n → f (get_or s k 0) ≡ true
      go k from below true e there p some = ap (λ i. f (get_or s i 0)) (eqb-true k (cut.n - 1) e) ∙ (ap f there ∙ p)
      go k from below false e there p some = let apart = eqb-false k (cut.n - 1) e in cut.passes k (omega arith) below

  all_cut_down : (s r ns : List ℕ) → CutsSuffixes Back s ns r → CutDown s r
  all_cut_down s r [] e = record { n = length s; is = e ∙ sym (take_all (length s) s (omega arith)); fits = omega arith; passes = λ k from below. absurd (omega arith) }
  all_cut_down s r (n ∷ ns) (m, cuts, gives, e) = subst (CutDown s) (sym e) (one_less s m n (all_cut_down s m ns cuts) (gives f same))

  ends_otherwise : (r : List ℕ) (o : Option ℕ) → Back r o → IfSome o (λ n. n ≡ 0) → 0 < length r → f (get_or r (length r - 1) 0) ≡ false
  ends_otherwise r None gives none some = go (f (get_or r (length r - 1) 0)) refl
    where
      go : (b : Bool) → f (get_or r (length r - 1) 0) ≡ b → f (get_or r (length r - 1) 0) ≡ false
      go false e = e
      go true e =
          let c : ℕ = get_or r (length r - 1) 0 in
          let low : c < 128 = small c e in
          let last : drop (length r - 1) r ≡ c ∷ [] = drop_more r (length r - 1) 0 (omega arith) ∙ ap (λ l. c ∷ l) (drop_all _ r (omega arith)) in
          gives f same c (take (length r - 1) r) (low_scalar c (omega arith))
          (sym (take-append-drop (length r - 1) r) ∙ ap (λ l. take (length r - 1) r ++ l) (last ∙ sym (encode_ascii c low)))
  ends_otherwise r (Some n) gives none some =
      let at = (gives f same).2 in
      let wide = len_utf8_bounds (gives f same).0 in
      absurd (omega (arith, at.ends, none, wide.0))

  pub trimmed_end : (s r : List ℕ) → IsTrimEndMatches Back s r → r ≡ without_end f s
  trimmed_end s r ((ns, cuts), (o, gives, none)) =
      let cut = all_cut_down s r ns cuts in
      let long : length r ≡ cut.n = ap length cut.is ∙ length-take-le cut.n s cut.fits in
      let stops : 0 < cut.n → f (get_or s (cut.n - 1) 0) ≡ false = λ lt.
      ap f (sym (get_or-take cut.n s (cut.n - 1) 0 (omega arith)) ∙ (ap (λ l. get_or l (cut.n - 1) 0) (sym cut.is) ∙ ap (λ k. get_or r (k - 1) 0) (sym long))) ∙ ends_otherwise r o gives none (omega arith) in
      let size = suffix_len_is f s cut.n 0 cut.fits cut.passes stops in
      cut.is ∙ ap (λ n. take n s) (omega (arith, size))

-- ---- the lists of blanks

flip : (a b : ℕ) → (a == b) ≡ (b == a)
flip a b = go (a == b) (b == a) refl refl
  where
    go : (p q : Bool) → (a == b) ≡ p → (b == a) ≡ q → p ≡ q
    go true true e d = refl
    go false false e d = refl
    go true false e d = absurd (eqb-false b a d (sym (eqb-true a b e)))
    go false true e d = absurd (eqb-false a b e (sym (eqb-true b a d)))

pub spaces : (c : ℕ) → char_set_contains (32 ∷ 9 ∷ []) c ≡ is_space c
spaces c = rw (flip 32 c, flip 9 c) (ap (λ b. c == 32 || b) (or-false (c == 9)))

pub blanks : (c : ℕ) → char_set_contains (32 ∷ 9 ∷ 13 ∷ []) c ≡ is_line_blank c
blanks c = rw (flip 32 c, flip 9 c, flip 13 c) (go (c == 32) (c == 9) (c == 13))
  where
    go : (p q r : Bool) → (p || (q || (r || false))) ≡ ((p || q) || r)
    go true q r = refl
    go false true r = refl
    go false false true = refl
    go false false false = refl

pub small_space : (c : ℕ) → is_space c ≡ true → c < 128
small_space c e = go (or_cases (c == 32) (c == 9) e)
  where
    go : ((c == 32) ≡ true) ⊎ ((c == 9) ≡ true) → c < 128
    go (inl p) = let is = eqb-true c 32 p in omega (arith, is)
    go (inr p) = let is = eqb-true c 9 p in omega (arith, is)

pub small_blank : (c : ℕ) → is_line_blank c ≡ true → c < 128
small_blank c e = go (or_cases (is_space c) (c == 13) e)
  where
    go : (is_space c ≡ true) ⊎ ((c == 13) ≡ true) → c < 128
    go (inl p) = small_space c p
    go (inr p) = let is = eqb-true c 13 p in omega (arith, is)
