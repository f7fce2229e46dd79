-- The longest front of bytes that is UTF-8, and the line feeds in it.
use Rattle.std.proofs.Common.{◌≡◌, ℕ, ◌+◌, ◌-◌, ◌<◌, ◌≤◌, Bool, true, false, List, [], ◌∷◌, ◌++◌, length, get_or, drop, take, refl, sym, ap, subst, ◌∙◌, arith, suc, zero, length-append}
use Rattle.std.specs.Prelude.{IsUtf8, nat_lt, if◌then◌else◌}
use Rattle.std.specs.List.{All, count_by}
use Rattle.std.specs.Str.{IsValidUpTo, is_utf8}
use Rattle.std.specs.Str.Lossy.{utf8_valid_len, valid_len_up_to}
use Rattle.std.proofs.lemmas.Bool.{ltb-false, ltb-true}
use Rattle.std.proofs.lemmas.Grind.{common_steps}
use Rattle.std.proofs.lemmas.List.{take_all}
use Rattle.std.proofs.lemmas.List.Splits.{length-slice_split, slice_split_at, slice_split_none}
use Rattle.std.proofs.lemmas.Str.{IsCharBoundary-after_ascii, IsCharBoundary-before_ascii, IsUtf8-append, IsUtf8-drop, IsUtf8-from_is_utf8, IsUtf8-nil, IsUtf8-take, is_utf8-from_IsUtf8, utf8_valid_len-IsValidUpTo}
use Rattle.dconf_model.specs.Lines.{bad_line}
use Rattle.keyfile_core.specs.Feeds.{is_feed}

pub no_text : (bs : List ℕ) → is_utf8 bs ≡ false → IsUtf8 bs → ⊥
no_text bs none is = let bad : true ≡ false = sym (is_utf8-from_IsUtf8 bs is) ∙ none in absurd (let same : true ≡ false = bad in cc)

-- ---- the longest front

front_by : (bs : List ℕ) (m : ℕ) → IsUtf8 (take (valid_len_up_to bs m) bs) → (b : Bool) → is_utf8 (take (suc m) bs) ≡ b → IsUtf8 (take (valid_len_up_to bs (suc m)) bs)
front_by bs m below true e = subst (λ b. IsUtf8 (take (if b then suc m else valid_len_up_to bs m) bs)) (sym e) (IsUtf8-from_is_utf8 (take (suc m) bs) e)
front_by bs m below false e = subst (λ b. IsUtf8 (take (if b then suc m else valid_len_up_to bs m) bs)) (sym e) below

front_to : (bs : List ℕ) (m : ℕ) → IsUtf8 (take (valid_len_up_to bs m) bs)
front_to bs zero = IsUtf8-nil
front_to bs (suc m) = front_by bs m (front_to bs m) (is_utf8 (take (suc m) bs)) refl

longest_by : (bs : List ℕ) (m k : ℕ) → (valid_len_up_to bs m < k → k ≤ m → IsUtf8 (take k bs) → ⊥) → (b : Bool) → is_utf8 (take (suc m) bs) ≡ b →
    (if b then suc m else valid_len_up_to bs m) < k → k ≤ suc m → IsUtf8 (take k bs) → ⊥
longest_by bs m k below true e lt le is = omega (arith, lt, le)
longest_by bs m k below false e lt le is = go (nat_lt m k) refl
  where
    go : (b : Bool) → nat_lt m k ≡ b → ⊥
    go true f = let last : k ≡ suc m = omega (arith, le, ltb-true m k f) in no_text (take (suc m) bs) e (subst (λ n. IsUtf8 (take n bs)) last is)
    go false f = below lt (omega (arith, ltb-false m k f)) is

longest_to : (bs : List ℕ) (m k : ℕ) → valid_len_up_to bs m < k → k ≤ m → IsUtf8 (take k bs) → ⊥
longest_to bs zero k lt le is = omega (arith, lt, le)
longest_to bs (suc m) k lt le is = longest_by bs m k (longest_to bs m k) (is_utf8 (take (suc m) bs)) refl lt le is

module _ (bs : List ℕ) (none : is_utf8 bs ≡ false) where
  short_by : (n : ℕ) → IsUtf8 (take n bs) → (b : Bool) → nat_lt n (length bs) ≡ b → n < length bs
  short_by n front true e = ltb-true n (length bs) e
  short_by n front false e = absurd (no_text bs none (subst IsUtf8 (take_all n bs (ltb-false n (length bs) e)) front))

  longest_at : (m : ℕ) → valid_len_up_to bs (length bs) < m → IsUtf8 (take m bs) → (b : Bool) → nat_lt (length bs) m ≡ b → ⊥
  longest_at m lt is true e = no_text bs none (subst IsUtf8 (take_all m bs (omega (arith, ltb-true (length bs) m e))) is)
  longest_at m lt is false e = longest_to bs (length bs) m lt (omega (arith, ltb-false (length bs) m e)) is

  pub valid : IsValidUpTo bs (utf8_valid_len bs)
  unfolding utf8_valid_len
  valid = record {
    short = short_by (valid_len_up_to bs (length bs)) (front_to bs (length bs)) (nat_lt (valid_len_up_to bs (length bs)) (length bs)) refl;
    front = front_to bs (length bs);
    longest = λ m lt is. longest_at m lt is (nat_lt (length bs) m) refl;
  }

-- ---- the first line and what follows its feed

get_feed : (a y : List ℕ) → get_or (a ++ 10 ∷ y) (length a) 0 ≡ 10
get_feed [] y = refl
get_feed (x ∷ a) y = get_feed a y

take_line : (a y : List ℕ) → take (length a) (a ++ 10 ∷ y) ≡ a
take_line [] y = refl
take_line (x ∷ a) y = ap (λ r. x ∷ r) (take_line a y)

drop_line : (a y : List ℕ) (m : ℕ) → m ≡ length a + 1 → drop m (a ++ 10 ∷ y) ≡ y
drop_line [] y zero e = absurd (omega (arith, e))
drop_line [] y (suc m) e = ap (λ k. drop k y) (let none : m ≡ 0 = omega (arith, e) in none)
drop_line (x ∷ a) y zero e = absurd (omega (arith, e))
drop_line (x ∷ a) y (suc m) e = drop_line a y m (omega (arith, e))

take_behind : (a y : List ℕ) (v m : ℕ) → m ≡ length a + (1 + v) → take m (a ++ 10 ∷ y) ≡ a ++ 10 ∷ take v y
take_behind [] y v zero e = absurd (omega (arith, e))
take_behind [] y v (suc m) e = ap (λ k. 10 ∷ take k y) (let same : m ≡ v = omega (arith, e) in same)
take_behind (x ∷ a) y v zero e = absurd (omega (arith, e))
take_behind (x ∷ a) y v (suc m) e = ap (λ r. x ∷ r) (take_behind a y v m (omega (arith, e)))

take_within : (a t : List ℕ) (v : ℕ) → v ≤ length a → take v (a ++ t) ≡ take v a
take_within a t zero le = refl
take_within [] t (suc v) le = absurd (omega (arith, le))
take_within (x ∷ a) t (suc v) le = ap (λ r. x ∷ r) (take_within a t v (omega (arith, le)))

pub line_text : (a y : List ℕ) → IsUtf8 (a ++ 10 ∷ y) → IsUtf8 a
line_text a y is =
    let feed = get_feed a y in
    subst IsUtf8 (take_line a y) (IsUtf8-take (a ++ 10 ∷ y) (length a) is (IsCharBoundary-before_ascii (a ++ 10 ∷ y) (length a) (omega (arith, length-append a (10 ∷ y))) (omega (arith, feed))))

pub rest_text : (a y : List ℕ) → IsUtf8 (a ++ 10 ∷ y) → IsUtf8 y
rest_text a y is =
    let feed = get_feed a y in
    subst IsUtf8 (drop_line a y (length a + 1) refl)
    (IsUtf8-drop (a ++ 10 ∷ y) (length a + 1) is (IsCharBoundary-after_ascii (a ++ 10 ∷ y) (length a) is (omega (arith, length-append a (10 ∷ y))) (omega (arith, feed))))

pub both_texts : (a y : List ℕ) → IsUtf8 a → IsUtf8 y → IsUtf8 (a ++ 10 ∷ y)
unfolding lib.Utf8.encode
both_texts a y p q = IsUtf8-append a (10 ∷ y) p (IsUtf8-append (10 ∷ []) y (10 ∷ [], (refl, refl)) q)

-- ---- feeds

abbrev pub IsFeedless : List ℕ → Type 0
IsFeedless a = All (λ c. is_feed c ≡ false) a

count_none : (a : List ℕ) → IsFeedless a → count_by is_feed a ≡ 0
count_none a none = omega (arith, length-slice_split is_feed a, ap length (slice_split_none is_feed a none))

count_behind : (a y : List ℕ) → IsFeedless a → count_by is_feed (a ++ 10 ∷ y) ≡ 1 + count_by is_feed y
count_behind a y none = omega (arith, length-slice_split is_feed (a ++ 10 ∷ y), ap length (slice_split_at is_feed a 10 y none refl), length-slice_split is_feed y)

take_feedless : (a : List ℕ) (v : ℕ) → IsFeedless a → IsFeedless (take v a)
take_feedless a v none = λ k e m. let k' = none k e (grind (arith, common_steps)) in grind (arith, common_steps)

-- ---- the line of the first byte that is no part of a character

-- in the first line
pub bad_last : (a : List ℕ) → IsFeedless a → bad_line a ≡ 1
bad_last a none = ap (λ n. n + 1) (count_none (take (utf8_valid_len a) a) (take_feedless a (utf8_valid_len a) none))

bad_first_by : (a y : List ℕ) (v : ℕ) → IsFeedless a → is_utf8 a ≡ false → IsUtf8 (take v (a ++ 10 ∷ y)) → (b : Bool) → nat_lt (length a) v ≡ b →
    count_by is_feed (take v (a ++ 10 ∷ y)) ≡ 0
bad_first_by a y v none bad front true e =
    let behind = take_behind a y (v - (length a + 1)) v (omega (arith, ltb-true (length a) v e)) in
    absurd (no_text a bad (line_text a (take (v - (length a + 1)) y) (subst IsUtf8 behind front)))
bad_first_by a y v none bad front false e =
    ap (count_by is_feed) (take_within a (10 ∷ y) v (ltb-false (length a) v e)) ∙ count_none (take v a) (take_feedless a v none)

pub bad_first : (a y : List ℕ) → IsFeedless a → is_utf8 a ≡ false → is_utf8 (a ++ 10 ∷ y) ≡ false → bad_line (a ++ 10 ∷ y) ≡ 1
bad_first a y none bad whole =
    let front = (valid (a ++ 10 ∷ y) whole).front in
    ap (λ n. n + 1) (bad_first_by a y (utf8_valid_len (a ++ 10 ∷ y)) none bad front (nat_lt (length a) (utf8_valid_len (a ++ 10 ∷ y))) refl)

-- in a later one
valid_behind : (a y : List ℕ) (v : ℕ) → IsUtf8 a → IsValidUpTo y v → IsValidUpTo (a ++ 10 ∷ y) (length a + (1 + v))
valid_behind a y v is of = record {
  short = omega (arith, length-append a (10 ∷ y), of.short);
  front = subst IsUtf8 (sym (take_behind a y v (length a + (1 + v)) refl)) (both_texts a (take v y) is of.front);
  longest = λ m lt u.
      let behind = take_behind a y (m - (length a + 1)) m (omega (arith, lt)) in
      of.longest (m - (length a + 1)) (omega (arith, lt)) (rest_text a (take (m - (length a + 1)) y) (subst IsUtf8 behind u));
}

pub bad_later : (a y : List ℕ) → IsFeedless a → IsUtf8 a → is_utf8 y ≡ false → bad_line (a ++ 10 ∷ y) ≡ 1 + bad_line y
bad_later a y none is bad =
    let len = utf8_valid_len-IsValidUpTo (a ++ 10 ∷ y) (length a + (1 + utf8_valid_len y)) (valid_behind a y (utf8_valid_len y) is (valid y bad)) in
    let front = ap (λ n. take n (a ++ 10 ∷ y)) len ∙ take_behind a y (utf8_valid_len y) (length a + (1 + utf8_valid_len y)) refl in
    let count = count_behind a (take (utf8_valid_len y) y) none in
    let sum : count_by is_feed (a ++ 10 ∷ take (utf8_valid_len y) y) + 1 ≡ 1 + bad_line y = omega (arith, count) in
    ap (λ t. count_by is_feed t + 1) front ∙ sum
