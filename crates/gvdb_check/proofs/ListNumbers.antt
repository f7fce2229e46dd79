-- The numbers of a list, cut out as its four bytes each: what walks and searches of them tell.
use Rattle.std.proofs.Common.{ℕ, zero, suc, ◌+◌, ◌-◌, ◌*◌, ◌/◌, ◌<◌, ◌≡◌, ◌↔◌, Bool, true, false, IsTrue, List, length, get_or, take, drop, refl, sym, ◌∙◌, ap, subst, arith, length-take, length-drop, [], ◌≤◌, inl, inr}
use Rattle.std.specs.Prelude.{slice_range}
use Rattle.std.specs.Bool.{MatchBool}
use Rattle.std.specs.List.{AllWithin, HoldsAt, range_with_len}
use Rattle.std.specs.Simd.{first_chunks}
use Rattle.std.proofs.lemmas.Bool.{cases_order}
use Rattle.std.proofs.lemmas.List.{drop-take, drop-drop, get_or-take, take-take}
use Rattle.std.proofs.lemmas.List.FromFn.{get_or-range_with_len, length-range_with_len}
use Rattle.gv_model.specs.BasicValue.{number_in}
use Rattle.dconf_model.specs.Bytes.{u32_at}
use Rattle.dconf_model.specs.Table.{Table, item, HasBytes, bytes_of}
use Rattle.dconf_model.specs.Sound.{list_length, listed}
use Rattle.gvdb_check.specs.ListNumbers.{AreNumbers, IsFirstAt, IsListed, Occurs}
use Rattle.gvdb_check.specs.Counted.{IsOnce}
use Rattle.gvdb_check.proofs.ListWalks.{all_once, first_if_once}

-- ---- cutting them out

chunk_at : (count : ℕ) (xs : List ℕ) (k : ℕ) (d : List ℕ) → k < count → get_or (first_chunks 4 count xs) k d ≡ take 4 (drop (4 * k) xs)
chunk_at zero xs k d lt = absurd (omega arith)
chunk_at (suc n) xs zero d lt = refl
chunk_at (suc n) xs (suc k) d lt =
    let further : 4 + 4 * k ≡ 4 * suc k = omega arith in
    chunk_at n (drop 4 xs) k d (omega arith) ∙ ap (λ (l : List ℕ). take 4 l) (drop-drop (4 * k) 4 xs) ∙ ap (λ m. take 4 (drop m xs)) further

four_bytes : (file : List ℕ) (start end k rest : ℕ) → end - start ≡ 4 * k + (4 + rest) → take 4 (drop (4 * k) (slice_range file start end)) ≡ slice_range file (start + 4 * k) (start + 4 * k + 4)
four_bytes file start end k rest e =
    let four : 4 ≡ start + 4 * k + 4 - (start + 4 * k) = omega arith in
    ap (λ n. take 4 (drop (4 * k) (take n (drop start file)))) e
    ∙ ap (λ (l : List ℕ). take 4 l) (drop-take (4 * k) (4 + rest) (drop start file))
    ∙ take-take 4 (4 + rest) (drop (4 * k) (drop start file)) (omega arith)
    ∙ ap (λ (l : List ℕ). take 4 l) (drop-drop (4 * k) start file)
    ∙ ap (λ n. take n (drop (start + 4 * k) file)) four

pub number_at : (file : List ℕ) (start end k rest : ℕ) → end - start ≡ 4 * k + (4 + rest) → number_in (take 4 (drop (4 * k) (slice_range file start end))) ≡ u32_at file (start + 4 * k)
unfolding u32_at
number_at file start end k rest e = ap number_in (four_bytes file start end k rest e)

pub cut_out : (t : Table) (i : ℕ) (bytes : List ℕ) (numbers : List (List ℕ)) → HasBytes t i → bytes ≡ bytes_of t i → numbers ≡ first_chunks 4 (length bytes / 4) bytes → length numbers ≡ length bytes / 4 → AreNumbers t i numbers
cut_out t i bytes numbers valid is cut len =
    let start = (item t i).start in
    let end = (item t i).end in
    let size : length bytes ≡ end - start = ap (λ (l : List ℕ). length l) is ∙ omega (arith, length-take (end - start) (drop start t.file), length-drop start t.file, valid.ordered, valid.inside) in
    record {
      len = len ∙ ap (λ n. n / 4) size;
      each = λ k d lt.
          let below : k < length bytes / 4 = omega (arith, lt, len) in
          let rest : end - start ≡ 4 * k + (4 + (end - start - (4 * k + 4))) = omega (arith, below, size) in
          ap (λ (l : List (List ℕ)). number_in (get_or l k d)) cut
          ∙ ap number_in (chunk_at (length bytes / 4) bytes k d below)
          ∙ ap (λ (l : List ℕ). number_in (take 4 (drop (4 * k) l))) is
          ∙ number_at t.file start end k (end - start - (4 * k + 4)) rest;
    }

-- ---- walks

-- each number has P
pub each_has : (t : Table) (i : ℕ) (numbers : List (List ℕ)) (P : ℕ → Type 0) (b : Bool) → AreNumbers t i numbers
    → MatchBool b (AllWithin (λ x. P (number_in x)) numbers 0 (length numbers)) ((k : ℕ) × (k < length numbers) × HoldsAt (λ x. P (number_in x) → ⊥) numbers k)
    → IsTrue b ↔ ((k : ℕ) → k < list_length t i → P (listed t i k))
each_has t i numbers P true are all = (λ _ k lt. let inside : k < length numbers = omega (arith, lt, are.len) in subst P (are.each k [] inside) (all k [] (omega arith) inside), λ _. refl)
each_has t i numbers P false are some = (
  λ h. let bad : false ≡ true = h in cc,
  λ each. absurd (some.2 [] (subst P (sym (are.each some.0 [] some.1)) (each some.0 (omega (arith, some.1, are.len))))),
)

-- the number is among them
pub occurs_in_list : (t : Table) (i j : ℕ) (numbers : List (List ℕ)) → AreNumbers t i numbers → Occurs j numbers ↔ IsListed t i j
occurs_in_list t i j numbers are = (
  λ o. (o.0, omega (arith, o.1, are.len), sym (are.each o.0 [] o.1) ∙ o.2 []),
  λ l. let inside : l.0 < length numbers = omega (arith, l.1, are.len) in (l.0, inside, λ d. are.each l.0 d inside ∙ l.2),
)

range_at : (n k : ℕ) → k < n → get_or (range_with_len 0 n) k 0 ≡ k
range_at n k lt = let same : 0 + k ≡ k = omega arith in get_or-range_with_len 0 n k 0 lt ∙ same

-- no number occurs twice where each is none of those before it
pub once_where_first : (t : Table) (i n : ℕ) (numbers : List (List ℕ)) (b : Bool) → AreNumbers t i numbers → n ≡ length numbers
    → MatchBool b (AllWithin (IsFirstAt numbers) (range_with_len 0 n) 0 (length (range_with_len 0 n)))
    ((k : ℕ) × (k < length (range_with_len 0 n)) × HoldsAt (λ m. IsFirstAt numbers m → ⊥) (range_with_len 0 n) k) → IsTrue b ↔ IsOnce t i
once_where_first t i n numbers true are e all = (
  λ _. all_once t i n (omega (arith, e, are.len)) (λ m k lt below same.
      let first = subst (IsFirstAt numbers) (range_at n m lt) (all m 0 (omega arith) (omega (arith, lt, length-range_with_len 0 n))) in
      let here : k < length (take m numbers) = omega (arith, lt, below, e, length-take m numbers) in
      first (k, here, λ d. ap number_in (get_or-take m numbers k d below) ∙ are.each k d (omega (arith, lt, below, e)) ∙ same ∙ sym (are.each m [] (omega (arith, lt, e))))),
  λ _. refl,
)
once_where_first t i n numbers false are e some = (
  λ h. let bad : false ≡ true = h in cc,
  λ once.
      let k = some.0 in
      let lt : k < n = omega (arith, some.1, length-range_with_len 0 n) in
      let inside : k < length numbers = omega (arith, lt, e) in
      absurd (subst (λ m. IsFirstAt numbers m → ⊥) (range_at n k lt) (some.2 0) (λ o.
      let below : o.0 < k = omega (arith, o.1, length-take k numbers) in
      first_if_once t i k (omega (arith, inside, are.len)) once o.0 below
      (sym (are.each o.0 [] (omega (arith, inside, below))) ∙ sym (ap number_in (get_or-take k numbers o.0 [] below)) ∙ o.2 [] ∙ are.each k [] inside))),
)

-- where each number is above those before it, none occurs twice
pub once_where_rising : (t : Table) (i n : ℕ) → list_length t i ≤ n → ((m : ℕ) → m < n → (k : ℕ) → k < m → listed t i k < listed t i m) → IsOnce t i
once_where_rising t i n end rises k m k_inside m_inside same = elim (cases_order k m) [
  | inl e ↦ e
  | inr rest ↦ elim rest [
    | inl before ↦ absurd (omega (arith, same, rises m (omega (arith, m_inside, end)) k before))
    | inr after ↦ absurd (omega (arith, same, rises k (omega (arith, k_inside, end)) m after))
  ]
]
