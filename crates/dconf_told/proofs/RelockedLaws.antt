-- What is told of locks is exactly what may be written otherwise than before.
use Rattle.std.specs.Prelude.{◌↔◌, Contains, Result, filter, is_ok, map, nat_lt, string_bytes}
use Rattle.std.proofs.Common.{◌≡◌, ◌≢◌, ◌⊎◌, ◌∙◌, ◌&&◌, ◌||◌, ◌++◌, ◌<◌, ◌≤◌, ℕ, zero, suc, Bool, true, false, cond, List, [], ◌∷◌, append_assoc, append-nil, drop, length, not, ap, sym, refl, subst, inl, inr, arith}
use Rattle.std.specs.Cmp.Lexicographic.{slice_cmp}
use Rattle.std.specs.List.{list_any}
use Rattle.std.specs.List.Sorted.{IsBinarySearchResult, IsSearchInRange}
use Rattle.std.specs.Ordering.{nat_cmp}
use Rattle.std.specs.Str.{bytes_eq}
use Rattle.std.specs.declared.alloc.Global.{Global}
use Rattle.std.specs.declared.string.String.{String}
use Rattle.std.proofs.lemmas.Bool.{and_from, and_parts, or_cases, or_left, or_right}
use Rattle.std.proofs.lemmas.Bool.Decides.{Decides-eqb}
use Rattle.std.proofs.lemmas.List.Folds.{list_any-append}
use Rattle.std.proofs.lemmas.List.Elements.{filter-append}
use Rattle.std.proofs.lemmas.List.Sums.{fold-append}
use Rattle.std.proofs.lemmas.Slice.Eq.{starts_is}
use Rattle.dconf_model.specs.Layers.{Layers, all_locks, greatest_from, locks_path}
use Rattle.dconf_model.specs.Locks.{covers, is_below}
use Rattle.dconf_model.specs.Order.{listing}
use Rattle.dconf_model.specs.Paths.{ends_with_slash, has_two_slashes, is_directory_path, starts_with_slash}
use Rattle.dconf_model.specs.Settings.{Settings}
use Rattle.dconf_model.proofs.ListingOrder.{find_text, listing_is_once_each}
use Rattle.dconf_model.proofs.ParentLaws.{by_bool}
use Rattle.dconf_model.proofs.PathMaps.{any_passes, no_truth, passes}
use Rattle.dconf_model.proofs.SameBytes.{itself, other_path, path_itself, same_or_not, same_path}
use Rattle.dconf_layers.specs.TextSets.{TextSet, with_text, with_texts}
use Rattle.dconf_layers.proofs.PathTests.{any_passing}
use Rattle.dconf_seen.specs.Waiting.{may_write}
use Rattle.dconf_seen.proofs.CoveringLaws.{locked_is_covered}
use Rattle.dconf_told.specs.Relocking.{AreRelocked, IsSideOf, have_same, hides, is_covered, is_other, locks_beside, locks_in, may_beside, other_beside, others_of, outermost, told_between}
use Rattle.dconf_told.specs.Telling.{before_in, first_before}
use Rattle.dconf_told.proofs.SearchLaws.{found_text as found_one}
use Rattle.dconf_told.specs.declared.sides.Side.{Side}

abbrev Has : List (List ℕ) → List ℕ → Type 0
Has paths path = list_any (bytes_eq path) paths ≡ true

abbrev root : List ℕ
root = 47 ∷ []

-- ---- covering

covers_how : (a b : List ℕ) → covers a b ≡ true → (a ≡ b) ⊎ ((ends_with_slash a ≡ true) × (is_below b a ≡ true))
covers_how a b is = elim (or_cases (bytes_eq a b) (ends_with_slash a && is_below b a) is) [
  | inl same ↦ inl (same_path a b same)
  | inr below ↦ inr (and_parts (ends_with_slash a) (is_below b a) below)
]

below_cut : (b a : List ℕ) → is_below b a ≡ true → b ≡ a ++ drop (length a) b
below_cut b a is = (starts_is Decides-eqb b a (is_below b a) refl).0 is

below_twice : (a b c : List ℕ) → is_below b a ≡ true → is_below c b ≡ true → is_below c a ≡ true
below_twice a b c h k =
    (starts_is Decides-eqb c a (is_below c a) refl).1 (drop (length a) b ++ drop (length b) c)
    (below_cut c b k ∙ (ap (λ (x : List ℕ). x ++ drop (length b) c) (below_cut b a h) ∙ append_assoc a (drop (length a) b) (drop (length b) c)))

covers_directory : (a b : List ℕ) → ends_with_slash a ≡ true → is_below b a ≡ true → covers a b ≡ true
covers_directory a b ends below = or_right (bytes_eq a b) (ends_with_slash a && is_below b a) (and_from (ends_with_slash a) (is_below b a) ends below)

covers_twice : (a b c : List ℕ) → covers a b ≡ true → covers b c ≡ true → covers a c ≡ true
covers_twice a b c h k = elim (covers_how a b h) [
  | inl same ↦ subst (λ (x : List ℕ). covers x c ≡ true) (sym same) k
  | inr upper ↦ elim (covers_how b c k) [
    | inl same ↦ subst (λ (x : List ℕ). covers a x ≡ true) same h
    | inr lower ↦ covers_directory a c upper.0 (below_twice a b c upper.1 lower.1)
  ]
]

covers_itself : (a : List ℕ) → covers a a ≡ true
covers_itself a = or_left (bytes_eq a a) (ends_with_slash a && is_below a a) (itself a)

root_covers : (p : List ℕ) → starts_with_slash p ≡ true → covers root p ≡ true
root_covers [] e = absurd (no_truth e)
root_covers (c ∷ p) e = covers_directory root (c ∷ p) refl e

-- ---- the outermost

parts_of : (p other : List ℕ) → hides p other ≡ true → (not (bytes_eq other p) ≡ true) × (covers other p ≡ true)
parts_of p other e = and_parts (not (bytes_eq other p)) (covers other p) e

longer : (a rest b : List ℕ) → b ≡ a ++ rest → not (bytes_eq a b) ≡ true → length a < length b
longer a [] b cut other = absurd (no_truth (sym (ap not (path_itself a b (sym (cut ∙ append-nil a)))) ∙ other))
longer a (c ∷ rest) b cut other = subst (λ (x : List ℕ). length a < length x) (sym cut) (more a)
  where
    more : (xs : List ℕ) → length xs < length (xs ++ c ∷ rest)
    more [] = omega arith
    more (x ∷ xs) = let h = more xs in omega (arith, h)

shorter : (p other : List ℕ) → hides p other ≡ true → length other < length p
shorter p other e = elim (covers_how other p (parts_of p other e).1) [
  | inl same ↦ absurd (no_truth (sym (ap not (path_itself other p same)) ∙ (parts_of p other e).0))
  | inr below ↦ longer other (drop (length other) p) p (below_cut p other below.1) (parts_of p other e).0
]

abbrev kept : List (List ℕ) → List ℕ → Bool
kept paths path = not (is_covered paths path)

abbrev IsCoveredBy : List (List ℕ) → List ℕ → Type 0
IsCoveredBy paths p = (q : List ℕ) × Has paths q × (covers q p ≡ true)

last : (paths : List (List ℕ)) (p : List ℕ) → Has paths p → is_covered paths p ≡ false → IsCoveredBy (outermost paths) p
last paths p has free = (p, any_passing p (kept paths) paths ∙ and_from (kept paths p) (list_any (bytes_eq p) paths) (ap not free) has, covers_itself p)

above : (paths : List (List ℕ)) (n : ℕ) (p : List ℕ) → length p ≤ n → Has paths p → IsCoveredBy (outermost paths) p
above paths zero p less has =
    by_bool (is_covered paths p) (IsCoveredBy (outermost paths) p)
    (λ covered. let w = passes (hides p) paths covered in let h = shorter p w.0 w.2 in absurd (omega (arith, less, h)))
    (λ free. last paths p has free)
above paths (suc n) p less has =
    by_bool (is_covered paths p) (IsCoveredBy (outermost paths) p)
    (λ covered. let w = passes (hides p) paths covered in
    let h = shorter p w.0 w.2 in
    let r = above paths n w.0 (omega (arith, less, h)) w.1 in
    (r.0, r.1, covers_twice r.0 w.0 p r.2 (parts_of p w.0 w.2).1))
    (λ free. last paths p has free)

-- ---- what may be written on a side

other_told : (a b : Bool) → (is_other a b ≡ true) ↔ (a ≢ b)
other_told true true = (λ e. absurd (no_truth e), λ n. absurd (n refl))
other_told true false = (λ e s. no_truth (sym s), λ n. refl)
other_told false true = (λ e s. no_truth s, λ n. refl)
other_told false false = (λ e. absurd (no_truth e), λ n. absurd (n refl))

is_not : (b : Bool) → not b ≡ true → b ≡ false
is_not true e = absurd (no_truth e)
is_not false e = refl

abbrev locked : Side → List ℕ → Bool
locked s p = list_any (λ lock. covers lock p) (locks_beside s)

pub as_side : (s : Side) (l : Layers) → IsSideOf s l → (p : List ℕ) → starts_with_slash p ≡ true → may_write l p ≡ may_beside s p
as_side s l is p starts =
    let locks = locked_is_covered l p starts ∙ ap (list_any (λ lock. covers lock p)) (sym is.locks) in
    λ i. sym is.writable i && not (locks i)

-- where a path may be written, what covers it may be
free_above : (t : Side) (c p : List ℕ) → covers c p ≡ true → may_beside t p ≡ true → may_beside t c ≡ true
free_above t c p above may =
    let parts = and_parts t.writable (not (locked t p)) may in
    let free : locked t c ≡ false = by_bool (locked t c) (locked t c ≡ false)
    (λ yes. let w = passes (λ lock. covers lock c) (locks_beside t) yes in
    absurd (no_truth (sym (is_not (locked t p) parts.1) ∙ any_passes (λ lock. covers lock p) (locks_beside t) w.0 w.1 (covers_twice w.0 c p w.2 above))))
    (λ other. other) in
    and_from t.writable (not (locked t c)) parts.0 (ap not free)

itself_locked : (s : Side) (c : List ℕ) → Has (locks_beside s) c → locked s c ≡ true
itself_locked s c has = any_passes (λ lock. covers lock c) (locks_beside s) c has (covers_itself c)

not_written : (s : Side) (c : List ℕ) → locked s c ≡ true → may_beside s c ≡ false
not_written s c e = ap (λ b. s.writable && not b) e ∙ none s.writable
  where
    none : (b : Bool) → (b && false) ≡ false
    none true = refl
    none false = refl

-- ---- candidates

abbrev all : Side → Side → List (List ℕ)
all s t = locks_beside s ++ (locks_beside t ++ root ∷ [])

has_left : (p : List ℕ) (xs ys : List (List ℕ)) → Has xs p → Has (xs ++ ys) p
has_left p xs ys h = list_any-append (bytes_eq p) xs ys ∙ or_left (list_any (bytes_eq p) xs) (list_any (bytes_eq p) ys) h

has_right : (p : List ℕ) (xs ys : List (List ℕ)) → Has ys p → Has (xs ++ ys) p
has_right p xs ys h = list_any-append (bytes_eq p) xs ys ∙ or_right (list_any (bytes_eq p) xs) (list_any (bytes_eq p) ys) h

has_either : (p : List ℕ) (xs ys : List (List ℕ)) → Has (xs ++ ys) p → Has xs p ⊎ Has ys p
has_either p xs ys h = or_cases (list_any (bytes_eq p) xs) (list_any (bytes_eq p) ys) (sym (list_any-append (bytes_eq p) xs ys) ∙ h)

first_all : (s t : Side) (p : List ℕ) → Has (locks_beside s) p → Has (all s t) p
first_all s t p h = has_left p (locks_beside s) (locks_beside t ++ root ∷ []) h

second_all : (s t : Side) (p : List ℕ) → Has (locks_beside t) p → Has (all s t) p
second_all s t p h = has_right p (locks_beside s) (locks_beside t ++ root ∷ []) (has_left p (locks_beside t) (root ∷ []) h)

root_all : (s t : Side) → Has (all s t) root
root_all s t = has_right root (locks_beside s) (locks_beside t ++ root ∷ []) (has_right root (locks_beside t) (root ∷ []) refl)

lock_starts : (s : Side) (l : Layers) → IsSideOf s l → (p : List ℕ) → Has (locks_beside s) p → starts_with_slash p ≡ true
lock_starts s l is p has =
    let found : List (List ℕ) = filter (λ lock. is_below lock root) (all_locks (drop 1 l.layers)) in
    let there : Has found p = sym ((listing_is_once_each found).same p) ∙ subst (λ (ls : List (List ℕ)). Has ls p) is.locks has in
    let below : is_below p root ≡ true = (and_parts (is_below p root) (list_any (bytes_eq p) (all_locks (drop 1 l.layers))) (sym (any_passing p (λ lock. is_below lock root) (all_locks (drop 1 l.layers))) ∙ there)).0 in
    ap starts_with_slash (below_cut p root below)

-- a path that may be written on one side alone is below one that covers it
abbrev IsFrom : Side → Side → List ℕ → List ℕ → Type 0
IsFrom s t p c = (covers c p ≡ true) × (may_beside s c ≡ false) × (may_beside t c ≡ true)

source : (s t : Side) (p : List ℕ) → starts_with_slash p ≡ true → may_beside s p ≡ false → may_beside t p ≡ true →
    (c : List ℕ) × ((Has (locks_beside s) c) ⊎ (c ≡ root)) × IsFrom s t p c
source s t p starts none may =
    by_bool (locked s p) ((c : List ℕ) × ((Has (locks_beside s) c) ⊎ (c ≡ root)) × IsFrom s t p c)
    (λ yes. let w = passes (λ lock. covers lock p) (locks_beside s) yes in
    (w.0, inl w.1, (w.2, not_written s w.0 (itself_locked s w.0 w.1), free_above t w.0 p w.2 may)))
    (λ free. (root, inr refl, (root_covers p starts, nothing free, free_above t root p (root_covers p starts) may)))
  where
    nothing : locked s p ≡ false → may_beside s root ≡ false
    nothing free = by_bool s.writable (may_beside s root ≡ false)
        (λ yes. absurd (no_truth (sym none ∙ and_from s.writable (not (locked s p)) yes (ap not free))))
        (λ off. ap (λ b. b && not (locked s root)) off)

module _ (s t : Side) (l m : Layers) (first : IsSideOf s l) (second : IsSideOf t m) where
  abbrev others : List (List ℕ)
  others = listing (others_of s t)

  other_of_list : (p : List ℕ) → Has others p → (other_beside s t p ≡ true) × Has (all s t) p
  other_of_list p has =
      and_parts (other_beside s t p) (list_any (bytes_eq p) (all s t))
      (sym (any_passing p (other_beside s t) (all s t)) ∙ (sym ((listing_is_once_each (others_of s t)).same p) ∙ has))

  list_of_other : (p : List ℕ) → other_beside s t p ≡ true → Has (all s t) p → Has others p
  list_of_other p other has =
      (listing_is_once_each (others_of s t)).same p
      ∙ (any_passing p (other_beside s t) (all s t) ∙ and_from (other_beside s t p) (list_any (bytes_eq p) (all s t)) other has)

  starts : (p : List ℕ) → Has (all s t) p → starts_with_slash p ≡ true
  starts p has = elim (has_either p (locks_beside s) (locks_beside t ++ root ∷ []) has) [
    | inl one ↦ lock_starts s l first p one
    | inr more ↦ elim (has_either p (locks_beside t) (root ∷ []) more) [
      | inl two ↦ lock_starts t m second p two
      | inr last ↦ ap starts_with_slash (elim (or_cases (bytes_eq p root) false last) [
        | inl same ↦ same_path p root same
        | inr none ↦ absurd (no_truth none)
      ])
    ]
  ]

  other_is : (p : List ℕ) → starts_with_slash p ≡ true → (other_beside s t p ≡ true) ↔ (may_write l p ≢ may_write m p)
  other_is p slash = (
    λ e same. (other_told (may_beside s p) (may_beside t p)).0 e (sym (as_side s l first p slash) ∙ (same ∙ as_side t m second p slash)),
    λ n. (other_told (may_beside s p) (may_beside t p)).1 (λ same. n (as_side s l first p slash ∙ (same ∙ sym (as_side t m second p slash)))),
  )

  covered_other : (p : List ℕ) → starts_with_slash p ≡ true → other_beside s t p ≡ true → IsCoveredBy others p
  covered_other p slash other = go (may_beside s p) (may_beside t p) refl refl other
    where
      among : (x y : Side) (c : List ℕ) → Has (locks_beside x) c ⊎ (c ≡ root) → (Has (locks_beside x) c → Has (all s t) c) → Has (all s t) c
      among x y c w each = elim w [
        | inl has ↦ each has
        | inr is ↦ subst (Has (all s t)) (sym is) (root_all s t)
      ]

      go : (a b : Bool) → may_beside s p ≡ a → may_beside t p ≡ b → is_other a b ≡ true → IsCoveredBy others p
      go true true e f o = absurd (no_truth o)
      go false false e f o = absurd (no_truth o)
      go false true e f o =
          let w = source s t p slash e f in
          (w.0, list_of_other w.0 ((λ i. is_other (w.2.1 i) (w.2.2 i))) (among s t w.0 w.1 (first_all s t w.0)), w.2.0)
      go true false e f o =
          let w = source t s p slash f e in
          (w.0, list_of_other w.0 ((λ i. is_other (w.2.2 i) (w.2.1 i))) (among t s w.0 w.1 (second_all s t w.0)), w.2.0)

  in_outermost : (p : List ℕ) → Contains (told_between s t) p → (kept others p ≡ true) × Has others p
  in_outermost p has =
      and_parts (kept others p) (list_any (bytes_eq p) others)
      (sym (any_passing p (kept others) others) ∙ (sym ((listing_is_once_each (outermost others)).same p) ∙ find_text p (told_between s t) has))

  told_is : (p : List ℕ) → Contains (told_between s t) p → may_write l p ≢ may_write m p
  told_is p has =
      let is = other_of_list p (in_outermost p has).1 in
      (other_is p (starts p is.1)).0 is.0

  told_all : (p : List ℕ) → starts_with_slash p ≡ true → may_write l p ≢ may_write m p → list_any (λ told. covers told p) (told_between s t) ≡ true
  told_all p slash differs =
      let c = covered_other p slash ((other_is p slash).1 differs) in
      let d = above others (length c.0) c.0 (omega arith) c.1 in
      any_passes (λ told. covers told p) (told_between s t) d.0 ((listing_is_once_each (outermost others)).same d.0 ∙ d.1) (covers_twice d.0 c.0 p d.2 c.2)

  told_once : (p q : List ℕ) → Contains (told_between s t) p → Contains (told_between s t) q → covers p q ≡ true → p ≡ q
  told_once p q one two over = elim (same_or_not p q) [
    | inl same ↦ same
    | inr other ↦ absurd (no_truth (sym (is_not (is_covered others q) (in_outermost q two).0)
        ∙ any_passes (hides q) others p (in_outermost p one).1 (and_from (not (bytes_eq p q)) (covers p q) (ap not (other_path p q other)) over)))
  ]

  pub relocked_between : AreRelocked l m (told_between s t)
  relocked_between = record {
    rising = (listing_is_once_each (outermost others)).rising;
    otherwise = told_is;
    all = told_all;
    once = told_once;
  }

-- ---- what is gathered, and found

pub list_any-map : {X Y : Type 0} (f : Y → Bool) (h : X → Y) (xs : List X) → list_any (λ x. f (h x)) xs ≡ list_any f (map h xs)
list_any-map f h [] = refl
list_any-map f h (x ∷ xs) = ap (λ b. f (h x) || b) (list_any-map f h xs)

pub gathered : (f : List ℕ → Bool) (xs ys zs : List (List ℕ)) (s : TextSet) →
    with_texts (filter f zs) (with_texts (filter f ys) (with_texts (filter f xs) s)) ≡ with_texts (filter f (xs ++ (ys ++ zs))) s
gathered f xs ys zs s = sym (
    ap (λ (ts : List (List ℕ)). with_texts ts s) (filter-append f xs (ys ++ zs) ∙ ap (λ (ts : List (List ℕ)). filter f xs ++ ts) (filter-append f ys zs))
    ∙ (fold-append with_text s (filter f xs) (filter f ys ++ filter f zs) ∙ fold-append with_text (with_texts (filter f xs) s) (filter f ys) (filter f zs)))

-- what a search by halving finds is a lock
pub found_lock : (p : List ℕ) (locks : List (String Global)) (r : Result ℕ ℕ) → IsSearchInRange r (length locks) →
    IsBinarySearchResult (λ lock. slice_cmp nat_cmp (string_bytes lock) p) locks r → is_ok r ≡ true → list_any (λ lock. covers lock p) (map string_bytes locks) ≡ true
found_lock p locks r less at is = any_passes (λ lock. covers lock p) (map string_bytes locks) p (found_one p locks r less at is) (covers_itself p)

-- ---- the layers before

pub before_writable : (same : Bool) (l m : Layers) → (before_in same l m).writable ≡ l.writable
before_writable false l m = refl
before_writable true l m = go l.layers
  where
    go : (ls : List Settings) → (first_before ls l m).writable ≡ l.writable
    go [] = refl
    go (s ∷ ls) = refl

pub others_before : (same : Bool) (l m : Layers) → drop 1 (before_in same l m).layers ≡ cond (have_same same l.layers) (drop 1 m.layers) (drop 1 l.layers)
others_before false l m = refl
others_before true l m = go l.layers
  where
    go : (ls : List Settings) → drop 1 (first_before ls l m).layers ≡ cond (have_same true ls) (drop 1 m.layers) (drop 1 l.layers)
    go [] = refl
    go (s ∷ ls) = refl

-- the side of the layers before, by the locks that were taken for theirs
pub side_before : (same : Bool) (l m : Layers) (s : Side) (has : Bool) → has ≡ have_same same l.layers → s.writable ≡ l.writable →
    locks_beside s ≡ cond has (locks_in (drop 1 m.layers)) (locks_in (drop 1 l.layers)) → IsSideOf s (before_in same l m)
side_before same l m s has is w locks = record {
  writable = w ∙ sym (before_writable same l m);
  locks = locks ∙ (chosen has ∙ ap locks_in (ap (λ b. cond b (drop 1 m.layers) (drop 1 l.layers)) is ∙ sym (others_before same l m)));
}
  where
    chosen : (b : Bool) → cond b (locks_in (drop 1 m.layers)) (locks_in (drop 1 l.layers)) ≡ locks_in (cond b (drop 1 m.layers) (drop 1 l.layers))
    chosen true = refl
    chosen false = refl

pub relocked_list : (s t : Side) (l m : Layers) → IsSideOf s l → IsSideOf t m → (paths : List (List ℕ)) → paths ≡ told_between s t → AreRelocked l m paths
relocked_list s t l m first second paths is = subst (AreRelocked l m) (sym is) (relocked_between s t l m first second)

-- ---- what doesn't start with a slash

starts_after : (xs ys : List ℕ) → starts_with_slash xs ≡ true → starts_with_slash (xs ++ ys) ≡ true
starts_after [] ys e = absurd (no_truth e)
starts_after (c ∷ xs) ys e = e

covered_starts : (lock p : List ℕ) → covers lock p ≡ true → starts_with_slash lock ≡ true → starts_with_slash p ≡ true
covered_starts lock p over e = elim (covers_how lock p over) [
  | inl same ↦ ap starts_with_slash (sym same) ∙ e
  | inr below ↦ ap starts_with_slash (below_cut p lock below.1) ∙ starts_after lock (drop (length lock) p) e
]

pub none_beside : (s : Side) (l : Layers) → IsSideOf s l → (p : List ℕ) → starts_with_slash p ≡ false → may_beside s p ≡ s.writable
none_beside s l is p none =
    by_bool (locked s p) (may_beside s p ≡ s.writable)
    (λ yes. let w = passes (λ lock. covers lock p) (locks_beside s) yes in
    absurd (no_truth (sym none ∙ covered_starts w.0 p w.2 (lock_starts s l is w.0 w.1))))
    (λ free. ap (λ b. s.writable && not b) free ∙ whole s.writable)
  where
    whole : (b : Bool) → (b && true) ≡ b
    whole true = refl
    whole false = refl

pub root_is_directory : is_directory_path root ≡ true
unfolding has_two_slashes
root_is_directory = refl

-- ---- where nothing is otherwise

pub none_relocked : (l m : Layers) → l.writable ≡ m.writable → drop 1 l.layers ≡ drop 1 m.layers → AreRelocked l m []
none_relocked l m writable others = record {
  rising = tt;
  otherwise = λ p has. absurd (none_has p has);
  all = λ p slash differs. absurd (differs (same p));
  once = λ p q has. absurd (none_has p has);
}
  where
    none_has : (p : List ℕ) → Contains {X = List ℕ} [] p → ⊥
    none_has p has = no_truth (find_text p [] has)

    same : (p : List ℕ) → may_write l p ≡ may_write m p
    same p = λ i. writable i && not (nat_lt 0 (greatest_from 1 (locks_path p) (others i)))

pub none_alike : (same : Bool) (l m : Layers) → have_same same l.layers ≡ true → l.writable ≡ m.writable → AreRelocked (before_in same l m) m []
none_alike same l m has w =
    none_relocked (before_in same l m) m (before_writable same l m ∙ w) (others_before same l m ∙ ap (λ b. cond b (drop 1 m.layers) (drop 1 l.layers)) has)
