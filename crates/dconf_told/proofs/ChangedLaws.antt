-- Whether anything is otherwise than before, by the keys that are listed and by the locks; and what is told is a change.
use Rattle.std.specs.Prelude.{◌==◌, Contains, filter, map, string_bytes}
use Rattle.std.proofs.Common.{Decides, ◌≡◌, ◌≢◌, ◌≤◌, ◌⊎◌, ◌∙◌, ◌&&◌, ◌||◌, ◌++◌, ℕ, Bool, true, false, cond, List, [], ◌∷◌, drop, length, not, suc, arith, ap, sym, refl, subst, inl, inr}
use lib.Pointwise.{pointwise}
use Rattle.std.specs.FinMap.{keys}
use Rattle.std.specs.List.{list_any}
use Rattle.std.specs.Str.{bytes_eq}
use Rattle.std.specs.String.{string_eq}
use Rattle.std.specs.declared.alloc.Global.{Global}
use Rattle.std.specs.declared.string.String.{String}
use Rattle.std.proofs.lemmas.Bool.{and_parts, or_left}
use Rattle.std.proofs.lemmas.Bool.Decides.{Decides-at, Decides-eqb, Decides-like, Decides-not, Decides-or, not_from_Decides}
use Rattle.std.proofs.lemmas.List.{append-nil, take_all}
use Rattle.std.proofs.lemmas.Slice.Eq.{bytes_eq-Decides, slice_eq-Decides}
use Rattle.dconf_model.specs.Layers.{Layers, all_paths}
use Rattle.dconf_model.specs.Paths.{starts_with_slash}
use Rattle.dconf_model.specs.Settings.{Settings}
use Rattle.dconf_model.specs.Locks.{covers}
use Rattle.dconf_model.proofs.FirstKeys.{first_keys_are_enough}
use Rattle.dconf_model.proofs.Listings.{listing_from, listing_has}
use Rattle.dconf_model.proofs.ListingOrder.{find_text, found_text}
use Rattle.dconf_model.proofs.ParentLaws.{by_bool}
use Rattle.dconf_model.proofs.PathMaps.{no_truth}
use Rattle.dconf_model.proofs.SameBytes.{itself}
use Rattle.dconf_layers.proofs.PathTests.{any_passing}
use Rattle.dconf_differences.specs.Differing.{AreDiffering, Differs, first_keys, with_first}
use Rattle.dconf_seen.specs.Waiting.{may_write}
use Rattle.dconf_seen.proofs.CoveringLaws.{locked_is_covered}
use Rattle.dconf_told.specs.Changed.{HasOtherLocks, OfItselfNothingDiffers, SomeKeyDiffers, TellsOfChange, TellsOfKeys, WhatIsToldIsAChange, is_to_remember, remembers, users_alone}
use Rattle.dconf_told.specs.Files.{are_other_files, has_same_fault, is_other_file}
use Rattle.dconf_told.specs.Relocking.{have_same, locks_in}
use Rattle.dconf_told.specs.Telling.{after_first, before_in}
use Rattle.dconf_told.specs.declared.files.DconfdbFileSeen.{DconfdbFileSeen}
use Rattle.dconf_told.proofs.OthersLaws.{there}
use Rattle.dconf_told.proofs.RelockedLaws.{before_writable, others_before}

-- ---- two lists of texts

by_bytes : (xs ys : List (String Global)) → pointwise string_eq xs ys ≡ pointwise bytes_eq (map string_bytes xs) (map string_bytes ys)
by_bytes [] [] = refl
by_bytes [] (y ∷ ys) = refl
by_bytes (x ∷ xs) [] = refl
by_bytes (x ∷ xs) (y ∷ ys) = ap (λ b. bytes_eq (string_bytes x) (string_bytes y) && b) (by_bytes xs ys)

pub same_texts : (xs ys : List (String Global)) (is : Bool) → is ≡ pointwise string_eq xs ys → Decides is (map string_bytes xs ≡ map string_bytes ys)
same_texts xs ys is e = slice_eq-Decides bytes_eq-Decides (map string_bytes xs) (map string_bytes ys) is (e ∙ by_bytes xs ys)

-- ---- a list that says whether a key differs

-- what is listed was asked, and differs; and nothing of that is missing
of_differing : (l m : Layers) (asked paths : List (List ℕ)) (p : List ℕ) → AreDiffering l m asked paths → Contains paths p → Contains asked p × Differs l m p
of_differing l m asked paths p d has =
    let among : Contains (filter d.test asked) p = listing_from (filter d.test asked) p (subst (λ (ps : List (List ℕ)). Contains ps p) d.are has) in
    let both = and_parts (d.test p) (list_any (bytes_eq p) asked) (sym (any_passing p d.test asked) ∙ find_text p (filter d.test asked) among) in
    (found_text p asked both.1, (d.tells p).0 both.0)

both_true : (a b : Bool) → a ≡ true → b ≡ true → (a && b) ≡ true
both_true true b e f = f
both_true false b e f = absurd (no_truth e)

is_listed : (l m : Layers) (asked paths : List (List ℕ)) (p : List ℕ) → AreDiffering l m asked paths → Contains asked p → Differs l m p → Contains paths p
is_listed l m asked paths p d has other =
    subst (λ (ps : List (List ℕ)). Contains ps p) (sym d.are)
    (listing_has (filter d.test asked) p (found_text p (filter d.test asked)
    (any_passing p d.test asked ∙ both_true (d.test p) (list_any (bytes_eq p) asked) ((d.tells p).1 other) (find_text p asked has))))

abbrev is_empty : List (List ℕ) → Bool
is_empty [] = true
is_empty (p ∷ ps) = false

one_of : (paths : List (List ℕ)) → not (is_empty paths) ≡ true → (p : List ℕ) × Contains paths p
one_of [] e = absurd (no_truth e)
one_of (p ∷ ps) e = (p, found_text p (p ∷ ps) (or_left (bytes_eq p p) (list_any (bytes_eq p) ps) (itself p)))

not_empty : (paths : List (List ℕ)) (p : List ℕ) → Contains paths p → not (is_empty paths) ≡ true
not_empty [] p has = absurd (no_truth (find_text p [] has))
not_empty (q ∷ ps) p has = refl

-- of all layers
pub all_tell : (l m : Layers) (n : ℕ) (paths : List (List ℕ)) → length l.layers ≤ n → length m.layers ≤ n →
    AreDiffering l m (first_keys n l ++ first_keys n m) paths → Decides (not (is_empty paths)) (SomeKeyDiffers l m)
all_tell l m n paths first second d = (
  λ e. let w = one_of paths e in
      let is = of_differing l m (first_keys n l ++ first_keys n m) paths w.0 d w.1 in
      (w.0, subst (λ (ps : List (List ℕ)). Contains ps w.0) all is.0, is.1),
  λ w. not_empty paths w.0 (is_listed l m (first_keys n l ++ first_keys n m) paths w.0 d (subst (λ (ps : List (List ℕ)). Contains ps w.0) (sym all) w.1) w.2),
)
  where
    all : first_keys n l ++ first_keys n m ≡ all_paths l.layers ++ all_paths m.layers
    all = λ i. all_paths (take_all n l.layers first i) ++ all_paths (take_all n m.layers second i)

-- of another first layer before
module _ (w : Bool) (s : Settings) (m : Layers) where
  abbrev before : Layers
  before = after_first w s m

  there_before : (p : List ℕ) → Differs before m p → Contains (all_paths before.layers ++ all_paths m.layers) p
  there_before p other = elim other [
    | inl locked ↦ absurd (locked refl)
    | inr seen ↦ there before m p seen
  ]

  turned : (p : List ℕ) → Differs m (with_first m s) p → Differs before m p
  turned p other = elim other [
    | inl locked ↦ inl (λ e. locked (sym e))
    | inr seen ↦ inr (λ e. seen (sym e))
  ]

  turned_back : (p : List ℕ) → Differs before m p → Differs m (with_first m s) p
  turned_back p other = elim other [
    | inl locked ↦ inl (λ e. locked (sym e))
    | inr seen ↦ inr (λ e. seen (sym e))
  ]

  is_asked : (p : List ℕ) → Differs m (with_first m s) p → Contains (first_keys 1 m ++ keys s.values) p
  is_asked p other =
      subst (λ (ks : List (List ℕ)). Contains (first_keys 1 m ++ ks) p) (append-nil (keys s.values)) (first_keys_are_enough m (with_first m s) p refl other)

  pub first_tells : (paths : List (List ℕ)) → AreDiffering m (with_first m s) (first_keys 1 m ++ keys s.values) paths → Decides (not (is_empty paths)) (SomeKeyDiffers before m)
  first_tells paths d = (
    λ e. let o = one_of paths e in
        let other = turned o.0 (of_differing m (with_first m s) (first_keys 1 m ++ keys s.values) paths o.0 d o.1).1 in
        (o.0, there_before o.0 other, other),
    λ o. let other = turned_back o.0 o.2 in
        not_empty paths o.0 (is_listed m (with_first m s) (first_keys 1 m ++ keys s.values) paths o.0 d (is_asked o.0 other) other),
  )

positive : (n : ℕ) → (suc n == 0) ≡ false
positive n = by_bool (suc n == 0) ((suc n == 0) ≡ false) (λ yes. let e = (Decides-eqb (suc n) 0).0 yes in absurd (omega (arith, e))) (λ other. other)

-- by the texts that are listed
listed : (items : List (String Global)) (is : Bool) → is ≡ (length items == 0) → not is ≡ not (is_empty (map string_bytes items))
listed [] is e = ap not e
listed (x ∷ xs) is e = ap not (e ∙ positive (length xs))

pub all_listed : (l m : Layers) (n : ℕ) (items : List (String Global)) (is : Bool) → length l.layers ≤ n → length m.layers ≤ n →
    AreDiffering l m (first_keys n l ++ first_keys n m) (map string_bytes items) → is ≡ (length items == 0) → TellsOfKeys (not is) l m
all_listed l m n items is first second d e =
    record { says = Decides-at (not is) (not (is_empty (map string_bytes items))) (listed items is e) (all_tell l m n (map string_bytes items) first second d) }

pub first_listed : (w : Bool) (s : Settings) (m : Layers) (items : List (String Global)) (is : Bool) →
    AreDiffering m (with_first m s) (first_keys 1 m ++ keys s.values) (map string_bytes items) → is ≡ (length items == 0) → TellsOfKeys (not is) (after_first w s m) m
first_listed w s m items is d e =
    record { says = Decides-at (not is) (not (is_empty (map string_bytes items))) (listed items is e) (first_tells w s m (map string_bytes items) d) }

-- ---- the locks

pub same_locks : (same : Bool) (l m : Layers) → have_same same l.layers ≡ true → Decides false (HasOtherLocks (before_in same l m) m)
same_locks same l m has = (
  λ e. absurd (no_truth e),
  λ other. absurd (other (ap locks_in (others_before same l m ∙ ap (λ b. cond b (drop 1 m.layers) (drop 1 l.layers)) has))),
)

pub other_locks : (same : Bool) (l m : Layers) (one two : List (List ℕ)) (is : Bool) → have_same same l.layers ≡ false →
    one ≡ locks_in (drop 1 l.layers) → two ≡ locks_in (drop 1 m.layers) → Decides is (one ≡ two) → Decides (not is) (HasOtherLocks (before_in same l m) m)
other_locks same l m one two is has first second d =
    let before : locks_in (drop 1 (before_in same l m).layers) ≡ one = ap locks_in (others_before same l m ∙ ap (λ b. cond b (drop 1 m.layers) (drop 1 l.layers)) has) ∙ sym first in
    Decides-like (not is) (λ n e. n (sym before ∙ (e ∙ sym second))) (λ n e. n (before ∙ (e ∙ second))) (Decides-not is d)

-- ---- all together

pub changed_is : (same : Bool) (l m : Layers) (fs gs : List DconfdbFileSeen) (is w f k d : Bool) → is ≡ (w || (f || (k || d))) → Decides w (l.writable ≢ m.writable) →
    f ≡ are_other_files fs gs → Decides k (HasOtherLocks (before_in same l m) m) → TellsOfKeys d (before_in same l m) m → TellsOfChange is (before_in same l m) m fs gs
changed_is same l m fs gs is w f k d e dw df dk dd =
    let writer : Decides w ((before_in same l m).writable ≢ m.writable) = subst (λ (b : Bool). Decides w (b ≢ m.writable)) (sym (before_writable same l m)) dw in
    let files : Decides f (are_other_files fs gs ≡ true) = (λ t. sym df ∙ t, λ t. df ∙ t) in
    record { says = Decides-at is (w || (f || (k || d))) e (Decides-or w (f || (k || d)) writer (Decides-or f (k || d) files (Decides-or k d dk dd.says))) }

-- ---- what is told is a change

same_bool_or_not : (a b : Bool) → (a ≡ b) ⊎ (a ≢ b)
same_bool_or_not true true = inl refl
same_bool_or_not false false = inl refl
same_bool_or_not true false = inr (λ e. no_truth (sym e))
same_bool_or_not false true = inr (λ e. no_truth e)

same_locks_or_not : (xs ys : List (List ℕ)) → (xs ≡ ys) ⊎ (xs ≢ ys)
same_locks_or_not xs ys =
    by_bool (pointwise bytes_eq xs ys) ((xs ≡ ys) ⊎ (xs ≢ ys))
    (λ yes. inl ((slice_eq-Decides bytes_eq-Decides xs ys (pointwise bytes_eq xs ys) refl).0 yes))
    (λ none. inr (not_from_Decides (pointwise bytes_eq xs ys) (slice_eq-Decides bytes_eq-Decides xs ys (pointwise bytes_eq xs ys) refl) none))

may_write_by : (l m : Layers) (p : List ℕ) → starts_with_slash p ≡ true → l.writable ≡ m.writable → locks_in (drop 1 l.layers) ≡ locks_in (drop 1 m.layers) → may_write l p ≡ may_write m p
may_write_by l m p slash w locks =
    let covered = locked_is_covered l p slash ∙ (ap (list_any (λ lock. covers lock p)) locks ∙ sym (locked_is_covered m p slash)) in
    λ i. w i && not (covered i)

pub what_is_told_is_a_change : WhatIsToldIsAChange
what_is_told_is_a_change l m fs gs p told = elim told [
  | inl seen ↦ inr (inr (inr (p, there l m p seen, inr seen)))
  | inr may ↦ elim (same_bool_or_not l.writable m.writable) [
    | inr other ↦ inl other
    | inl same ↦ elim (same_locks_or_not (locks_in (drop 1 l.layers)) (locks_in (drop 1 m.layers))) [
      | inr other ↦ inr (inr (inl other))
      | inl locks ↦ absurd (may.1 (may_write_by l m p may.0 same locks))
    ]
  ]
]

-- ---- the same layers

nothing_differs : (l : Layers) (p : List ℕ) → ¬ Differs l l p
nothing_differs l p other = elim other [
  | inl locked ↦ locked refl
  | inr seen ↦ seen refl
]

is_itself : (f : DconfdbFileSeen) → is_other_file f f ≡ false
is_itself f =
    let fault : has_same_fault f f ≡ true =
    both_true (f.code == f.code) (f.errnum == f.errnum && f.line == f.line) (same f.code) (both_true (f.errnum == f.errnum) (f.line == f.line) (same f.errnum) (same f.line)) in
    (λ i. not (fault i) || (f.is_mapped && (not (same f.part i) && (f.device == f.device && f.inode == f.inode)))) ∙ none f.is_mapped
  where
    same : (n : ℕ) → (n == n) ≡ true
    same n = (Decides-eqb n n).1 refl

    none : (b : Bool) → (b && false) ≡ false
    none true = refl
    none false = refl

are_themselves : (fs : List DconfdbFileSeen) → are_other_files fs fs ≡ false
are_themselves [] = refl
are_themselves (f ∷ fs) = (λ i. is_itself f i || are_other_files fs fs) ∙ are_themselves fs

empty_if_none : (paths : List (List ℕ)) → ((p : List ℕ) → ¬ Contains paths p) → paths ≡ []
empty_if_none [] none = refl
empty_if_none (p ∷ ps) none = absurd (none p (found_text p (p ∷ ps) (or_left (bytes_eq p p) (list_any (bytes_eq p) ps) (itself p))))

nothing_remembered : (is : Bool) (l : Layers) (paths : List (List ℕ)) → remembers is l l paths → paths ≡ []
nothing_remembered false l paths e = e
nothing_remembered true l paths d =
    empty_if_none paths (λ p has. nothing_differs (users_alone l) p (of_differing (users_alone l) (users_alone l) (first_keys 1 (users_alone l) ++ first_keys 1 (users_alone l)) paths p d has).1)

pub of_itself_nothing_differs : OfItselfNothingDiffers
of_itself_nothing_differs l fs = record {
  unchanged = λ changed. elim changed [
    | inl other ↦ other refl
    | inr more ↦ elim more [
      | inl files ↦ no_truth (sym (are_themselves fs) ∙ files)
      | inr rest ↦ elim rest [
        | inl locks ↦ locks refl
        | inr key ↦ nothing_differs l key.0 key.2
      ]
    ]
  ];
  forgotten = λ is_noted paths. nothing_remembered (is_to_remember l l is_noted) l paths;
}
