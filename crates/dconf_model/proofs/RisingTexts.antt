-- Texts that rise: each is less than all that come after it. Of the lists with the same texts one rises.
use Rattle.std.specs.Prelude.{◌≡◌, ℕ, Bool, true, List, [], ◌∷◌, ◌++◌, refl, Contains}
use Rattle.std.proofs.Common.{ap, sym, ◌∙◌, subst, inl, inr}
use Rattle.std.specs.List.{filter}
use Rattle.std.specs.Cmp.Lexicographic.{slice_cmp}
use Rattle.std.specs.Ordering.{nat_cmp, is_lt}
use Rattle.std.specs.declared.cmp.Ordering.{Ordering}
use Rattle.std.specs.declared.cmp.Ordering.TheVariants.{Less, Equal, Greater}
use Rattle.std.proofs.lemmas.Cmp.{nat_list_cmp_total, tied_itself}
use Rattle.std.proofs.lemmas.List.Elements.{Contains-append_cases}
use Rattle.dconf_model.specs.Order.{listing, IsRising}
use Rattle.dconf_model.proofs.ParentLaws.{by_bool}
use Rattle.dconf_model.proofs.ListingOrder.{listing_is_once_each}
use Rattle.dconf_model.proofs.Listings.{Texts, has_first, has_later, none_of_none, first_or_later}

abbrev pub IsLess : List ℕ → List ℕ → Type 0
IsLess t u = slice_cmp nat_cmp t u ≡ Less

pub never_less : (t : List ℕ) → IsLess t t → ⊥
never_less t e = let same = tied_itself nat_list_cmp_total t in let both : Less ≡ Equal = sym e ∙ same in cc

pub one_less : (t u : List ℕ) → IsLess t u → IsLess u t → ⊥
one_less t u e f = never_less t (nat_list_cmp_total.trans t u t e f)

abbrev pub Rises : Texts → Type 0
Rises [] = Unit {0}
Rises (t ∷ ts) = ((u : List ℕ) → Contains ts u → IsLess t u) × Rises ts

-- ---- lists that rise

pub less_of : (r : Ordering) → is_lt r ≡ true → r ≡ Less
less_of Less e = refl
less_of Equal e = absurd cc
less_of Greater e = absurd cc

all_rise : (ts : Texts) → IsRising ts → Rises ts
all_rise [] h = tt
all_rise (t ∷ []) h = (λ u k. absurd (none_of_none u k), tt)
all_rise (t ∷ u ∷ more) h =
    let first : IsLess t u = less_of (slice_cmp nat_cmp t u) h.0 in
    let later : Rises (u ∷ more) = all_rise (u ∷ more) h.1 in (
      λ v k. elim (first_or_later u more v k) [
        | inl e ↦ subst (IsLess t) e first
        | inr m ↦ nat_list_cmp_total.trans t u v first (later.0 v m)
      ],
      later,
    )

pub listing_rises : (ts : Texts) → Rises (listing ts)
listing_rises ts = all_rise (listing ts) (listing_is_once_each ts).rising

pub rises_after : (xs ys : Texts) → Rises xs → Rises ys → ((t u : List ℕ) → Contains xs t → Contains ys u → IsLess t u) → Rises (xs ++ ys)
rises_after [] ys h k less = k
rises_after (x ∷ xs) ys h k less = (
  λ u c. elim (Contains-append_cases xs ys u c) [
    | inl a ↦ h.0 u a
    | inr b ↦ less x u (has_first x xs) b
  ],
  rises_after xs ys h.1 k (λ t u a b. less t u (has_later x xs t a) b),
)

-- ---- members that a test keeps

pub kept_is_there : (test : List ℕ → Bool) (ts : Texts) (t : List ℕ) → Contains (filter test ts) t → Contains ts t × (test t ≡ true)
kept_is_there test [] t c = absurd (none_of_none t c)
kept_is_there test (u ∷ ts) t c =
    by_bool (test u) (Contains (u ∷ ts) t × (test t ≡ true))
    (λ yes. elim (first_or_later u (filter test ts) t (rw yes at c)) [
      | inl e ↦ (subst (Contains (u ∷ ts)) e (has_first u ts), sym (ap test e) ∙ yes)
      | inr k ↦ (let r = kept_is_there test ts t k in (has_later u ts t r.0, r.1))
    ])
    (λ other. let r = kept_is_there test ts t (rw other at c) in (has_later u ts t r.0, r.1))

pub there_is_kept : (test : List ℕ → Bool) (ts : Texts) (t : List ℕ) → Contains ts t → test t ≡ true → Contains (filter test ts) t
there_is_kept test [] t c e = absurd (none_of_none t c)
there_is_kept test (u ∷ ts) t c e =
    elim (first_or_later u ts t c) [
      | inl same ↦ (let yes : test u ≡ true = ap test same ∙ e in rw yes (subst (Contains (u ∷ filter test ts)) same (has_first u (filter test ts))))
      | inr k ↦ by_bool (test u) (Contains (filter test (u ∷ ts)) t)
          (λ yes. rw yes (has_later u (filter test ts) t (there_is_kept test ts t k e)))
          (λ other. rw other (there_is_kept test ts t k e))
    ]

pub kept_rise : (test : List ℕ → Bool) (ts : Texts) → Rises ts → Rises (filter test ts)
kept_rise test [] h = tt
kept_rise test (t ∷ ts) h =
    by_bool (test t) (Rises (filter test (t ∷ ts)))
    (λ yes. rw yes ((λ u k. h.0 u (kept_is_there test ts u k).0), kept_rise test ts h.1))
    (λ other. rw other (kept_rise test ts h.1))

-- ---- one list rises

later_there : (x y : List ℕ) (xs ys : Texts) → x ≡ y → ((u : List ℕ) → Contains xs u → IsLess x u) → ((t : List ℕ) → Contains (x ∷ xs) t → Contains (y ∷ ys) t) →
    (t : List ℕ) → Contains xs t → Contains ys t
later_there x y xs ys same less there t c =
    elim (first_or_later y ys t (there t (has_later x xs t c))) [
      | inl e ↦ absurd (never_less x (subst (IsLess x) (sym (same ∙ e)) (less t c)))
      | inr k ↦ k
    ]

first_same : (x y : List ℕ) (xs ys : Texts) → Rises (x ∷ xs) → Rises (y ∷ ys) → Contains (y ∷ ys) x → Contains (x ∷ xs) y → x ≡ y
first_same x y xs ys h k a b =
    elim (first_or_later y ys x a) [
      | inl e ↦ sym e
      | inr later ↦ elim (first_or_later x xs y b) [
        | inl e ↦ e
        | inr other ↦ absurd (one_less x y (h.0 y other) (k.0 x later))
      ]
    ]

pub one_rises : (xs ys : Texts) → Rises xs → Rises ys → ((t : List ℕ) → Contains xs t → Contains ys t) → ((t : List ℕ) → Contains ys t → Contains xs t) → xs ≡ ys
one_rises [] [] h k a b = refl
one_rises [] (y ∷ ys) h k a b = absurd (none_of_none y (b y (has_first y ys)))
one_rises (x ∷ xs) [] h k a b = absurd (none_of_none x (a x (has_first x xs)))
one_rises (x ∷ xs) (y ∷ ys) h k a b =
    let same : x ≡ y = first_same x y xs ys h k (a x (has_first x xs)) (b y (has_first y ys)) in
    let later : xs ≡ ys = one_rises xs ys h.1 k.1 (later_there x y xs ys same h.0 a) (later_there y x ys xs (sym same) k.0 b) in
    ap (λ (t : List ℕ). t ∷ xs) same ∙ ap (λ (ts : Texts). y ∷ ts) later
