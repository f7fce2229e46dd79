-- Entries of the same names, in the same order, are as many and have the same name at each place.
use Rattle.std.proofs.Common.{◌≡◌, ◌<◌, ◌≤◌, ◌%◌, ◌⊎◌, ℕ, zero, suc, List, sym, ap, ◌∙◌, subst, arith, inl, inr, ⊎_elim}
use Rattle.std.specs.declared.cmp.Ordering.{Ordering}
use Rattle.std.specs.declared.cmp.Ordering.TheVariants.{Less, Greater}
use Rattle.std.specs.Ordering.{nat_cmp, ordering_reverse}
use Rattle.std.specs.Cmp.Lexicographic.{slice_cmp}
use Rattle.std.proofs.lemmas.Bool.{cases_eq, cases_lt}
use Rattle.std.proofs.lemmas.Cmp.{nat_list_cmp_total}
use Rattle.dconf_model.specs.Bytes.{hash_of}
use Rattle.dconf_model.specs.Entries.{Entries}
use Rattle.dconf_model.specs.Plans.{AreNamed}

-- ---- what goes to places of its own is no more than the places

-- as R, and what went to m goes where n went
abbrev Moved : (ℕ → ℕ → Type 0) → ℕ → ℕ → ℕ → ℕ → Type 0
Moved R m n i j = R i j ⊎ (R i m × R n j)

one_moved : (R : ℕ → ℕ → Type 0) (m n : ℕ) → ((i k j : ℕ) → i < suc n → k < suc n → R i j → R k j → i ≡ k) → (i k j : ℕ) → i < n → k < n → Moved R m n i j → Moved R m n k j → i ≡ k
one_moved R m n one i k j li lk (inl a) (inl b) = one i k j (omega (arith, li)) (omega (arith, lk)) a b
one_moved R m n one i k j li lk (inl a) (inr b) = let e = one i n j (omega (arith, li)) (omega arith) a b.1 in absurd (omega (arith, e, li))
one_moved R m n one i k j li lk (inr a) (inl b) = let e = one k n j (omega (arith, lk)) (omega arith) b a.1 in absurd (omega (arith, e, lk))
one_moved R m n one i k j li lk (inr a) (inr b) = one i k m (omega (arith, li)) (omega (arith, lk)) a.0 b.0

moved_to : (R : ℕ → ℕ → Type 0) (m n i : ℕ) → ((R i m) → R n m → ⊥) → (j : ℕ) → j < suc m → R i j → (l : ℕ) → l < suc m → R n l → (k : ℕ) × (k < m) × Moved R m n i k
moved_to R m n i apart j lj a l ll b =
    ⊎_elim
    (λ (e : j ≡ m).
    ⊎_elim (λ (f : l ≡ m). absurd (apart (subst (λ (x : ℕ). R i x) e a) (subst (λ (x : ℕ). R n x) f b)))
    (λ (ne : l ≡ m → ⊥). (l, below l m ll ne, inr (subst (λ (x : ℕ). R i x) e a, b))) (cases_eq l m))
    (λ (ne : j ≡ m → ⊥). (j, below j m lj ne, inl a)) (cases_eq j m)
  where
    below : (x y : ℕ) → x < suc y → (x ≡ y → ⊥) → x < y
    below x y l other = ⊎_elim (λ (s : x < y). s) (λ (ge : y ≤ x). let e : x ≡ y = omega (arith, ge, l) in absurd (other e)) (cases_lt x y)

pub no_more_than_places : (m n : ℕ) (R : ℕ → ℕ → Type 0) → ((i : ℕ) → i < n → (j : ℕ) × (j < m) × R i j) → ((i k j : ℕ) → i < n → k < n → R i j → R k j → i ≡ k) → n ≤ m
no_more_than_places m zero R all one = omega arith
no_more_than_places zero (suc n) R all one = let l = (all 0 (omega arith)).1 in absurd (omega (arith, l))
no_more_than_places (suc m) (suc n) R all one =
    let last = all n (omega arith) in
    let rest = no_more_than_places m n (Moved R m n)
    (λ i l.
    let at = all i (omega (arith, l)) in
    moved_to R m n i (λ a b. let e = one i n m (omega (arith, l)) (omega arith) a b in omega (arith, e, l)) at.0 at.1 at.2 last.0 last.1 last.2)
    (one_moved R m n one) in
    omega (arith, rest)

-- ---- the same names

abbrev pub Once : Entries → Type 0
Once e = (i j : ℕ) → i < e.count → j < e.count → (e.entry i).name ≡ (e.entry j).name → i ≡ j

no_more_names : (P : List ℕ → Type 0) (e f : Entries) → AreNamed P e → AreNamed P f → Once e → e.count ≤ f.count
no_more_names P e f en fn once =
    no_more_than_places f.count e.count (λ i j. (f.entry j).name ≡ (e.entry i).name) (λ i l. fn.all (e.entry i).name (en.each i l)) (λ i k j li lk a b. once i k li lk (sym a ∙ b))

pub as_many : (P : List ℕ → Type 0) (e f : Entries) → AreNamed P e → AreNamed P f → Once e → Once f → e.count ≡ f.count
as_many P e f en fn eo fo = let a = no_more_names P e f en fn eo in let b = no_more_names P f e fn en fo in omega (arith, a, b)

-- ---- in the same order

-- among so many
abbrev ComesBefore : ℕ → List ℕ → List ℕ → Type 0
ComesBefore n x y = (hash_of x % n < hash_of y % n) ⊎ ((hash_of x % n ≡ hash_of y % n) × (slice_cmp nat_cmp x y ≡ Less))

not_both : (n : ℕ) (x y : List ℕ) → ComesBefore n x y → ComesBefore n y x → ⊥
not_both n x y (inl a) (inl b) = omega (arith, a, b)
not_both n x y (inl a) (inr b) = let e = b.0 in omega (arith, a, e)
not_both n x y (inr a) (inl b) = let e = a.0 in omega (arith, e, b)
not_both n x y (inr a) (inr b) =
    let bad : Less ≡ Greater = sym a.1 ∙ (nat_list_cmp_total.antisymm x y ∙ ap (λ (o : Ordering). ordering_reverse o) b.1) in
    cc

-- where the names before it are the same, a name of e is at its place in f or comes after what is there
at_or_after : (P : List ℕ → Type 0) (e f : Entries) → AreNamed P e → AreNamed P f → Once e → e.count ≡ f.count → (i : ℕ) → i < e.count → ((j : ℕ) → j < i → (e.entry j).name ≡ (f.entry j).name) → ((e.entry i).name ≡ (f.entry i).name) ⊎ ComesBefore e.count (f.entry i).name (e.entry i).name
at_or_after P e f en fn once c i here earlier =
    let at = fn.all (e.entry i).name (en.each i here) in
    let within = at.1 in
    ⊎_elim
    (λ (l : at.0 < i). let k = once at.0 i (omega (arith, l, here)) here (earlier at.0 l ∙ at.2) in absurd (omega (arith, k, l)))
    (λ (ge : i ≤ at.0).
    ⊎_elim
    (λ (l : i < at.0). inr (subst (λ (n : ℕ). ComesBefore n (f.entry i).name (e.entry i).name) (sym c) (subst (λ (x : List ℕ). ComesBefore f.count (f.entry i).name x) at.2 (fn.ordered i at.0 l within))))
    (λ (le : at.0 ≤ i). let same : at.0 ≡ i = omega (arith, le, ge) in inl (sym at.2 ∙ ap (λ (k : ℕ). (f.entry k).name) same))
    (cases_lt i at.0))
    (cases_lt at.0 i)

pub same_names : (P : List ℕ → Type 0) (e f : Entries) → AreNamed P e → AreNamed P f → Once e → Once f → e.count ≡ f.count → (bound i : ℕ) → i < bound → i < e.count → (e.entry i).name ≡ (f.entry i).name
same_names P e f en fn eo fo c zero i less here = absurd (omega (arith, less))
same_names P e f en fn eo fo c (suc bound) i less here =
    let earlier : (j : ℕ) → j < i → (e.entry j).name ≡ (f.entry j).name = λ j l. same_names P e f en fn eo fo c bound j (omega (arith, l, less)) (omega (arith, l, here)) in
    ⊎_elim (λ (same : (e.entry i).name ≡ (f.entry i).name). same)
    (λ (a : ComesBefore e.count (f.entry i).name (e.entry i).name).
    ⊎_elim (λ (same : (f.entry i).name ≡ (e.entry i).name). sym same)
    (λ (b : ComesBefore f.count (e.entry i).name (f.entry i).name).
    absurd (not_both e.count (f.entry i).name (e.entry i).name a (subst (λ (n : ℕ). ComesBefore n (e.entry i).name (f.entry i).name) (sym c) b)))
    (at_or_after P f e fn en fo (sym c) i (omega (arith, here, c)) (λ j l. sym (earlier j l))))
    (at_or_after P e f en fn eo c i here earlier)
