-- What both of two paths are, or are in.
use Rattle.std.specs.Prelude.{◌≡◌, ◌⊎◌, ◌≤◌, ◌<◌, ℕ, zero, suc, true, false, List, [], ◌∷◌, ◌++◌, drop, length, take, min, refl}
use Rattle.std.proofs.Common.{◌==◌, ◌+◌, inl, inr, sym, ap, ◌∙◌, subst, arith, eqb-true}
use Rattle.std.proofs.lemmas.Bool.{eqb-false}
use Rattle.dconf_model.proofs.ParentLaws.{by_bool}
use Rattle.dconf_model.specs.Locks.{covers}
use Rattle.dconf_model.specs.Paths.{ends_with_slash}
use Rattle.dconf_changesets.specs.Above.{NoDirectoryIsPassedOver, is_shared, longest_shared}
use Rattle.dconf_changesets.proofs.WordLaws.{below_cut, covers_how}
use Rattle.std.proofs.lemmas.Bool.{and_from}

within : (path other : List ℕ) (n : ℕ) → longest_shared path other n ≤ n
within path other zero = omega arith
within path other (suc n) = by_bool (is_shared path other (suc n)) (longest_shared path other (suc n) ≤ suc n)
    (λ is. rw is (omega arith))
    (λ free. rw free (omega (arith, within path other n)))

last_or_less : (n top : ℕ) → n ≤ suc top → (n ≡ suc top) ⊎ (n ≤ top)
last_or_less n top le = by_bool (n == suc top) ((n ≡ suc top) ⊎ (n ≤ top)) (λ is. inl (eqb-true n (suc top) is)) (λ other. inr (omega (arith, le, eqb-false n (suc top) other)))

none_longer : (path other : List ℕ) (top n : ℕ) → longest_shared path other top < n → n ≤ top → is_shared path other n ≡ false
none_longer path other zero n over le = absurd (omega (arith, over, le))
none_longer path other (suc top) n over le = by_bool (is_shared path other (suc top)) (is_shared path other n ≡ false)
    (λ is. absurd (let past : suc top < n = subst (λ (x : ℕ). x < n) (found is) over in omega (arith, past, le)))
    (λ free. let past : longest_shared path other top < n = subst (λ (x : ℕ). x < n) (passed free) over in
    elim (last_or_less n top le) [
      | inl same ↦ subst (λ (x : ℕ). is_shared path other x ≡ false) (sym same) free
      | inr less ↦ none_longer path other top n past less
    ])
  where
    found : is_shared path other (suc top) ≡ true → longest_shared path other (suc top) ≡ suc top
    found is = rw is refl

    passed : is_shared path other (suc top) ≡ false → longest_shared path other (suc top) ≡ longest_shared path other top
    passed free = rw free refl

-- one step down
pub longest_here : (path other : List ℕ) (n : ℕ) → 0 < n → is_shared path other n ≡ true → longest_shared path other n ≡ n
longest_here path other zero some is = absurd (omega (arith, some))
longest_here path other (suc n) some is = rw is refl

pub longest_down : (path other : List ℕ) (n m : ℕ) → n ≡ m + 1 → is_shared path other n ≡ false → longest_shared path other n ≡ longest_shared path other m
longest_down path other zero m e free = absurd (omega (arith, e))
longest_down path other (suc n) m e free = let same : n ≡ m = omega (arith, e) in rw free (ap (longest_shared path other) same)

take_own : (a rest : List ℕ) → take (length a) (a ++ rest) ≡ a
take_own [] rest = refl
take_own (x ∷ a) rest = ap (λ (l : List ℕ). x ∷ l) (take_own a rest)

all_of : (path other : List ℕ) → covers other path ≡ true → (other ≡ path) ⊎ ((ends_with_slash other ≡ true) × (other ≡ take (length other) path))
all_of path other over = elim (covers_how other path over) [
  | inl same ↦ inl same
  | inr below ↦
      let whole : path ≡ other ++ drop (length other) path = below_cut path other below.1 in
      inr (below.0, sym (ap (take (length other)) whole ∙ take_own other (drop (length other) path)))
]

take_all : (a : List ℕ) → take (length a) a ≡ a
take_all [] = refl
take_all (x ∷ a) = ap (λ (l : List ℕ). x ∷ l) (take_all a)

begins : (path other : List ℕ) → covers other path ≡ true → other ≡ take (length other) path
begins path other over = elim (all_of path other over) [
  | inl same ↦ sym (ap (take (length other)) (sym same) ∙ take_all other)
  | inr below ↦ below.1
]

own_of : (path other : List ℕ) → covers other path ≡ true → (other ≡ take (length other) path) × (is_shared path path (length other) ≡ true)
own_of path other over =
    let first : other ≡ take (length other) path = begins path other over in
    let is : covers (take (length other) path) path ≡ true = subst (λ (x : List ℕ). covers x path ≡ true) first over in
    (first, and_from (covers (take (length other) path) path) (covers (take (length other) path) path) is is)

pub no_directory_is_passed_over : NoDirectoryIsPassedOver
no_directory_is_passed_over path most other = record {
  short = omega (arith, within path other (min (length path) most));
  longest = none_longer path other (min (length path) most);
  all = all_of path other;
  own = own_of path other;
}
