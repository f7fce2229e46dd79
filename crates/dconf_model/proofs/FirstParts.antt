-- Lists that are cut in two at two places, ends in a slash, and first parts.
use Rattle.std.proofs.Common.{◌≡◌, ◌≢◌, ◌<◌, ◌+◌, ℕ, cond, List, [], ◌∷◌, ◌++◌, length, refl, sym, ap, ◌∙◌, subst, arith, eqb, append_assoc, append-nil, length-append}
use Rattle.std.specs.Prelude.{Contains, All}
use Rattle.std.proofs.lemmas.List.Elements.{All-weaker, All-contains_itself, Contains-append_right}
use Rattle.std.proofs.BufReadLemmas.{take_through-append}
use Rattle.gv_model.proofs.ListLaws.{same_head, same_tail}
use Rattle.dconf_model.specs.Sound.{IsDirectoryPart}
use Rattle.dconf_model.specs.Paths.{first_part}

-- ---- two cuts

-- a list that is prefix and rest is cut into xs and ys there, or after that place, or before it
pub data Cuts (xs ys prefix rest : List ℕ) : Type 0 where
  there : xs ≡ prefix → ys ≡ rest → Cuts xs ys prefix rest
  after : (c : ℕ) (m : List ℕ) → xs ≡ prefix ++ c ∷ m → rest ≡ c ∷ m ++ ys → Cuts xs ys prefix rest
  before : (c : ℕ) (m : List ℕ) → prefix ≡ xs ++ c ∷ m → ys ≡ c ∷ m ++ rest → Cuts xs ys prefix rest

one_more : (x y : ℕ) (xs ys prefix rest : List ℕ) → x ≡ y → Cuts xs ys prefix rest → Cuts (x ∷ xs) ys (y ∷ prefix) rest
one_more x y xs ys prefix rest e (there a b) = there (ap (λ (h : ℕ). h ∷ xs) e ∙ ap (λ (l : List ℕ). y ∷ l) a) b
one_more x y xs ys prefix rest e (after c m a b) = after c m (ap (λ (h : ℕ). h ∷ xs) e ∙ ap (λ (l : List ℕ). y ∷ l) a) b
one_more x y xs ys prefix rest e (before c m a b) = before c m (ap (λ (h : ℕ). h ∷ prefix) (sym e) ∙ ap (λ (l : List ℕ). x ∷ l) a) b

pub cuts : (xs ys prefix rest : List ℕ) → xs ++ ys ≡ prefix ++ rest → Cuts xs ys prefix rest
cuts [] ys [] rest e = there refl e
cuts [] ys (y ∷ prefix) rest e = before y prefix refl e
cuts (x ∷ xs) ys [] rest e = after x xs refl (sym e)
cuts (x ∷ xs) ys (y ∷ prefix) rest e = one_more x y xs ys prefix rest (same_head e) (cuts xs ys prefix rest (same_tail e))

-- ---- ends in a slash

abbrev pub EndsInSlash : List ℕ → Type 0
EndsInSlash name = (prefix : List ℕ) × (name ≡ prefix ++ 47 ∷ [])

-- a list of one element isn't longer
not_longer : (x c d : ℕ) (m l : List ℕ) → x ∷ [] ≡ c ∷ m ++ d ∷ l → ⊥
not_longer x c d m l e =
    let n : 0 ≡ length m + length (d ∷ l) = ap length (same_tail e) ∙ length-append m (d ∷ l) in
    omega (arith, n)

-- what is left after a prefix ends in a slash too
pub rest_ends : (name prefix : List ℕ) (c : ℕ) (m : List ℕ) → EndsInSlash name → name ≡ prefix ++ c ∷ m → EndsInSlash (c ∷ m)
rest_ends name prefix c m ends e = elim (cuts ends.0 (47 ∷ []) prefix (c ∷ m) (sym ends.1 ∙ e)) [
  | there a b ↦ ([], sym b)
  | after d l a b ↦ (d ∷ l, b)
  | before d l a b ↦ absurd (not_longer 47 d c l m b)
]

-- with more before it a list still ends in a slash
pub still_ends : (prefix name : List ℕ) → EndsInSlash name → EndsInSlash (prefix ++ name)
still_ends prefix name ends = (prefix ++ ends.0, ap (λ (l : List ℕ). prefix ++ l) ends.1 ∙ sym (append_assoc prefix ends.0 (47 ∷ [])))

pub some_of_end : (name : List ℕ) → EndsInSlash name → 0 < length name
some_of_end name ends =
    let n : length name ≡ length ends.0 + 1 = ap length ends.1 ∙ length-append ends.0 (47 ∷ []) in
    omega (arith, n)

-- ---- slashes

slash_in : (prefix rest : List ℕ) → Contains (prefix ++ 47 ∷ rest) 47
slash_in prefix rest = Contains-append_right prefix (47 ∷ rest) 47 (0, omega arith, refl)

pub no_slash : (part prefix rest : List ℕ) → ¬ Contains part 47 → part ≡ prefix ++ 47 ∷ rest → ⊥
no_slash part prefix rest plain e = plain (subst (λ (l : List ℕ). Contains l 47) (sym e) (slash_in prefix rest))

-- in a directory's part nothing is after the slash
pub last_slash : (part prefix rest : List ℕ) → IsDirectoryPart part → part ≡ prefix ++ 47 ∷ rest → length rest ≡ 0
last_slash part prefix rest d e = elim (cuts d.name (47 ∷ []) prefix (47 ∷ rest) (sym d.whole ∙ e)) [
  | there a b ↦ sym (ap length (same_tail b))
  | after c m a b ↦ absurd (no_slash d.name prefix m d.plain (a ∙ ap (λ (x : ℕ). prefix ++ x ∷ m) (sym (same_head b))))
  | before c m a b ↦ absurd (not_longer 47 c 47 m rest b)
]

-- ---- first parts

all_plain : (part : List ℕ) → ¬ Contains part 47 → All (λ x. x ≢ 47) part
all_plain part plain =
    All-weaker (Contains part) (λ x. x ≢ 47) (λ x has e. plain (subst (Contains part) e has)) part (All-contains_itself part)

-- without a slash the first part is all
pub plain_first : (part : List ℕ) → ¬ Contains part 47 → first_part part ≡ part
plain_first part plain =
    ap first_part (sym (append-nil part)) ∙ (take_through-append 47 part [] (all_plain part plain) ∙ append-nil part)

-- and a directory's part is first in what goes on after it
pub directory_first : (part rest : List ℕ) → IsDirectoryPart part → first_part (part ++ rest) ≡ part
directory_first part rest d =
    ap (λ (l : List ℕ). first_part (l ++ rest)) d.whole
    ∙ (ap first_part (append_assoc d.name (47 ∷ []) rest)
    ∙ (take_through-append 47 d.name (47 ∷ rest) (all_plain d.name d.plain) ∙ sym d.whole))

slash_first : (prefix rest : List ℕ) → first_part ((prefix ++ 47 ∷ []) ++ rest) ≡ first_part (prefix ++ 47 ∷ [])
slash_first [] rest = refl
slash_first (x ∷ prefix) rest = ap (λ (l : List ℕ). cond (eqb x 47) (x ∷ []) (x ∷ l)) (slash_first prefix rest)

-- what ends in a slash has the first part of all that goes on after it
pub first_of_prefix : (name rest : List ℕ) → EndsInSlash name → first_part (name ++ rest) ≡ first_part name
first_of_prefix name rest ends =
    ap (λ (l : List ℕ). first_part (l ++ rest)) ends.1 ∙ (slash_first ends.0 rest ∙ ap first_part (sym ends.1))
