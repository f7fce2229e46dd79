-- What calls of `next` gave, at an iterator that shows the numbers that are left.
use Rattle.std.proofs.Common.{ℕ, Bool, true, false, List, [], ◌∷◌, ◌++◌, Option, Some, None, ◌≡◌, ◌↔◌, IsTrue, refl, sym, ◌∙◌, ap}
use Rattle.std.specs.Prelude.{MatchOption, IfSome}
use Rattle.std.specs.List.{AllZip}
use Rattle.std.specs.Iterator.{YieldsFirst, Yields, ComparesItemsByEq}
use Rattle.std.proofs.lemmas.List.{append_cancel_left}

-- the numbers that came are the first of those that were left
gone : {S : Type 0} (rest : S → List ℕ) (xs : List ℕ) (s t : S) → Yields (YieldsFirst rest) s xs t → rest s ≡ xs ++ rest t
gone rest [] s t y = ap rest y
gone rest (x ∷ xs) s t y = y.1 ∙ ap (λ (l : List ℕ). x ∷ l) (gone rest xs y.0 t y.2)

same_numbers : (eq : ℕ → ℕ → Bool) → ((x y : ℕ) → eq x y ≡ true → x ≡ y) → (xs ys : List ℕ) → AllZip (λ x y. eq x y ≡ true) xs ys → xs ≡ ys
same_numbers eq tells [] [] zip = refl
same_numbers eq tells [] (y ∷ ys) zip = absurd zip
same_numbers eq tells (x ∷ xs) [] zip = absurd zip
same_numbers eq tells (x ∷ xs) (y ∷ ys) zip =
    let first : x ≡ y = tells x y zip.0 in
    let others : xs ≡ ys = same_numbers eq tells xs ys zip.1 in
    cc

-- what is left decides, by its first number
decided : (eq : ℕ → ℕ → Bool) → ((x : ℕ) → eq x x ≡ true) → (o p : Option ℕ) (b : Bool) (l m k n : List ℕ) → MatchOption o ((l ≡ []) × (k ≡ [])) (λ x. l ≡ x ∷ k)
    → MatchOption p ((m ≡ []) × (n ≡ [])) (λ y. m ≡ y ∷ n) → MatchOption o (MatchOption p (b ≡ true) (λ _. b ≡ false))
    (λ x. (b ≡ false) × IfSome p (λ y. eq x y ≡ false)) → IsTrue b ↔ (l ≡ m)
decided eq same None None b l m k n one other last = (λ h. one.0 ∙ sym other.0, λ e. last)
decided eq same None (Some y) b l m k n one other last =
    (λ h. let no : b ≡ false = last in let yes : b ≡ true = h in cc, λ e. let empty : l ≡ [] = one.0 in let some : m ≡ y ∷ n = other in cc)
decided eq same (Some x) None b l m k n one other last =
    (λ h. let no : b ≡ false = last.0 in let yes : b ≡ true = h in cc, λ e. let some : l ≡ x ∷ k = one in let empty : m ≡ [] = other.0 in cc)
decided eq same (Some x) (Some y) b l m k n one other last = (
  λ h. let no : b ≡ false = last.0 in let yes : b ≡ true = h in cc,
  λ e. let first : l ≡ x ∷ k = one in let second : m ≡ y ∷ n = other in let alike : x ≡ y = cc in
      let differ : eq x y ≡ false = last.1 in let agree : eq x x ≡ true = same x in cc,
)

-- two such iterators compare equal exactly where the same numbers are left
pub compares_lists : {S U : Type 0} (rest : S → List ℕ) (becomes : U → S → Type 0) (eq : ℕ → ℕ → Bool) (s : S) (other : U) (others : List ℕ) (b : Bool)
    → ((x y : ℕ) → eq x y ≡ true → x ≡ y) → ((x : ℕ) → eq x x ≡ true) → ((it : S) → becomes other it → rest it ≡ others)
    → ComparesItemsByEq (YieldsFirst rest) becomes (YieldsFirst rest) s other eq b → IsTrue b ↔ (rest s ≡ others)
compares_lists rest becomes eq s other others b tells same is run =
    let ours = gone rest run.1 s run.8.0 run.8.1 in
    let theirs = gone rest run.2 run.0 run.9.0 run.9.1 in
    let they = is run.0 run.7 in
    let prefixes = same_numbers eq tells run.1 run.2 run.10 in
    let end = decided eq same run.3 run.4 b (rest run.8.0) (rest run.9.0) (rest run.5) (rest run.6) run.8.2 run.9.2 run.11 in
    let whole : run.2 ++ rest run.9.0 ≡ others = sym theirs ∙ they in
    let left : rest s ≡ run.2 ++ rest run.8.0 = ours ∙ ap (λ (l : List ℕ). l ++ rest run.8.0) prefixes in (
      λ h. left ∙ (ap (λ (l : List ℕ). run.2 ++ l) (end.0 h) ∙ whole),
      λ e. end.1 (append_cancel_left run.2 (rest run.8.0) (rest run.9.0) (sym left ∙ (e ∙ sym whole))),
    )
