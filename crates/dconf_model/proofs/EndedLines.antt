-- A text of lines that end in line feeds is these lines.
use Rattle.std.specs.Prelude.{◌≡◌, ℕ, false, ◌==◌, List, [], ◌∷◌, ◌++◌, refl}
use Rattle.std.specs.List.{list_any, slice_split, AllByRecursion}
use Rattle.std.proofs.Common.{sym, ap, ◌∙◌, append_assoc}
use Rattle.std.proofs.lemmas.Bool.{or_parts}
use Rattle.dconf_model.specs.Lines.{lines_of, without_empty_end}

abbrev pub ended : List (List ℕ) → List ℕ
ended [] = []
ended (l ∷ ls) = l ++ 10 ∷ ended ls

abbrev pub HasNoFeed : List ℕ → Type 0
HasNoFeed l = list_any (λ c. c == 10) l ≡ false

pub ended-append : (ls ms : List (List ℕ)) → ended (ls ++ ms) ≡ ended ls ++ ended ms
ended-append [] ms = refl
ended-append (l ∷ ls) ms = ap (λ t. l ++ 10 ∷ t) (ended-append ls ms) ∙ sym (append_assoc l (10 ∷ ended ls) (ended ms))

split_line : (l ys : List ℕ) → HasNoFeed l → slice_split (λ c. c == 10) (l ++ 10 ∷ ys) ≡ l ∷ slice_split (λ c. c == 10) ys
split_line [] ys h = refl
split_line (c ∷ l) ys h =
    let parts = or_parts (c == 10) (list_any (λ c. c == 10) l) h in
    rw (parts.0, split_line l ys parts.1) refl

split_lines : (ls : List (List ℕ)) → AllByRecursion HasNoFeed ls → slice_split (λ c. c == 10) (ended ls) ≡ ls ++ [] ∷ []
split_lines [] h = refl
split_lines (l ∷ ls) h = split_line l (ended ls) h.0 ∙ ap (λ more. l ∷ more) (split_lines ls h.1)

no_empty_end : (ls : List (List ℕ)) → without_empty_end (ls ++ [] ∷ []) ≡ ls
no_empty_end [] = refl
no_empty_end (l ∷ []) = refl
no_empty_end (l ∷ m ∷ ls) = ap (λ more. l ∷ more) (no_empty_end (m ∷ ls))

pub lines_of-ended : (ls : List (List ℕ)) → AllByRecursion HasNoFeed ls → lines_of (ended ls) ≡ ls
lines_of-ended ls h = ap without_empty_end (split_lines ls h) ∙ no_empty_end ls
