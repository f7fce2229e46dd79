-- Lists of one length whose first elements are the same, and their last, and these are all.
use Rattle.std.proofs.Common.{◌≡◌, ℕ, ◌+◌, ◌-◌, ◌≤◌, List, ◌++◌, length, take, drop, take-append-drop, drop-drop, sym, ap, ap₂, ◌∙◌, arith}

-- what is behind the first ones is the end of the last ones
behind : {A : Type 0} (n : ℕ) (xs : List A) → n ≤ length xs → length xs ≤ n + n → drop n xs ≡ drop (n + n - length xs) (drop (length xs - n) xs)
behind n xs enough few =
    let place : length xs - n + (n + n - length xs) ≡ n = omega (arith, enough, few) in
    sym (drop-drop (n + n - length xs) (length xs - n) xs ∙ ap (λ k. drop k xs) place)

pub same_ends : {A : Type 0} (n : ℕ) (xs ys : List A) → length xs ≡ length ys → n ≤ length xs → length xs ≤ n + n →
    take n xs ≡ take n ys → drop (length xs - n) xs ≡ drop (length ys - n) ys → xs ≡ ys
same_ends n xs ys e enough few start end =
    let y = behind n ys (omega (arith, e, enough)) (omega (arith, e, few)) in
    let rest : drop n xs ≡ drop n ys = behind n xs enough few ∙ (ap₂ (λ m (l : List _). drop (n + n - m) l) e end ∙ sym y) in
    sym (take-append-drop n xs) ∙ (ap₂ ◌++◌ start rest ∙ take-append-drop n ys)
