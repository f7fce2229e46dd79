-- The longest prefix whose bytes are so, byte by byte.
use Rattle.std.proofs.Common.{ℕ, suc, ◌<◌, ◌≤◌, ◌≡◌, List, length, get_or, drop, refl, ap, ◌∙◌, Bool, true, false, drop-cons}
use Rattle.std.proofs.Math.ListN.{drop_of_length-le}
use Rattle.gv_model.specs.Characters.{prefix_of}

pub prefix_yes : (f : ℕ → Bool) (s : List ℕ) (i : ℕ) → i < length s → f (get_or s i 0) ≡ true → length (prefix_of f (drop i s)) ≡ suc (length (prefix_of f (drop (suc i) s)))
unfolding prefix_of
prefix_yes f s i h e = ap (λ r. length (prefix_of f r)) (drop-cons s i 0 h) ∙ rw e refl

pub prefix_no : (f : ℕ → Bool) (s : List ℕ) (i : ℕ) → i < length s → f (get_or s i 0) ≡ false → length (prefix_of f (drop i s)) ≡ 0
unfolding prefix_of
prefix_no f s i h e = ap (λ r. length (prefix_of f r)) (drop-cons s i 0 h) ∙ rw e refl

pub prefix_end : (f : ℕ → Bool) (s : List ℕ) (i : ℕ) → length s ≤ i → length (prefix_of f (drop i s)) ≡ 0
unfolding prefix_of
prefix_end f s i h = ap (λ r. length (prefix_of f r)) (drop_of_length-le s h)
