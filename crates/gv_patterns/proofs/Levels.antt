-- How deep the parts of syntax are.
use Rattle.std.proofs.Common.{ℕ, zero, suc, ◌+◌, ◌<◌, ◌≤◌, ◌≡◌, max, List, [], ◌∷◌, length, get_or, ap, arith}
use Rattle.gv_model.specs.Ty.{Ty, Basic}
use Rattle.gv_model.specs.Syntax.{Syntax, Syntaxes, Pairs, levels, greatest_levels, pairs_levels}
use Rattle.gv_model.specs.Syntax.Syntax.{list, tuple_of, dictionary, lone, boxed, just, at_type, keyword}
use Rattle.gv_syntax.specs.SyntaxNodes.{nodes_of, pairs_of}

pub list_levels : (xs : Syntaxes) → levels (list xs) ≡ greatest_levels xs + 1
unfolding levels
list_levels xs = omega arith

pub tuple_levels : (xs : Syntaxes) → levels (tuple_of xs) ≡ greatest_levels xs + 1
unfolding levels
tuple_levels xs = omega arith

pub dictionary_levels : (ps : Pairs) → levels (dictionary ps) ≡ pairs_levels ps + 1
unfolding levels
dictionary_levels ps = omega arith

pub lone_levels : (k v : Syntax) → levels (lone k v) ≡ max (levels k) (levels v) + 1
unfolding levels
lone_levels k v = omega arith

pub boxed_levels : (x : Syntax) → levels (boxed x) ≡ levels x + 1
unfolding levels
boxed_levels x = omega arith

pub just_levels : (x : Syntax) → levels (just x) ≡ levels x + 1
unfolding levels
just_levels x = omega arith

pub of_type_levels : (t : Ty) (x : Syntax) → levels (at_type t x) ≡ levels x + 1
unfolding levels
of_type_levels t x = omega arith

pub keyword_levels : (k : Basic) (x : Syntax) → levels (keyword k x) ≡ levels x + 1
unfolding levels
keyword_levels k x = omega arith

-- no item is deeper than the deepest
pub levels_at : (xs : List Syntax) (i : ℕ) (x : Syntax) → i < length xs → x ≡ get_or xs i x → levels x ≤ greatest_levels (nodes_of xs)
unfolding levels
levels_at [] i x lt e = absurd (omega arith)
levels_at (y ∷ xs) zero x lt e = omega (arith, ap levels e)
levels_at (y ∷ xs) (suc i) x lt e = omega (arith, levels_at xs i x (omega arith) e)

pub pair_levels_at : (xs : List (Syntax × Syntax)) (i : ℕ) (p : Syntax × Syntax) → i < length xs → p ≡ get_or xs i p → (levels p.0 ≤ pairs_levels (pairs_of xs)) × (levels p.1 ≤ pairs_levels (pairs_of xs))
unfolding levels
pair_levels_at [] i p lt e = absurd (omega arith)
pair_levels_at (y ∷ xs) zero p lt e = (omega (arith, ap (λ (q : Syntax × Syntax). levels q.0) e), omega (arith, ap (λ (q : Syntax × Syntax). levels q.1) e))
pair_levels_at (y ∷ xs) (suc i) p lt e = let h = pair_levels_at xs i p (omega arith) e in (omega (arith, h.0), omega (arith, h.1))
