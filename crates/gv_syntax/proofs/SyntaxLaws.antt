-- The levels of a syntax tree's parts, and parts in a list.
use Rattle.std.proofs.Common.{◌≡◌, max, List, [], ◌∷◌, ap}
use Rattle.gv_model.specs.Syntax.{Syntax as Value, levels, greatest_levels, pairs_levels}
use Rattle.gv_syntax.specs.SyntaxNodes.{nodes_of, pairs_of}

pub greatest_of_items : (xs ys : List Value) (x : Value) → xs ≡ x ∷ ys → greatest_levels (nodes_of xs) ≡ max (levels x) (greatest_levels (nodes_of ys))
unfolding levels
greatest_of_items xs ys x e = ap (λ zs. greatest_levels (nodes_of zs)) e

pub greatest_of_pairs : (ps qs : List (Value × Value)) (p : Value × Value) → ps ≡ p ∷ qs → pairs_levels (pairs_of ps) ≡ max (max (levels p.0) (levels p.1)) (pairs_levels (pairs_of qs))
unfolding levels
greatest_of_pairs ps qs p e = ap (λ rs. pairs_levels (pairs_of rs)) e

pub none_left : (xs : List Value) → xs ≡ [] → greatest_levels (nodes_of xs) ≡ 0
unfolding levels
none_left xs e = ap (λ ys. greatest_levels (nodes_of ys)) e

pub no_pair_left : (ps : List (Value × Value)) → ps ≡ [] → pairs_levels (pairs_of ps) ≡ 0
unfolding levels
no_pair_left ps e = ap (λ qs. pairs_levels (pairs_of qs)) e
