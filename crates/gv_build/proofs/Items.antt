-- The child that a loop is at, as a part and by its size.
use Rattle.std.proofs.Common.{ℕ, zero, suc, ◌+◌, ◌<◌, ◌≤◌, ◌≡◌, List, [], ◌∷◌, ◌++◌, length, drop, refl, sym, ap, ◌∙◌, arith}
use Rattle.std.proofs.Math.ListN.{get_or}
use Rattle.std.proofs.lemmas.List.{drop_more}
use Rattle.gv_model.specs.Tree.{Tree, Trees, nodes, nodes_of}
use Rattle.gv_model.specs.Tree.Trees.{none, first}
use Rattle.gv_model.specs.Parts.{Part}
use Rattle.gv_model.proofs.RoundTrip.{parts_none, parts_first}
use Rattle.gv_tree.specs.Nodes.{trees_of}
use Rattle.gv_build.specs.Writing.{own_part, parts_of}

item_here : (vs : List Tree) (i : ℕ) (x : Tree) → i < length vs → x ≡ get_or vs i x → drop i vs ≡ x ∷ drop (i + 1) vs
item_here vs i x there is = drop_more vs i x there ∙ ap (λ y. y ∷ drop (i + 1) vs) (sym is)

pub parts_here : (vs : List Tree) (i : ℕ) (x : Tree) → i < length vs → x ≡ get_or vs i x → parts_of (drop i vs) ≡ own_part x ∷ parts_of (drop (i + 1) vs)
parts_here vs i x there is = ap parts_of (item_here vs i x there is) ∙ parts_first x (trees_of (drop (i + 1) vs))

pub parts_here_before : (vs : List Tree) (last : Tree) (i : ℕ) (x : Tree) → i < length vs → x ≡ get_or vs i x → parts_of (drop i vs ++ last ∷ []) ≡ own_part x ∷ parts_of (drop (i + 1) vs ++ last ∷ [])
parts_here_before vs last i x there is = ap (λ us. parts_of (us ++ last ∷ [])) (item_here vs i x there is) ∙ parts_first x (trees_of (drop (i + 1) vs ++ last ∷ []))

all_dropped : (vs : List Tree) (i : ℕ) → length vs ≤ i → drop i vs ≡ []
all_dropped [] zero h = refl
all_dropped [] (suc i) h = refl
all_dropped (v ∷ vs) zero h = absurd (omega arith)
all_dropped (v ∷ vs) (suc i) h = all_dropped vs i (omega arith)

pub none_left : (vs : List Tree) (i : ℕ) → length vs ≤ i → parts_of (drop i vs) ≡ []
none_left vs i h = ap parts_of (all_dropped vs i h) ∙ parts_none

pub last_left : (vs : List Tree) (last : Tree) (i : ℕ) → length vs ≤ i → parts_of (drop i vs ++ last ∷ []) ≡ own_part last ∷ []
last_left vs last i h = ap (λ us. parts_of (us ++ last ∷ [])) (all_dropped vs i h) ∙ (parts_first last none ∙ ap (λ ps. own_part last ∷ ps) parts_none)

-- there is a last part
pub some_left : (vs : List Tree) (last : Tree) → (y : Part) × (ys : List Part) × (parts_of (vs ++ last ∷ []) ≡ y ∷ ys)
some_left [] last = (own_part last, parts_of [], parts_first last none)
some_left (v ∷ vs) last = (own_part v, parts_of (vs ++ last ∷ []), parts_first v (trees_of (vs ++ last ∷ [])))

-- sizes

nodes_none : nodes_of none ≡ 0
unfolding nodes
nodes_none = refl

pub nodes_one : (v : Tree) → nodes_of (first v none) ≡ nodes v
unfolding nodes
nodes_one v = omega arith

nodes_first : (v : Tree) (vs : Trees) → nodes_of (first v vs) ≡ nodes v + nodes_of vs
unfolding nodes
nodes_first v vs = refl

nodes_drop : (vs : List Tree) (i : ℕ) → nodes_of (trees_of (drop i vs)) ≤ nodes_of (trees_of vs)
nodes_drop [] zero = omega arith
nodes_drop [] (suc i) = omega arith
nodes_drop (v ∷ vs) zero = omega arith
nodes_drop (v ∷ vs) (suc i) = omega (arith, nodes_drop vs i, nodes_first v (trees_of vs))

pub item_le : (vs : List Tree) (i : ℕ) (x : Tree) → i < length vs → x ≡ get_or vs i x → nodes x ≤ nodes_of (trees_of vs)
item_le vs i x there is = omega (arith, nodes_drop vs i, ap (λ us. nodes_of (trees_of us)) (item_here vs i x there is), nodes_first x (trees_of (drop (i + 1) vs)))

pub nodes_last : (vs : List Tree) (last : Tree) → nodes_of (trees_of (vs ++ last ∷ [])) ≡ nodes_of (trees_of vs) + nodes last
nodes_last [] last = omega (arith, nodes_one last, nodes_none)
nodes_last (v ∷ vs) last = omega (arith, nodes_first v (trees_of vs), nodes_first v (trees_of (vs ++ last ∷ [])), nodes_last vs last)
