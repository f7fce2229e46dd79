-- The value of a container's bytes: a node over the values of its children.
use Rattle.std.proofs.Common.{◌≡◌, ◌<◌, ◌≤◌, ℕ, List, [], ◌∷◌, length, Option, Some, refl, sym, ap, ◌∙◌, arith}
use Rattle.gv_model.specs.Ty.{Ty}
use Rattle.gv_model.specs.Ty.Ty.{maybe}
use Rattle.gv_model.specs.Layout.{fixed_size}
use Rattle.gv_model.specs.Tree.{Tree, Trees, children, trees_len, depth, greatest_depth}
use Rattle.gv_model.specs.Tree.Tree.{number, text, node}
use Rattle.gv_model.specs.Tree.Trees.{first}
use Rattle.gv_model.specs.Children.{Span, children_at, ordered}
use Rattle.gv_model.specs.Decode.{decode, cut, spans}
use Rattle.gv_model.specs.Printed.{holds_double, hold_double}
use Rattle.gv_model.proofs.ChildLaws.{children_count}
use Rattle.gv_model.proofs.ValueBound.{length-ordered, length_just}
use Rattle.gv_model.proofs.NormalLaws.{decode_node}
use Rattle.gv_model.specs.Normal.{IsContainer}

-- ---- a value and its children

pub value_node : (t : Ty) (b : List ℕ) → IsContainer t → decode t b ≡ node t (children (decode t b))
value_node t b h = let e = decode_node t b h in e ∙ ap (λ v. node t (children v)) (sym e)

-- ---- doubles

node_double : (t : Ty) (vs : Trees) → holds_double (node t vs) ≡ hold_double vs
unfolding holds_double
node_double t vs = refl

pub doubles_in : (t : Ty) (b : List ℕ) → IsContainer t → holds_double (decode t b) ≡ hold_double (children (decode t b))
doubles_in t b h = ap holds_double (value_node t b h) ∙ node_double t (children (decode t b))

-- ---- depth

pub deeper : (v : Tree) → greatest_depth (children v) < depth v
unfolding depth
deeper (number k n) = omega arith
deeper (text k s) = omega arith
deeper (node t vs) = omega arith

pub first_deep : (u : Tree) (vs : Trees) → depth u ≤ greatest_depth (first u vs)
unfolding depth
first_deep u vs = omega arith

pub child_deeper : (v u : Tree) (vs : Trees) → children v ≡ first u vs → depth u < depth v
child_deeper v u vs e = omega (arith, first_deep u vs, ap greatest_depth e, deeper v)

-- ---- a maybe has one child or none

few_map : (n : ℕ) (xs : List (Ty × Span)) → length xs ≤ 1 → length (children_at n xs) ≤ 1
few_map n [] h = omega arith
few_map n (x ∷ []) h = omega arith
few_map n (x ∷ y ∷ xs) h = absurd (omega arith)

few_ordered : (e : Option ℕ) (n : ℕ) (xs : List (Ty × Span)) → length xs ≤ 1 → length (children_at n (ordered e xs)) ≤ 1
few_ordered e n xs h = few_map n (ordered e xs) (omega (arith, length-ordered e xs, h))

few_cut : (t : Ty) (b : List ℕ) → length (cut (maybe t) b) ≤ 1
unfolding cut spans
few_cut t b = few_ordered (Some (length b)) (length b) (spans (maybe t) b) (length_just t (length b) (fixed_size t))

pub one_or_none : (t : Ty) (b : List ℕ) → trees_len (children (decode (maybe t) b)) ≤ 1
one_or_none t b = omega (arith, children_count (maybe t) b, few_cut t b)
