-- A syntax tree is deeper than each of its parts.
use Rattle.std.specs.Prelude.{◌+◌, ◌≤◌, max, List, [], ◌∷◌}
use Rattle.std.proofs.Common.{arith, Vec, Global}
use denote.Param.Weighed.{most}
use Rattle.gv_model.specs.Syntax.{Syntax as Value, levels, greatest_levels, pairs_levels}
use Rattle.gv_syntax.specs.declared.syntax.SyntaxKind.{SyntaxKind}
use Rattle.gv_syntax.specs.declared.syntax.SyntaxKind.TheVariants.{Array, Tuple, Dictionary}
use Rattle.gv_syntax.specs.declared.syntax.SyntaxNode.{SyntaxNode}
use Rattle.gv_syntax.specs.declared.syntax.SyntaxNode.TheDeep.{deep-SyntaxKind}
use Rattle.gv_syntax.specs.declared.syntax.SyntaxNode.TheShapes.{weighed-SyntaxKind-Dictionary-0}
use Rattle.gv_syntax.specs.SyntaxNodes.{nodes_of, pairs_of, syntax_of}

most_le-greatest_levels : (xs : List Value) → most (λ x. levels x + 1) xs ≤ greatest_levels (nodes_of xs) + 1
unfolding levels
most_le-greatest_levels [] = omega arith
most_le-greatest_levels (x ∷ xs) = omega (arith, most_le-greatest_levels xs)

most_le-pairs_levels : (ps : List (Value × Value)) → most (λ p. max (levels p.0 + 1) (max (levels p.1 + 1) 0)) ps ≤ pairs_levels (pairs_of ps) + 1
unfolding levels
most_le-pairs_levels [] = omega arith
most_le-pairs_levels (p ∷ ps) = omega (arith, most_le-pairs_levels ps)

weight_le-pairs_levels : (ps : Vec (Value × Value) Global) → (weighed-SyntaxKind-Dictionary-0).weight SyntaxNode (λ y. levels y + 1) ps ≤ pairs_levels (pairs_of ps.items) + 1
weight_le-pairs_levels ps = most_le-pairs_levels ps.items

pub deep-le_levels : (n : SyntaxKind) → max (deep-SyntaxKind n) 0 ≤ levels (syntax_of n)
unfolding levels
deep-le_levels (Array xs) = omega (arith, most_le-greatest_levels xs.items)
deep-le_levels (Tuple xs) = omega (arith, most_le-greatest_levels xs.items)
deep-le_levels (Dictionary ps) = omega (arith, weight_le-pairs_levels ps)
deep-le_levels _ = omega arith
