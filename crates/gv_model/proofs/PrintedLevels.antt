-- A printed value's syntax is at most one level deeper than the value.
use Rattle.std.proofs.Common.{◌≡◌, ◌≤◌, ℕ, suc, Bool, true, false, cond, List, Option, Some, None, refl, arith}
use Rattle.std.specs.Prelude.{◌==◌, ◌&&◌, max, ℤ, pos, negsuc}
use Rattle.gv_model.specs.Ty.{Ty, Basic}
use Rattle.gv_model.specs.Ty.Ty.{basic, variant, array, maybe, tuple, entry}
use Rattle.gv_model.specs.Ty.Basic.{boolean, byte, int16, int32, int64, handle, double, string}
use Rattle.gv_model.specs.Tree.{Tree, Trees, depth, greatest_depth}
use Rattle.gv_model.specs.Tree.Tree.{number, text, node}
use Rattle.gv_model.specs.Tree.Trees.{none as no_tree, first as first_tree}
use Rattle.gv_model.specs.BasicValue.{text_in}
use Rattle.gv_model.specs.Printed.{numbers, is_empty, ends_in_nothing}
use Rattle.gv_model.specs.Syntax.{Syntax, Syntaxes, levels, greatest_levels, pairs_levels}
use Rattle.gv_model.specs.Syntax.Syntax.{truth, quoted, lone, nothing, at_type}
use Rattle.gv_model.specs.Syntax.Syntaxes.{none, first}
use Rattle.gv_model.proofs.PrintedSyntax.{marked, with_word, signed_syntax, figures_syntax, pairs_from, bytes_or_list, list_syntax, head_of, with_just, entry_syntax, syntax_of, syntaxes_of}

marked_levels : (a : Bool) (f : Syntax → Syntax) (x : Syntax) (n : ℕ) → levels x ≤ n → levels (f x) ≤ suc n → levels (marked a f x) ≤ suc n
marked_levels true f x n h g = g
marked_levels false f x n h g = omega (arith, h)

word_levels : (k : Basic) (x : Syntax) → levels x ≤ 1 → levels (with_word k x) ≤ 2
unfolding levels
word_levels boolean x h = omega (arith, h)
word_levels int32 x h = omega (arith, h)
word_levels double x h = omega (arith, h)
word_levels string x h = omega (arith, h)
word_levels _ x h = omega (arith, h)

signed_levels : (z : ℤ) → levels (signed_syntax z) ≤ 1
unfolding levels
signed_levels (pos n) = omega arith
signed_levels (negsuc n) = omega arith

truth_levels : (b : Bool) → levels (cond b (truth false) (truth true)) ≤ 1
unfolding levels
truth_levels true = omega arith
truth_levels false = omega arith

figures_levels : (k : Basic) (n : ℕ) → levels (figures_syntax k n) ≤ 1
unfolding levels
figures_levels boolean n = truth_levels (n == 0)
figures_levels int16 n = signed_levels _
figures_levels int32 n = signed_levels _
figures_levels handle n = signed_levels _
figures_levels int64 n = signed_levels _
figures_levels double n = omega arith
figures_levels _ n = omega arith

pairs_below : (xs : Syntaxes) → pairs_levels (pairs_from xs) ≤ greatest_levels xs
unfolding levels
pairs_below none = omega arith
pairs_below (first (lone k v) xs) = omega (arith, pairs_below xs)
pairs_below (first _ xs) = omega (arith, pairs_below xs)

bytes_levels : (o : Option (List ℕ)) (xs : Syntaxes) → levels (bytes_or_list o xs) ≤ suc (greatest_levels xs)
unfolding levels
bytes_levels None xs = omega arith
bytes_levels (Some s) xs = omega arith

list_levels : (t : Ty) (vs : Trees) (xs : Syntaxes) → levels (list_syntax t vs xs) ≤ suc (greatest_levels xs)
unfolding levels
list_levels (entry k t) vs xs = omega (arith, pairs_below xs)
list_levels (basic byte) vs xs = bytes_levels (text_in (numbers vs)) xs
list_levels _ vs xs = omega arith

head_levels : (xs : Syntaxes) → levels (head_of xs) ≤ max 1 (greatest_levels xs)
unfolding levels
head_levels none = omega arith
head_levels (first x xs) = omega arith

entry_levels : (xs : Syntaxes) → levels (entry_syntax xs) ≤ suc (greatest_levels xs)
unfolding levels
entry_levels (first k (first v none)) = omega arith
entry_levels _ = omega arith

-- `just` stands only before what ends in `nothing`, which has a level for each maybe
chain_levels : (v : Tree) → ends_in_nothing v ≡ true → levels (syntax_of v false) ≤ depth v
unfolding levels depth syntax_of
chain_levels (number k n) e = absurd (cc)
chain_levels (text k s) e = absurd (cc)
chain_levels (node (maybe t) no_tree) e = omega arith
chain_levels (node (maybe t) (first_tree v vs)) e = simp e (omega (arith, chain_levels v e))
chain_levels (node _ vs) e = absurd (cc)

just_levels : (v : Tree) (b : Bool) → ends_in_nothing v ≡ b → levels (syntax_of v false) ≤ suc (depth v) → levels (with_just b (syntax_of v false)) ≤ suc (depth v)
unfolding levels
just_levels v true e h = omega (arith, chain_levels v e)
just_levels v false e h = h

-- an array that isn't empty has no mark
array_levels : (a : Bool) (t : Ty) (vs : Trees) (n : ℕ) → greatest_levels (syntaxes_of vs a false) ≤ suc n → n ≡ greatest_depth vs → levels (marked (a && is_empty vs) (at_type (array t)) (list_syntax t vs (syntaxes_of vs a false))) ≤ suc (suc n)
unfolding levels syntax_of depth
array_levels true t no_tree n h e = omega (arith, list_levels t no_tree none)
array_levels true t (first_tree v vs) n h e = omega (arith, list_levels t (first_tree v vs) (syntaxes_of (first_tree v vs) true false), h)
array_levels false t vs n h e = omega (arith, list_levels t vs (syntaxes_of vs false false), h)

mutual
  unfolding levels depth syntax_of

  pub levels_of : (v : Tree) (a : Bool) → levels (syntax_of v a) ≤ suc (depth v)
  levels_of (number k n) a = marked_levels a (with_word k) (figures_syntax k n) 1 (figures_levels k n) (word_levels k (figures_syntax k n) (figures_levels k n))
  levels_of (text k s) a = marked_levels a (with_word k) (quoted s) 1 (omega arith) (word_levels k (quoted s) (omega arith))
  levels_of (node (basic k) vs) a = omega arith
  levels_of (node variant vs) a = omega (arith, head_levels (syntaxes_of vs true true), levels_each vs true true)
  levels_of (node (array t) vs) a = array_levels a t vs (greatest_depth vs) (levels_each vs a false) refl
  levels_of (node (maybe t) no_tree) a = marked_levels a (at_type (maybe t)) nothing 1 (omega arith) (omega arith)
  levels_of (node (maybe t) (first_tree v vs)) a =
      let inner : levels (with_just (ends_in_nothing v) (syntax_of v false)) ≤ suc (depth v) = just_levels v (ends_in_nothing v) refl (levels_of v false) in
      marked_levels a (at_type (maybe t)) _ (suc (max (depth v) (greatest_depth vs))) (omega (arith, inner)) (omega (arith, inner))
  levels_of (node (tuple ts) vs) a = omega (arith, levels_each vs a a)
  levels_of (node (entry k t) vs) a = omega (arith, entry_levels (syntaxes_of vs a a), levels_each vs a a)

  levels_each : (vs : Trees) (a r : Bool) → greatest_levels (syntaxes_of vs a r) ≤ suc (greatest_depth vs)
  levels_each no_tree a r = omega arith
  levels_each (first_tree v vs) a r = omega (arith, levels_of v a, levels_each vs r r)
