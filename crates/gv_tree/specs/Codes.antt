-- Types and trees as trees of numbers, by which a proof tells them apart. Nothing here is to be believed: that they are told apart is proved.
use Rattle.std.specs.Prelude.{◌≡◌, ℕ, zero, suc, refl}
use Rattle.std.specs.Coded.{Coded, code_by}
use Rattle.std.proofs.Common.{ap, ap₂}
use base.Stored.{Gv, gnil, gnum, gcons, num}
use Rattle.gv_model.specs.Ty.{Ty, spelling, letter as letter_of}
use Rattle.gv_model.specs.Ty.Basic.{boolean}
use Rattle.gv_model.specs.Tree.{Tree, Trees}
use Rattle.gv_model.specs.Tree.Tree.{number, text, node}
use Rattle.gv_model.specs.Tree.Trees.{none, first}
use Rattle.gv_model.specs.Codes.{numbers_code, numbers_of_code, type_of_numbers, basic_of_code, coded_gv}
use Rattle.gv_model.proofs.CodeLaws.{numbers_back, basic_back, type_back}

abbrev mutual
  tree_gv : Tree → Gv
  tree_gv (number k n) = gcons (gnum 0) (gcons (gnum (letter_of k)) (gnum n))
  tree_gv (text k s) = gcons (gnum 1) (gcons (gnum (letter_of k)) (numbers_code s))
  tree_gv (node t vs) = gcons (gnum 2) (gcons (numbers_code (spelling t)) (trees_gv vs))

  trees_gv : Trees → Gv
  trees_gv none = gnil
  trees_gv (first v vs) = gcons (tree_gv v) (trees_gv vs)

abbrev tagged : ℕ → Gv → Gv → Trees → Tree
tagged zero k c vs = number (basic_of_code k) (num c)
tagged (suc zero) k c vs = text (basic_of_code k) (numbers_of_code c)
tagged (suc (suc i)) k c vs = node (type_of_numbers (numbers_of_code k)) vs

abbrev mutual
  gv_tree : Gv → Tree
  gv_tree (gcons a (gcons k c)) = tagged (num a) k c (gv_trees c)
  gv_tree _ = number boolean 0

  gv_trees : Gv → Trees
  gv_trees (gcons v vs) = first (gv_tree v) (gv_trees vs)
  gv_trees _ = none

mutual
  pub tree_back : (v : Tree) → gv_tree (tree_gv v) ≡ v
  tree_back (number k n) = ap (λ j. number j n) (basic_back k)
  tree_back (text k s) = ap₂ text (basic_back k) (numbers_back s)
  tree_back (node t vs) = ap₂ node (type_back t) (trees_back vs)

  pub trees_back : (vs : Trees) → gv_trees (trees_gv vs) ≡ vs
  trees_back none = refl
  trees_back (first v vs) = ap₂ first (tree_back v) (trees_back vs)

abbrev pub coded_type : Coded Ty
coded_type = code_by Gv coded_gv (λ t. numbers_code (spelling t)) (λ g. type_of_numbers (numbers_of_code g)) type_back

abbrev pub coded_tree : Coded Tree
coded_tree = code_by Gv coded_gv tree_gv gv_tree tree_back
