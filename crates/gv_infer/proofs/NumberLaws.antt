-- A number is of its type, and is itself.
use Rattle.std.proofs.Common.{ℕ, ◌≡◌, Bool, Option, Some, None, Result, Ok, sym, ap, ◌∙◌}
use Rattle.gv_model.specs.Ty.{Ty, Basic}
use Rattle.gv_model.specs.Ty.Ty.{basic}
use Rattle.gv_model.specs.Ty.Basic.{double}
use Rattle.gv_model.specs.Tree.{Tree, type_of}
use Rattle.gv_model.specs.Tree.Tree.{number}
use Rattle.gv_model.specs.Literals.{ValueFault, integer_at, or_out_of_range}
use Rattle.gv_types.specs.Classes.{class_of, basic_of}
use Rattle.gv_types.specs.declared.class.Class.{Class}
use Rattle.gv_types.specs.declared.class.BasicType.{BasicType}
use Rattle.gv_types.proofs.ClassLaws.{basic_class as basic_of_class}
use Rattle.gv_types.specs.declared.class.Class.TheVariants as classes
use Rattle.gv_infer.specs.Leaves.{leaf_value}

pub record IsNumberTree (k : Basic) (r : Result Tree ValueFault) (v : Tree) : Type 0 where
  pub leaf : leaf_value v ≡ r
  pub typed : type_of v ≡ basic k

same_tree : (u v : Tree) → ◌≡◌ {A = Result Tree ValueFault} (Ok u) (Ok v) → v ≡ u
same_tree u v e = cc

ranged : (k : Basic) (n : Option ℕ) (v : Tree) → or_out_of_range k n ≡ Ok v → IsNumberTree k (or_out_of_range k n) v
ranged k (Some n) v e = let is = same_tree (number k n) v e in record { leaf = ap leaf_value is; typed = ap type_of is }
ranged k None v e = absurd cc

pub number_is : (k : Basic) (negative : Bool) (n : ℕ) (v : Tree) → integer_at k negative n ≡ Ok v → IsNumberTree k (integer_at k negative n) v
number_is double negative n v e = absurd cc
number_is k negative n v e = ranged k _ v e

pub basic_class : (t : Ty) (c : Class) (b : BasicType) → c ≡ class_of t → c ≡ classes.Basic b → t ≡ basic (basic_of b)
basic_class t c b h e = basic_of_class t b (sym e ∙ h)
