-- The trees that children stand for.
use Rattle.std.specs.Prelude.{◌≡◌, ◌<◌, List, Bool, true, false, Option, Some, None, Result, Ok, Err}
use Rattle.std.specs.Global.{Vec}
use Rattle.gv_model.specs.Tree.{Tree, Trees, greatest_depth}
use Rattle.gv_model.specs.Tree.Trees.{none, first}
use Rattle.gv_model.specs.Ty.{Ty}
use Rattle.gv_model.specs.Ty.Ty.{tuple}
use Rattle.gv_model.specs.Typed.{AllOf, types_of}
use Rattle.gv_model.specs.Literals.{ValueFault as TheFault}
use Rattle.gv_model.specs.TextValues.{with_first}
use Rattle.gv_tree.specs.Nodes.{trees_of}
use Rattle.refused.specs.declared.Refused.{Refused}
use Rattle.gv_infer.specs.ValueFaults.{FaultIs}
use Rattle.gv_infer.specs.declared.fault.ValueFlaw.{ValueFlaw}
use Rattle.gv_infer.specs.declared.children.BuiltTrees.{BuiltTrees}

-- these trees, unless one of them is too deep
abbrev pub AreKeptIf : Bool → List Tree → Trees → Type 0
AreKeptIf true held vs = vs ≡ trees_of held
AreKeptIf false held vs = 128 < greatest_depth vs

abbrev pub IsBuiltFrom : BuiltTrees → Trees → Type 0
IsBuiltFrom c vs = AreKeptIf c.shallow c.trees.items vs

abbrev pub AllBuildTo : Option (Vec Tree) → Trees → Type 0
AllBuildTo (Some trees) vs = vs ≡ trees_of trees.items
AllBuildTo None vs = 128 < greatest_depth vs

abbrev pub with_last : Trees → Tree → Trees
with_last none v = first v none
with_last (first u vs) v = first u (with_last vs v)

-- trees before others, unless one of those has a fault
abbrev pub all_before : Trees → Result Trees TheFault → Result Trees TheFault
all_before none rest = rest
all_before (first v vs) rest = with_first (Ok v) (all_before vs rest)

abbrev pub AllOfType : Ty → Option (Vec Tree) → Type 0
AllOfType t (Some trees) = AllOf t (trees_of trees.items)
AllOfType t None = Unit {0}

-- trees of these types
abbrev pub IsTupleTypeOf : Ty → Option (Vec Tree) → Type 0
IsTupleTypeOf t (Some trees) = t ≡ tuple (types_of (trees_of trees.items))
IsTupleTypeOf t None = Unit {0}

-- what building children gives, of which none has a fault
abbrev pub AreBuilt : Result Trees TheFault → Result (Option (Vec Tree)) (Refused ValueFlaw) → Type 0
AreBuilt vs (Ok built) = (us : Trees) × (vs ≡ Ok us) × AllBuildTo built us
AreBuilt vs (Err e) = FaultIs (λ f. vs ≡ Err f) e

-- a prefix of the children is held, and the others are to come
pub record IsBuiltSoFar (whole rest : Result Trees TheFault) (c : BuiltTrees) : Type 0 where
  pub prefix : Trees
  pub held : IsBuiltFrom c prefix
  pub more : whole ≡ all_before prefix rest
