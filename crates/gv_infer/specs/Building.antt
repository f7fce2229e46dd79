-- What building a value gives: the tree, nothing where that is too deep, or the first fault.
use Rattle.std.specs.Prelude.{◌≡◌, ◌<◌, ◌≤◌, Option, Some, None, Result, Ok, Err}
use Rattle.gv_model.specs.Ty.{Ty}
pub use Rattle.gv_model.specs.TypeText.{IsWithinLimits}
use Rattle.gv_model.specs.Tree.{Tree, type_of, depth}
use Rattle.gv_model.specs.Ty.Ty.{basic, entry}
use Rattle.gv_model.specs.Tree.Tree.{node}
use Rattle.gv_model.specs.Tree.Trees.{none, first}
use Rattle.gv_model.specs.Literals.{ValueFault as TheFault}
use Rattle.refused.specs.declared.Refused.{Refused}
use Rattle.refused.specs.declared.Refused.TheVariants.{Fault}
use Rattle.refused.specs.Faults.{OfFault}
use Rattle.gv_tree.specs.declared.fault.TreeFlaw.{TreeFlaw}
use Rattle.gv_tree.specs.declared.fault.TreeFlaw.TheVariants.{TooDeep}
use Rattle.gv_infer.specs.ValueFaults.{FaultIs}
use Rattle.gv_infer.specs.declared.fault.ValueFlaw.{ValueFlaw}

-- the tree, or None for one of over 128 levels
abbrev pub BuildsTo : Option Tree → Tree → Type 0
BuildsTo (Some t) v = (v ≡ t) × (depth t ≤ 128)
BuildsTo None v = 128 < depth v

abbrev pub IsBuilt : Result Tree TheFault → Result (Option Tree) (Refused ValueFlaw) → Type 0
IsBuilt v (Ok built) = (t : Tree) × (v ≡ Ok t) × BuildsTo built t
IsBuilt v (Err e) = FaultIs (λ f. v ≡ Err f) e

-- the faults of a container of a type within the limits
abbrev pub IsContainerFault : Refused TreeFlaw → Type 0
IsContainerFault fault = OfFault (λ f. f ≡ TooDeep) fault

-- what a constructor of trees gave for this tree
abbrev pub IsConstructed : Tree → Result Tree (Refused TreeFlaw) → Type 0
IsConstructed v (Ok t) = (v ≡ t) × (depth t ≤ 128)
IsConstructed v (Err (Fault TooDeep)) = 128 < depth v
IsConstructed v (Err _) = Unit {0}

-- a tree that is built has the type
abbrev pub IsNoneOrOfType : Ty → Option Tree → Type 0
IsNoneOrOfType t (Some v) = type_of v ≡ t
IsNoneOrOfType t None = Unit {0}

abbrev pub IsOfType : Ty → Result (Option Tree) (Refused ValueFlaw) → Type 0
IsOfType t (Ok built) = IsNoneOrOfType t built
IsOfType t (Err e) = Unit {0}

-- the types of a key and a value that are built
abbrev pub AreEntryParts : Ty → Option Tree → Option Tree → Type 0
AreEntryParts (entry k t) key value = IsNoneOrOfType (basic k) key × IsNoneOrOfType t value
AreEntryParts _ key value = ⊥

-- an entry of these two
abbrev pub entry_node : Ty → Tree → Tree → Tree
entry_node t key value = node t (first key (first value none))

abbrev pub IsConstructedOf : Ty → Result Tree (Refused TreeFlaw) → Type 0
IsConstructedOf t (Ok v) = type_of v ≡ t
IsConstructedOf t (Err e) = Unit {0}
