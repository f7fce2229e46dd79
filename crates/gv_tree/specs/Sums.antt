-- What the sizes of trees add up to.
use Rattle.std.specs.Prelude.{◌≡◌, ◌≤◌, ◌+◌, ◌-◌, ◌^◌, ℕ, min, max, length, Result, MatchResult}
use Rattle.gv_model.specs.Ty.{Ty, spelling, spellings, nesting, greatest_nesting}
use Rattle.gv_model.specs.Tree.{Tree, Trees, type_of, children, depth, greatest_depth, nodes, nodes_of}
use Rattle.gv_model.specs.Tree.Trees.{none, first}
use Rattle.gv_model.specs.Typed.{types_of, AllOf}
use Rattle.gv_tree.specs.declared.sums.Sums.{Sums}
use Rattle.refused.specs.declared.Refused.TheVariants.{Fault}
use Rattle.gv_tree.specs.declared.fault.TreeFlaw.{TreeFlaw}
use Rattle.gv_tree.specs.Wholes.{IsWhole}
use Rattle.gv_tree.specs.Faults.{IsContentFault}

-- where a sum stops
abbrev pub top : ℕ
top = 2 ^ 64 - 1

abbrev pub AreWhole : Trees → Type 0
AreWhole none = Unit {0}
AreWhole (first v vs) = IsWhole v × AreWhole vs

pub record SumsAre (s : Sums) (vs : Trees) : Type 0 where
  pub levels : s.levels ≡ greatest_depth vs
  pub type_levels : s.type_levels ≡ greatest_nesting (types_of vs)
  pub values : s.values ≡ min (nodes_of vs) top
  pub type_bytes : s.type_bytes ≡ min (length (spellings (types_of vs))) top
  pub whole : AreWhole vs

-- s with the sizes of v
pub record IsWith (s : Sums) (v : Tree) (r : Sums) : Type 0 where
  pub levels : r.levels ≡ max s.levels (depth v)
  pub type_levels : r.type_levels ≡ max s.type_levels (nesting (type_of v))
  pub values : r.values ≡ min (s.values + nodes v) top
  pub type_bytes : r.type_bytes ≡ min (s.type_bytes + length (spelling (type_of v))) top
  pub whole : IsWhole v

-- the sizes of a container within the limits
pub record IsSized (s : Sums) (v : Tree) : Type 0 where
  pub levels : s.levels ≡ depth v
  pub type_levels : s.type_levels ≡ nesting (type_of v)
  pub values : s.values ≡ min (nodes v) top
  pub low : depth v ≤ 128
  pub type_low : nesting (type_of v) ≤ 128
  pub short : length (spelling (type_of v)) ≤ 67108864

-- the sizes of a container whose children are whole values of type t
pub record IsContent (t : Ty) (v : Tree) (s : Sums) : Type 0 where
  pub all : AllOf t (children v)
  pub whole : AreWhole (children v)
  pub sized : IsSized s v

abbrev pub ContentIs : Ty → Tree → Result Sums TreeFlaw → Type 0
ContentIs t v r = MatchResult r (IsContent t v) (λ f. IsContentFault t v (Fault f))
