-- Which trees are values of which types.
-- GVariant Specification, "The GVariant Type System".
use Rattle.std.specs.Prelude.{ℕ, ◌≡◌, ◌<◌, ◌^◌, List, None, true, MatchOption}
use Rattle.std.specs.List.{AllByRecursion}
use Rattle.gv_model.specs.Ty.{Ty, Basic, Types, spelling, members}
use Rattle.gv_model.specs.Ty.Ty.{basic, variant, array, maybe, tuple, entry}
use Rattle.gv_model.specs.Ty.Types.{end, member}
use Rattle.gv_model.specs.Ty.Basic.{boolean}
use Rattle.gv_model.specs.TypeText.{is_within_limits}
use Rattle.gv_model.specs.Layout.{basic_size}
use Rattle.gv_model.specs.Tree.{Tree, Trees, type_of}
use Rattle.gv_model.specs.Tree.Tree.{number, text, node}
use Rattle.gv_model.specs.Tree.Trees.{none, first}
use Rattle.gv_model.specs.Texts.{is_text}

-- the bits of a value of a basic type
abbrev pub IsNumber : Basic → ℕ → Type 0
IsNumber boolean n = n < 2
IsNumber k n = MatchOption (basic_size k) ⊥ (λ size. n < 256 ^ size)

-- a text that the type allows, which has no zero byte
pub record IsTextOf (k : Basic) (s : List ℕ) : Type 0 where
  pub no_number : basic_size k ≡ None
  pub no_zero : AllByRecursion (λ c. 0 < c) s
  pub allowed : is_text k s ≡ true

-- the types of trees, in order
abbrev pub types_of : Trees → Types
types_of none = end
types_of (first v vs) = member (type_of v) (types_of vs)

abbrev pub AllOf : Ty → Trees → Type 0
AllOf t none = Unit {0}
AllOf t (first v vs) = (type_of v ≡ t) × AllOf t vs

-- the children that a container of a type may have
abbrev pub MayHold : Ty → Trees → Type 0
MayHold (basic k) vs = ⊥
MayHold variant none = ⊥
MayHold variant (first v none) = is_within_limits (type_of v) (spelling (type_of v)) ≡ true
MayHold variant (first v (first u vs)) = ⊥
MayHold (array t) vs = AllOf t vs
MayHold (maybe t) none = Unit {0}
MayHold (maybe t) (first v none) = type_of v ≡ t
MayHold (maybe t) (first v (first u vs)) = ⊥
MayHold (tuple ts) vs = types_of vs ≡ ts
MayHold (entry k t) vs = types_of vs ≡ members (entry k t)

-- a tree is a value of its type
abbrev mutual
  pub IsValue : Tree → Type 0
  IsValue (number k n) = IsNumber k n
  IsValue (text k s) = IsTextOf k s
  IsValue (node t vs) = MayHold t vs × AreValues vs

  pub AreValues : Trees → Type 0
  AreValues none = Unit {0}
  AreValues (first v vs) = IsValue v × AreValues vs

pub record HasType (v : Tree) (t : Ty) : Type 0 where
  pub type : type_of v ≡ t
  pub value : IsValue v
