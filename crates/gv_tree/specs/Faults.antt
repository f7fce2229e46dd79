-- Why a tree is not made.
use Rattle.std.specs.Prelude.{◌≡◌, ◌≢◌, ◌≤◌, ◌<◌, ◌⊎◌, ℕ, zero, suc, List, length, Bool, true, false, Option, Some, None}
use Rattle.gv_model.specs.Ty.{Ty, Basic, spelling, nesting}
use Rattle.gv_model.specs.Ty.Basic.{path, signature}
use Rattle.gv_model.specs.Texts.{is_object_path, is_signature, has_zero_byte}
use Rattle.gv_model.specs.Tree.{Tree, Trees, type_of, children, depth}
use Rattle.gv_model.specs.Tree.Tree.{text}
use Rattle.gv_model.specs.Tree.Trees.{none, first}
use Rattle.gv_model.specs.Typed.{AllOf}
use Rattle.refused.specs.declared.Refused.{Refused}
use Rattle.refused.specs.declared.Refused.TheVariants.{Fault}
use Rattle.refused.specs.Faults.{OfFault}
use Rattle.gv_tree.specs.declared.fault.TreeFlaw.{TreeFlaw}
use Rattle.gv_tree.specs.declared.fault.TreeFlaw.TheVariants.{HasNul, BadObjectPath, BadSignature, WrongType, KeyNotBasic, TooDeep, TooLarge}
pub use Rattle.gv_model.specs.Texts.{has_zero_byte as has_zero}

-- a text without a zero byte that isn't allowed at its type
pub record IsBadText (is : Basic) (good : Bool) (k : Basic) (s : List ℕ) : Type 0 where
  pub type : k ≡ is
  pub no_zero : has_zero_byte s ≡ false
  pub bad : good ≡ false

abbrev pub IsBasicTextFault : Basic → List ℕ → TreeFlaw → Type 0
IsBasicTextFault k s HasNul = has_zero_byte s ≡ true
IsBasicTextFault k s BadObjectPath = IsBadText path (is_object_path s) k s
IsBasicTextFault k s BadSignature = IsBadText signature (is_signature s) k s
IsBasicTextFault k s _ = ⊥

-- a number is never refused
abbrev pub IsBasicFault : Tree → TreeFlaw → Type 0
IsBasicFault (text k s) fault = IsBasicTextFault k s fault
IsBasicFault _ fault = ⊥

abbrev pub IsTooDeepTree : Tree → Type 0
IsTooDeepTree v = (128 < depth v) ⊎ (128 < nesting (type_of v))

pub record IsTooLarge (v : Tree) : Type 0 where
  pub levels : depth v ≤ 128
  pub type_levels : nesting (type_of v) ≤ 128
  pub long : 67108864 < length (spelling (type_of v))

-- why a container that is a value of its type isn't made
abbrev pub IsSizeFault : Tree → TreeFlaw → Type 0
IsSizeFault v TooDeep = IsTooDeepTree v
IsSizeFault v TooLarge = IsTooLarge v
IsSizeFault v _ = ⊥

-- the tree at this index is the first of another type
abbrev pub IsFirstOther : Ty → Trees → ℕ → Type 0
IsFirstOther t none i = ⊥
IsFirstOther t (first v vs) zero = type_of v ≢ t
IsFirstOther t (first v vs) (suc i) = (type_of v ≡ t) × IsFirstOther t vs i

-- why a container whose children are to be of type t isn't made
abbrev pub IsContentFault : Ty → Tree → Refused TreeFlaw → Type 0
IsContentFault t v (Fault (WrongType i)) = IsFirstOther t (children v) i
IsContentFault t v fault = AllOf t (children v) × OfFault (IsSizeFault v) fault

-- why an entry isn't made, if its key is basic
abbrev pub IsEntryFault : Option Tree → Refused TreeFlaw → Type 0
IsEntryFault None fault = fault ≡ Fault KeyNotBasic
IsEntryFault (Some v) fault = OfFault (IsSizeFault v) fault
