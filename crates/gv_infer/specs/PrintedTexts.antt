-- The law of reading what is printed.
use Rattle.std.specs.Prelude.{◌≡◌, ◌≤◌, ◌↔◌, ℕ, true, false, List, Result, Ok}
use Rattle.gv_model.specs.Ty.{Ty}
use Rattle.gv_model.specs.TypeText.{IsWithinLimits}
use Rattle.gv_model.specs.Tree.{Tree, depth}
use Rattle.gv_model.specs.Typed.{HasType}
use Rattle.gv_model.specs.Printed.{printed, holds_double}
use Rattle.gv_model.specs.Literals.{ValueFault as TheFault}
use Rattle.refused.specs.declared.Refused.{Refused}
use Rattle.refused.specs.declared.Refused.TheVariants.{Memory}
use Rattle.gv_infer.specs.declared.fault.ReadFlaw.{ReadFlaw}
use Rattle.gv_infer.specs.Reads.{Reads, IsReadFault}

-- What `read_value` promises of the text comes to v. `value`: what the text reads as is v, and no
-- other value and no fault. `fault`: no fault that it may have is one of the text, so that only want
-- of memory is left.
pub record IsReadAs (text : List ℕ) (v : Tree) : Type 0 where
  pub value : (r : Result Tree TheFault) → Reads text r ↔ (r ≡ Ok v)
  pub fault : (e : Refused ReadFlaw) → IsReadFault text e → e ≡ Memory

-- what is printed for a value is read as that value, where its type is within the limits, it holds
-- no double and is at most 127 deep
abbrev pub PrintedIsRead : Type 0
PrintedIsRead = (t : Ty) (v : Tree) → HasType v t → IsWithinLimits t → holds_double v ≡ false → depth v ≤ 127 → IsReadAs (printed v true) v

-- The text is what is printed for v, which is no double and not so deep that its text is too deep.
pub record IsPrintedFor (text : List ℕ) (v : Tree) : Type 0 where
  pub shown : printed v true ≡ text
  pub no_double : holds_double v ≡ false
  pub levels : depth v ≤ 127
