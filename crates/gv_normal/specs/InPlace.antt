-- What a test in place finds out of bytes, and how many values it looks at.
use Rattle.std.specs.Prelude.{◌≡◌, ◌≤◌, ℕ, ◌-◌, List, length, slice_range, All}
use Rattle.gv_model.specs.Ty.{Ty, Basic}
use Rattle.gv_model.specs.Ty.Ty.{tuple, entry}
use Rattle.gv_model.specs.Ty.Basic.{boolean}
use Rattle.gv_model.specs.Tree.{depth}
use Rattle.gv_model.specs.Decode.{decode}
use Rattle.gv_model.specs.Encode.{zeros}
use Rattle.gv_model.specs.Normal.{IsEncoded}

-- bytes are written so, for a value of no more than d levels
pub record IsNormalWithin (d : ℕ) (t : Ty) (b : List ℕ) : Type 0 where
  pub written : IsEncoded t b
  pub shallow : depth (decode t b) ≤ d

-- a part lies from s to e in a body, and the bytes before it, from p on, are zero
pub record LiesAfter (body : List ℕ) (p s e : ℕ) : Type 0 where
  pub rises : s ≤ e
  pub within : e ≤ length body
  pub padding : slice_range body p s ≡ zeros (s - p)

-- bytes of numbers are normal in an array: those of booleans are 0 or 1
abbrev pub AreNormalNumbers : Basic → List ℕ → Type 0
AreNormalNumbers boolean b = All (λ x. x ≤ 1) b
AreNormalNumbers k b = Unit {0}

-- a tuple or an entry
abbrev pub HasMembers : Ty → Type 0
HasMembers (tuple ts) = Unit {0}
HasMembers (entry k t) = Unit {0}
HasMembers _ = ⊥
