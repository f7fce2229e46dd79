-- Bytes that are what is written for their value.
-- GVariant Specification, "Normal Form"; the limit of depth is this project's.
use Rattle.std.specs.Prelude.{◌≡◌, ◌≤◌, ℕ, List}
use Rattle.gv_model.specs.Ty.{Ty}
use Rattle.gv_model.specs.Ty.Ty.{basic}
use Rattle.gv_model.specs.Tree.{depth}
use Rattle.gv_model.specs.Decode.{decode}
use Rattle.gv_model.specs.Parts.{Part}
use Rattle.gv_model.specs.Encode.{encode}

-- bytes are written so
abbrev pub IsEncoded : Ty → List ℕ → Type 0
IsEncoded t b = b ≡ encode (decode t b)

pub record IsNormal (t : Ty) (b : List ℕ) : Type 0 where
  pub written : IsEncoded t b
  pub shallow : depth (decode t b) ≤ 128

-- the types whose values are written by their children
abbrev pub IsContainer : Ty → Type 0
IsContainer (basic k) = ⊥
IsContainer _ = Unit {0}

-- the bytes of a part are written so
abbrev pub IsPartEncoded : Part → Type 0
IsPartEncoded p = IsEncoded p.0 p.1
