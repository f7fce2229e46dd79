-- The framing offsets of an array, as the bytes end with them.
use Rattle.std.specs.Prelude.{◌≡◌, ◌<◌, ℕ, ◌+◌, ◌-◌, ◌/◌, ◌%◌, Bool, true, false, List, length, take, drop, Option, Some, None, nat_lt, nat_le, ◌&&◌, if◌then◌else◌}
use Rattle.gv_model.specs.Layout.{offset_width}
use Rattle.gv_model.specs.Arrays.{elements_end}
use Rattle.gv_model.specs.BasicValue.{number_in}
use Rattle.gv_model.specs.Encode.{least_width}

-- how many offsets there are behind a body that ends where the last one says
abbrev pub offset_number : List ℕ → ℕ
offset_number b = (length b - elements_end b None) / offset_width (length b)

-- the bytes end with whole offsets, as narrow as they can be
pub record HasTable (b : List ℕ) : Type 0 where
  pub within : elements_end b None < length b
  pub whole : (length b - elements_end b None) % offset_width (length b) ≡ 0
  pub narrow : least_width (elements_end b None) (offset_number b) ≡ offset_width (length b)

-- where a member ends that begins at s, and from where on the offsets are read then, if they were read from q on before it
abbrev pub member_place : ℕ → List ℕ → ℕ → ℕ → Option ℕ → Bool → Option (ℕ × ℕ)
member_place w b q s (Some size) last = Some (s + size, q)
member_place w b q s None true = Some (q, q)
member_place w b q s None false = if nat_lt 0 w && nat_le w q then Some (number_in (take w (drop (q - w) b)), q - w) else None
