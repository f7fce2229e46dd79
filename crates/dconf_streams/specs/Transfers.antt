-- The transfers of a stream.
use Rattle.std.specs.Prelude.{◌≡◌, ◌+◌, ℕ, List, [], ◌∷◌, Option, Some, None, Result, Ok, Err, flat_map, length, take, unwrap_or}

-- a call: how many bytes it was to move at most, and those that it moved; none where it failed
pub record Transfer : Type 0 where
  pub asked : ℕ
  pub moved : Option (List ℕ)

-- of a buffer, by the number of its bytes that were moved; with no number the call failed
abbrev pub first_moved : List ℕ → List ℕ → Option (List ℕ)
first_moved [] buf = None
first_moved (n ∷ more) buf = Some (take n buf)

abbrev pub transfer_of : List ℕ → List ℕ → Transfer
transfer_of counts buf = record { asked = length buf; moved = first_moved counts buf }

-- the number that a call returned
abbrev pub counts_of : {E : Type 0} → Result ℕ E → List ℕ
counts_of (Ok n) = n ∷ []
counts_of (Err e) = []

-- all bytes that transfers moved, in their order
abbrev pub bytes_moved : Transfer → List ℕ
bytes_moved c = unwrap_or c.moved []

abbrev pub moved_by : List Transfer → List ℕ
moved_by transfers = flat_map bytes_moved transfers

-- it was to move at least one byte, and there was none
pub record FoundEnd (c : Transfer) : Type 0 where
  pub room : ℕ
  pub asked : c.asked ≡ room + 1
  pub moved : c.moved ≡ Some []
