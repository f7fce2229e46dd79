-- What holds in the loops: what was written, with what is left to write, is the whole.
use Rattle.std.proofs.Common.{ℕ, ◌-◌, ◌≡◌, ◌≤◌, List, ◌++◌, length, flat_map}
use Rattle.std.specs.List.{AllByRecursion}
use Rattle.gv_model.specs.Parts.{Part}
use Rattle.gv_model.specs.Encode.{number_bytes, joined_parts, body_from, ends_from, open_ends_from}
use Rattle.gv_model.specs.Limits.{limit}

pub record OffsetsSoFar (w body : ℕ) (before out ends left : List ℕ) : Type 0 where
  pub wrote : out ++ flat_map (number_bytes w) left ≡ before ++ flat_map (number_bytes w) ends
  pub within : AllByRecursion (λ e. e ≤ body) left
  pub room : length out ≤ limit

pub record JoinedSoFar (before out : List ℕ) (whole left : List Part) : Type 0 where
  pub wrote : out ++ joined_parts left ≡ before ++ joined_parts whole
  pub room : length out ≤ limit

-- in a container that starts there
pub record PlacedSoFar (start : ℕ) (before out : List ℕ) (whole left : List Part) : Type 0 where
  pub started : start ≤ length out
  pub wrote : out ++ body_from (length out - start) left ≡ before ++ body_from 0 whole
  pub room : length out ≤ limit

-- with the end of each element
pub record FramedSoFar (start : ℕ) (before out ends : List ℕ) (whole left : List Part) : Type 0 where
  pub placed : PlacedSoFar start before out whole left
  pub ended : ends ++ ends_from (length out - start) left ≡ ends_from 0 whole
  pub within : AllByRecursion (λ e. e ≤ length out - start) ends

-- with the ends of members of no fixed size
pub record MembersSoFar (start : ℕ) (before out ends : List ℕ) (whole left : List Part) : Type 0 where
  pub placed : PlacedSoFar start before out whole left
  pub ended : ends ++ open_ends_from (length out - start) left ≡ open_ends_from 0 whole
  pub within : AllByRecursion (λ e. e ≤ length out - start) ends
