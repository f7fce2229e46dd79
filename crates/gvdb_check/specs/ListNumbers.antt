-- The numbers of a list, each as its four bytes.
use Rattle.std.specs.Prelude.{ℕ, ◌<◌, ◌≡◌, List, [], length, take, slice_index_or}
use Rattle.gv_model.specs.BasicValue.{number_in}
use Rattle.dconf_model.specs.Table.{Table}
use Rattle.dconf_model.specs.Sound.{list_length, listed}

-- these are the numbers in the list of item i
pub record AreNumbers (t : Table) (i : ℕ) (numbers : List (List ℕ)) : Type 0 where
  pub len : length numbers ≡ list_length t i
  pub each : (k : ℕ) (d : List ℕ) → k < length numbers → number_in (slice_index_or numbers k d) ≡ listed t i k

-- the number occurs in the list
abbrev pub IsListed : Table → ℕ → ℕ → Type 0
IsListed t i j = (k : ℕ) × (k < list_length t i) × (listed t i k ≡ j)

-- the number is one of these
abbrev pub Occurs : ℕ → List (List ℕ) → Type 0
Occurs j numbers = (k : ℕ) × (k < length numbers) × ((d : List ℕ) → number_in (slice_index_or numbers k d) ≡ j)

-- the number at place k is none of those before it
abbrev pub IsFirstAt : List (List ℕ) → ℕ → Type 0
IsFirstAt numbers k = ¬ Occurs (number_in (slice_index_or numbers k [])) (take k numbers)
