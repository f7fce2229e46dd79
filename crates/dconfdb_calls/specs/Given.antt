-- What C lends, and what it is handed.
use Rattle.std.specs.Prelude.{◌≡◌, ◌≤◌, ◌<◌, ◌++◌, ℕ, List, IsTrue, IsUtf8, length, drop}
use Rattle.gv_model.specs.TypeText.{is_type}
use Rattle.dconf_model.specs.Paths.{is_directory_path}

-- they are a text, and that of a directory's path
abbrev pub IsDirectory : List ℕ → Type 0
IsDirectory bytes = IsUtf8 bytes × IsTrue (is_directory_path bytes)

-- they are a text, and one that spells a type
abbrev pub SpellsType : List ℕ → Type 0
SpellsType bytes = IsUtf8 bytes × IsTrue (is_type bytes)

-- n is how many items there are; they stand at the start of the room, and what is behind them stays.
-- A room that is too short for them stays as it was.
pub record HandsOut {X : Type 0} (items old new : List X) (n : ℕ) : Type 0 where
  pub count : n ≡ length items
  pub fits : length items ≤ length old → new ≡ items ++ drop (length items) old
  pub short : length old < length items → new ≡ old
