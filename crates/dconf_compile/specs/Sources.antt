-- The files that are compiled, in the words of the model.
use Rattle.std.specs.Prelude.{◌≡◌, ℕ, List, map, Result, Ok}
use Rattle.std.specs.List.{AllByRecursion, enumerate_from}
use Rattle.dconf_model.specs.Lines.{read_file}
use Rattle.dconf_model.specs.Locks.{locks_in}
use Rattle.dconf_model.specs.Settings.{Settings}
use Rattle.dconf_model.specs.Sources.{Source as TheSource, FileFault, Given, AreGiven, and_locks, compiled, given, in_files}
use Rattle.dconf_model.specs.Sources.File.{keyfile, lock_file}
use Rattle.dconf_model.specs.Stores.{IsLimitedValue}
use Rattle.dconf_compile.specs.declared.order.Numbered.{Numbered}
use Rattle.dconf_compile.specs.declared.source.Source.{Source}

abbrev pub source_of : Source → TheSource
source_of s = record { name = s.name.now; bytes = s.bytes.now }

abbrev pub sources_of : List Source → List TheSource
sources_of files = map source_of files

-- each value that the files give is one of its type, with a type text within the limits
abbrev pub GiveLimitedValues : List TheSource → List TheSource → Type 0
GiveLimitedValues files locks = (g : Given) × (given files locks ≡ Ok g) × AllByRecursion (λ row. IsLimitedValue row.value) g.values

abbrev pub numbered : Numbered → ℕ × TheSource
numbered file = (file.number, source_of file.source)

-- what keyfiles, as they are taken, and lock files give
abbrev pub given_by : List Numbered → List Source → Result Given FileFault
given_by files locks =
    and_locks (in_files keyfile compiled (map numbered files)) (in_files lock_file (read_file locks_in) (enumerate_from 0 (sources_of locks)))

-- these are the settings that are given, and each of their values is one of its type
pub record AreGivenBy (reading : Result Given FileFault) (s : Settings) : Type 0 where
  pub gives : Given
  pub read : reading ≡ Ok gives
  pub limited : AllByRecursion (λ row. IsLimitedValue row.value) gives.values
  pub settings : AreGiven gives s
