-- What a run is given: what each of its reads gives, and its input.
use Rattle.std.specs.Prelude.{ℕ, ◌<◌, Bool, List, length, Option, Some, None, if◌then◌else◌, nat_lt, ◌==◌}
use Rattle.dconf_model.specs.Bytes.{longest_file}

-- what a read of a file gives: the device may fail, and a file may be over the size that is read
pub data FileRead : Type 0 where
  no_file : FileRead
  holds : List ℕ → FileRead
  over_size : FileRead
  failed : FileRead

-- what the read of that number gives, from 0 on, if it is of that name
abbrev pub ReadResults : Type 0
ReadResults = ℕ → List ℕ → FileRead

-- what a folder's names hold, None for no file
abbrev pub Content : Type 0
Content = List ℕ → Option (List ℕ)

-- a file that is too long isn't read
abbrev pub read_of : Option (List ℕ) → FileRead
read_of None = no_file
read_of (Some bytes) = if nat_lt longest_file (length bytes) then over_size else holds bytes

-- there is a file, and it is too long to be read
abbrev pub IsOverSize : Option (List ℕ) → Type 0
IsOverSize None = ⊥
IsOverSize (Some bytes) = longest_file < length bytes

-- no read fails
abbrev pub steady : Content → ReadResults
steady content n name = read_of (content name)

-- the read of that number fails
abbrev pub failing : ℕ → ReadResults → ReadResults
failing k reads n name = if n == k then failed else reads n name

-- what input gives until it ends or fails
pub record Input : Type 0 where
  pub bytes : List ℕ
  pub fails : Bool
