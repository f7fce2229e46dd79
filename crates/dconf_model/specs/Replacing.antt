-- What it means that a file is replaced, whole: the old bytes or the new ones, whatever crashes come.
-- The new bytes go to a file of their own, which then takes the name: POSIX, rename.
use Rattle.std.specs.Prelude.{ℕ, ◌≡◌, ◌≢◌, ◌⊎◌, List, ◌++◌, length, Option, Some, codes}
use Rattle.dconf_model.specs.Folders.{Event, MayLeave, MayHaveLeft, IsSettled, Grows, read_content}

abbrev pub new_name : List ℕ → List ℕ
new_name name = name ++ codes ".new"

-- A crash at any moment since old leaves under the name what it might have left then, or the bytes; under each other name
-- but the new one only what it might have left then.
pub record MayReplace (old new : List Event) (name bytes : List ℕ) : Type 0 where
  pub grown : Grows old new
  pub own : (c : Option (List ℕ)) → MayHaveLeft new (length old) name c → MayLeave old name c ⊎ (c ≡ Some bytes)
  pub others : (other : List ℕ) (c : Option (List ℕ)) → other ≢ name → other ≢ new_name name →
      MayHaveLeft new (length old) other c → MayLeave old other c

-- a read of the name gives what it gave, or the bytes; a read of each other name but the new one what it gave
pub record ReadsWhole (old new : List Event) (name bytes : List ℕ) : Type 0 where
  pub own : (read_content new name ≡ read_content old name) ⊎ (read_content new name ≡ Some bytes)
  pub others : (other : List ℕ) → other ≢ name → other ≢ new_name name → read_content new other ≡ read_content old other

-- it was replaced: a crash leaves the bytes and nothing else, and a read gives them
pub record Replaced (old new : List Event) (name bytes : List ℕ) : Type 0 where
  pub any_moment : MayReplace old new name bytes
  pub settled : IsSettled new name (Some bytes)
  pub read : read_content new name ≡ Some bytes
  pub others : ReadsWhole old new name bytes

-- the device failed: the file is the old one or the new one
pub record MaybeReplaced (old new : List Event) (name bytes : List ℕ) : Type 0 where
  pub any_moment : MayReplace old new name bytes
  pub whole : ReadsWhole old new name bytes
