-- The commands, with their words. dconf(1); `show`, `origin`, `explain`, `check` and `repair` are this project's.
use Rattle.std.specs.Prelude.{Bool, ℕ, List}

pub data Command : Type 0 where
  -- TYPE FILE
  show : List ℕ → List ℕ → Command
  -- whether the user's values are left aside; KEY; the profile's file
  read : Bool → List ℕ → List ℕ → Command
  -- DIR; the profile's file
  list : List ℕ → List ℕ → Command
  list_locks : List ℕ → List ℕ → Command
  -- KEY VALUE; the profile's file
  write : List ℕ → List ℕ → List ℕ → Command
  -- KEY; the profile's file
  reset : List ℕ → List ℕ → Command
  -- DIR; the profile's file
  reset_below : List ℕ → List ℕ → Command
  -- whether doubles are left out; DIR; the profile's file
  dump : Bool → List ℕ → List ℕ → Command
  -- whether locked rows are left out, and whether doubles are; DIR; the profile's file
  load : Bool → Bool → List ℕ → List ℕ → Command
  -- KEY; the profile's file
  origin : List ℕ → List ℕ → Command
  explain : List ℕ → List ℕ → Command
  -- OUT; the lock files; KEYFILES
  compile : List ℕ → List (List ℕ) → List (List ℕ) → Command
  -- FILE
  check : List ℕ → Command
  -- FILE OUT
  repair : List ℕ → List ℕ → Command
