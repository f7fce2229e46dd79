-- What a turn is for, and which names are its own to write.
use Rattle.std.specs.Prelude.{ℕ, ◌≡◌, ◌≢◌, ◌⊎◌, ◌++◌, Bool, List, Option, Some, None, codes, IsTrue}
use Rattle.dconf_model.specs.Folders.{Event, file_of}
use Rattle.dconf_model.specs.Replacing.{new_name}

-- the file, the bytes that it is to hold, and the lock's own file, if that is in the folder
pub record Job : Type 0 where
  pub name : List ℕ
  pub bytes : List ℕ
  pub lock : Option (List ℕ)

-- `NAME~1`, say: a name for what was set aside
abbrev pub IsAside : List ℕ → List ℕ → Type 0
IsAside name other = (end : List ℕ) × (other ≡ name ++ (codes "~" ++ end))

-- and no file has it
abbrev pub IsFree : Job → List Event → List ℕ → Type 0
IsFree job es other = IsAside job.name other × (file_of es other ≡ None)

-- and no other file has it: none has, or the file has it already
abbrev pub IsFreeFor : Job → List Event → List ℕ → Type 0
IsFreeFor job es other = IsAside job.name other × ((file_of es other ≡ None) ⊎ (file_of es other ≡ file_of es job.name))

-- The new file's name, the lock's, and where the old file is to be set aside a name that was free.
abbrev pub IsOwn : Bool → Job → List Event → List ℕ → Type 0
IsOwn keeps job old other = (other ≡ new_name job.name) ⊎ ((job.lock ≡ Some other) ⊎ (IsTrue keeps × IsFree job old other))

-- The lock's name is none of the others.
abbrev pub IsLockApart : Job → Type 0
IsLockApart job = (lock : List ℕ) → job.lock ≡ Some lock → (lock ≢ job.name) × (lock ≢ new_name job.name) × ¬ IsAside job.name lock
