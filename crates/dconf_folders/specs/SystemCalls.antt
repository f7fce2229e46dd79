-- The calls of the system that a call of the host's folder is made up of, as they are noted, and the folders of its names.
use Rattle.std.specs.Prelude.{ℕ, List, [], ◌∷◌, Option, Some, codes, if◌then◌else◌}
use Rattle.std.specs.Str.{bytes_eq}
use Rattle.std.specs.Path.{path_parent}
use Rattle.dconf_folders.specs.Notes.{Note}

-- The folder that a name stands in: that of `a/x` is `a`, of `/x` the root, of `x` the current one. POSIX, dirname.
abbrev pub folder_of : List ℕ → List ℕ
folder_of name = or_current (path_parent name)
  where
    or_current : Option (List ℕ) → List ℕ
    or_current (Some (c ∷ folder)) = c ∷ folder
    or_current _ = codes "."

abbrev pub made : List ℕ → Note
made name = (1, 1, name, [])

-- the name is taken from its file, if it has one
abbrev pub removed : List ℕ → Note
removed name = (5, 1, name, [])

abbrev pub synced : List ℕ → Note
synced name = (3, 1, name, [])

abbrev pub renamed : List ℕ → List ℕ → Note
renamed from to = (4, 1, from, to)

-- it has the permission bits of the file whose place it is to take
abbrev pub given_mode : List ℕ → Note
given_mode name = (7, 1, name, [])

-- the names of a file's folder are synced, unless that is the current one
abbrev pub with_its_folder : List ℕ → List Note → List Note
with_its_folder name calls = if bytes_eq (folder_of name) (codes ".") then calls else synced (folder_of name) ∷ calls
