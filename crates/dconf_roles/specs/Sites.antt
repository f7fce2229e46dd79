-- As what `update` takes what lies in the folder of a site, and what nobody reads there. dconf(1), "update"; docs/MANUAL.md, "update" and "lint [FILE]..".
use Rattle.std.specs.Prelude.{ℕ, List, Bool, true, false, [], ◌≡◌, ◌≢◌, ◌++◌, ◌-◌, ◌&&◌, ◌||◌, ◌==◌, codes, length, map, nat_eq, nat_lt, not, if◌then◌else◌}
use Rattle.std.specs.List.{ends_with, filter}
use Rattle.std.specs.Str.{bytes_eq, is_utf8}
use Rattle.dconf_model.specs.Commands.Command.{compile}
use Rattle.dconf_model.specs.Updates.{SourceFolder, compile_of, has_database, is_shown}
use Rattle.dconf_roles.specs.declared.sites.EntryKnown.{EntryKnown}
use Rattle.dconf_roles.specs.declared.sites.Kind.{Kind}
use Rattle.dconf_roles.specs.declared.sites.Part.{Part}
use Rattle.dconf_roles.specs.declared.sites.Within.{Within}

abbrev pub within_of : ℕ → Within
within_of n = if n == 1 then Within.Site else if n == 2 then Within.Sources else if n == 3 then Within.Locks else Within.Profiles

abbrev pub kind_of : ℕ → Kind
kind_of n = if n == 0 then Kind.File else if n == 1 then Kind.Folder else if n == 2 then Kind.Other else if n == 3 then Kind.Nowhere else Kind.Unseen

abbrev pub unless_hidden : List ℕ → Part → Part
unless_hidden name part = if is_shown name then part else Part.Silent

-- ---- the folder that `update` is given

-- NAME.d
abbrev pub is_sources_name : List ℕ → Bool
is_sources_name name = nat_lt 2 (length name) && ends_with nat_eq name (codes ".d")

-- so much of the name of a file is that of the database NAME.db that it has, or, while it is written, is to have; and of a folder NAME.d that of the
-- database that is made of it
abbrev pub stem_len : List ℕ → ℕ
stem_len name =
    if is_sources_name name then length name - 2 else if ends_with nat_eq name (codes ".db") then length name - 3
    else if ends_with nat_eq name (codes ".db.new") then length name - 7 else length name

-- programs read NAME.db and NAME.user as databases; and `store` says which kind of store a machine has
abbrev pub by_its_name : List ℕ → Part
by_its_name name =
    if ends_with nat_eq name (codes ".db") || ends_with nat_eq name (codes ".user") then Part.Database
    else if bytes_eq name (codes "store") then Part.Silent
    else Part.Beside

-- whoever writes there takes turns by a file `.lock`, which is no link
abbrev pub file_of_site : EntryKnown → List ℕ → Part
file_of_site k name =
    if bytes_eq name (codes ".lock") && k.is_link then Part.Barred
    else if bytes_eq name (codes "profile") then Part.Profile
    else if not k.is_made then unless_hidden name (by_its_name name)
    else if nat_lt (stem_len name) (length name) then Part.Silent
    else Part.Made

-- each NAME.d is listed, and then the hidden ones are left out
abbrev pub sources_of_site : List ℕ → Part
sources_of_site name = if is_shown name then Part.SourceFolder else Part.HiddenFolder

-- the file that `update` makes has this name
abbrev pub is_made_here : EntryKnown → List ℕ → Bool
is_made_here k name = k.is_made && ends_with nat_eq name (codes ".db")

-- a folder in its place is in its way; a link to one gives way
abbrev pub is_in_the_way : EntryKnown → List ℕ → Bool
is_in_the_way k name = not k.is_link && is_made_here k name

-- a profile that is a folder can't be read, and is said to be so; a folder with a profile is a store of its own
abbrev pub folder_of_site : EntryKnown → List ℕ → Part
folder_of_site k name =
    if is_sources_name name then sources_of_site name
    else if bytes_eq name (codes "profiles") then Part.ProfileFolder
    else if bytes_eq name (codes "profile") then Part.Profile
    else if bytes_eq name (codes ".lock") || is_in_the_way k name then Part.Barred
    else if k.is_store then Part.Silent
    else unless_hidden name Part.Stray

abbrev pub other_of_site : List ℕ → Part
other_of_site name =
    if bytes_eq name (codes ".lock") then Part.Barred else if bytes_eq name (codes "profile") then Part.Profile else unless_hidden name Part.Stray

-- what can't be looked at isn't replaced, where a link that leads nowhere is
abbrev pub unseen_of_site : EntryKnown → List ℕ → Part
unseen_of_site k name = if is_made_here k name then Part.Barred else other_of_site name

abbrev pub in_site : EntryKnown → Kind → List ℕ → Part
in_site k Kind.File name = file_of_site k name
in_site k Kind.Folder name = folder_of_site k name
in_site k Kind.Other name = other_of_site name
in_site k Kind.Nowhere name = other_of_site name
in_site k Kind.Unseen name = unseen_of_site k name

-- ---- NAME.d, its `locks`, and `profiles`

-- what can't be looked at may be a file, so it is one of the sources, and can't be read
abbrev pub in_sources : Kind → List ℕ → Part
in_sources Kind.File name = unless_hidden name Part.Keyfile
in_sources Kind.Folder name = if bytes_eq name (codes "locks") then Part.LockFolder else unless_hidden name Part.Nested
in_sources Kind.Other name = unless_hidden name Part.Odd
in_sources Kind.Nowhere name = unless_hidden name Part.Keyfile
in_sources Kind.Unseen name = unless_hidden name Part.Keyfile

abbrev pub in_locks : Kind → List ℕ → Part
in_locks Kind.File name = unless_hidden name Part.Locks
in_locks Kind.Folder name = unless_hidden name Part.Nested
in_locks Kind.Other name = unless_hidden name Part.Odd
in_locks Kind.Nowhere name = unless_hidden name Part.Locks
in_locks Kind.Unseen name = unless_hidden name Part.Locks

abbrev pub in_profiles : Kind → List ℕ → Part
in_profiles Kind.File name = unless_hidden name Part.Profile
in_profiles Kind.Folder name = unless_hidden name Part.Nested
in_profiles Kind.Other name = unless_hidden name Part.Odd
in_profiles Kind.Nowhere name = unless_hidden name Part.Profile
in_profiles Kind.Unseen name = unless_hidden name Part.Profile

-- ---- anywhere

-- `update` lists no folder with a name that is not UTF-8
abbrev pub part_in : Within → EntryKnown → List ℕ → Part
part_in Within.Profiles k name = in_profiles (kind_of k.kind) name
part_in Within.Site k name = if is_utf8 name then in_site k (kind_of k.kind) name else Part.NotUtf8
part_in Within.Sources k name = if is_utf8 name then in_sources (kind_of k.kind) name else Part.NotUtf8
part_in Within.Locks k name = if is_utf8 name then in_locks (kind_of k.kind) name else Part.NotUtf8

-- of a hidden NAME.d
abbrev pub left_out : Part → Part
left_out Part.LockFolder = Part.HiddenLocks
left_out Part.NotUtf8 = Part.NotUtf8
left_out part = Part.Silent

abbrev pub if_hidden : Bool → Part → Part
if_hidden hidden part = if hidden then left_out part else part

abbrev pub part_of : EntryKnown → List ℕ → Part
part_of k name = if_hidden k.is_hidden (part_in (within_of k.within) k name)

-- ---- the law: the files that are taken for keyfiles and for locks are those that `update` compiles, in its order

abbrev pub is_keyfile : Part → Bool
is_keyfile Part.Keyfile = true
is_keyfile part = false

abbrev pub is_lock_file : Part → Bool
is_lock_file Part.Locks = true
is_lock_file part = false

abbrev pub is_source_folder : Part → Bool
is_source_folder Part.SourceFolder = true
is_source_folder part = false

-- those of these names, each after this start
abbrev pub taken : (Part → Bool) → (List ℕ → Part) → List ℕ → List (List ℕ) → List (List ℕ)
taken is part start names = map (λ name. start ++ name) (filter (λ name. is (part name)) names)

-- of a folder NAME.d, with what is known of the files in it: its names are all UTF-8
pub record IsTakenAsUpdateTakesIt (k : EntryKnown) (folder : SourceFolder) : Type 0 where
  pub sources : folder.name ≢ [] → is_source_folder (folder_of_site k (folder.name ++ codes ".d")) ≡ has_database folder
  pub compiled : compile_of folder ≡ compile (folder.name ++ codes ".db")
      (taken is_lock_file (in_locks Kind.File) (folder.name ++ codes ".d/locks/") folder.locks)
      (taken is_keyfile (in_sources Kind.File) (folder.name ++ codes ".d/") folder.keyfiles)
  -- .. which is how what is known of them is taken
  pub keyfile : (name : List ℕ) → k.within ≡ 2 → k.kind ≡ 0 → k.is_hidden ≡ false → is_utf8 name ≡ true → part_of k name ≡ in_sources Kind.File name
  pub lock_file : (name : List ℕ) → k.within ≡ 3 → k.kind ≡ 0 → k.is_hidden ≡ false → is_utf8 name ≡ true → part_of k name ≡ in_locks Kind.File name
  -- and nothing of a hidden one
  pub hidden : (part : Part) → (is_keyfile (left_out part) ≡ false) × (is_lock_file (left_out part) ≡ false)
  pub stem : stem_len (folder.name ++ codes ".db") ≡ length folder.name
  pub made : folder.name ≢ [] → stem_len (folder.name ++ codes ".d") ≡ length folder.name

abbrev pub WhatUpdateCompilesIsTaken : Type 0
WhatUpdateCompilesIsTaken = (k : EntryKnown) (folder : SourceFolder) → IsTakenAsUpdateTakesIt k folder
