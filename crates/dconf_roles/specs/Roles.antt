-- As what `update` takes a file, by the folders that it is in. dconf(1), "update"; docs/MANUAL.md, "lint [FILE]..".
use Rattle.std.specs.Prelude.{ℕ, List, Bool, true, false, ◌≡◌, ◌++◌, ◌∷◌, [], ◌&&◌, codes, length, nat_eq, nat_lt, if◌then◌else◌}
use Rattle.std.specs.List.{ends_with}
use Rattle.std.specs.Str.{bytes_eq}
use Rattle.dconf_model.specs.Updates.{is_shown, sources_in}
use Rattle.dconf_roles.specs.declared.roles.Role.{Role}

-- a folder NAME.d that isn't hidden
abbrev pub is_sources : List ℕ → Bool
is_sources name = is_shown name && (nat_lt 2 (length name) && ends_with nat_eq name (codes ".d"))

abbrev pub unless_hidden : List ℕ → Role → Role
unless_hidden name role = if is_shown name then role else Role.Hidden

-- of what lies in a folder of that role, or the folder itself: in one of sources the folder `locks` is read, and no other one
abbrev pub below : Role → List ℕ → Role
below Role.ByItsText name = Role.ByItsText
below Role.Keyfile name = unless_hidden name (if bytes_eq name (codes "locks") then Role.Locks else Role.Unread)
below Role.Locks name = unless_hidden name Role.Unread
below Role.Unread name = unless_hidden name Role.Unread
below Role.Hidden name = Role.Hidden

-- the last folder of sources on the way counts
abbrev pub in_folder : Role → List ℕ → Role
in_folder role name = if is_sources name then Role.Keyfile else below role name

abbrev pub as_file : Role → List ℕ → Role
as_file Role.ByItsText name = Role.ByItsText
as_file role name = unless_hidden name role

-- `update`'s own folders count only if it reads one of the files that are asked for
abbrev pub role_among : Role → Bool → Role
role_among role read = if read then role else Role.ByItsText

-- ---- the law: a file in a folder of sources, or in its folder `locks`, is read if `update` reads it

pub record IsReadIfUpdateReads (role : Role) (folder file start : List ℕ) : Type 0 where
  pub keyfile : is_shown file ≡ true →
      (as_file (in_folder role folder) file ≡ Role.Keyfile) × (sources_in start (file ∷ []) ≡ (start ++ file) ∷ [])
  pub lock_file : is_shown file ≡ true →
      (as_file (in_folder (in_folder role folder) (codes "locks")) file ≡ Role.Locks) × (sources_in start (file ∷ []) ≡ (start ++ file) ∷ [])
  pub hidden : is_shown file ≡ false →
      (as_file (in_folder role folder) file ≡ Role.Hidden) × (sources_in start (file ∷ []) ≡ [])

abbrev pub WhatUpdateReadsIsRead : Type 0
WhatUpdateReadsIsRead = (role : Role) (folder file start : List ℕ) → is_sources folder ≡ true → IsReadIfUpdateReads role folder file start
