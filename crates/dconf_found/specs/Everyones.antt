-- The profile of all users, as it is read: its databases of the system are files beside it, and none of a user's folder.
use Rattle.std.specs.Prelude.{◌≡◌, ◌⊎◌, ℕ, List, [], ◌∷◌, ◌++◌, codes, flat_map, Option, Some, None, Ok, Err}
use Rattle.dconf_model.specs.Lines.{LineFault}
use Rattle.dconf_model.specs.Profiles.{Database, Kind, database_text, file_of_kind, profile_of}
use Rattle.dconf_model.specs.Profiles.Kind.{user_db, system_db, file_db}

-- `system-db:NAME` is the file NAME.db beside the profile
abbrev pub beside_by : Kind → List ℕ → Database
beside_by user_db name = record { kind = user_db; name = name }
beside_by system_db name = record { kind = file_db; name = codes "/etc/dconfdb/" ++ file_of_kind system_db name }
beside_by file_db name = record { kind = file_db; name = name }

abbrev pub beside : Database → Database
beside d = beside_by d.kind d.name

abbrev pub line_of : Database → List ℕ
line_of d = database_text (beside d) ++ 10 ∷ []

-- a line for each database
abbrev pub everyones_text : List Database → List ℕ
everyones_text databases = flat_map line_of databases

-- the lines, if the file is a profile
abbrev pub IsWritten : List ℕ → Option (List ℕ) → Type 0
IsWritten held (Some text) = (databases : List Database) × (profile_of held ≡ Ok databases) × (text ≡ everyones_text databases)
IsWritten held None = (fault : LineFault) × (profile_of held ≡ Err fault)

-- a file that is no profile is read as it is, so that its fault is told
abbrev pub IsEveryones : List ℕ → List ℕ → Type 0
IsEveryones held given =
    ((databases : List Database) × (profile_of held ≡ Ok databases) × (given ≡ everyones_text databases))
    ⊎ ((fault : LineFault) × (profile_of held ≡ Err fault) × (given ≡ held))
