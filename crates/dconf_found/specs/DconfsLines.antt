-- A profile of dconf's kind of store, as a command reads it.
use Rattle.std.specs.Prelude.{◌≡◌, ℕ, List, [], ◌∷◌, ◌++◌, codes, flat_map, Option, Some, None, true, false, ◌==◌, ◌&&◌, if◌then◌else◌}
use Rattle.dconf_model.specs.Paths.{starts_with_slash}
use Rattle.dconf_model.specs.Profiles.{Database, Kind, database_file, database_text, is_user}
use Rattle.dconf_model.specs.Profiles.Kind.{user_db, system_db, file_db}
use Rattle.dconf_places.specs.Numbers.{kind_numbered}
use Rattle.dconf_places.specs.Places.{has_slash}
use Rattle.dconf_homes.specs.Homes.{Home, file_in}
use Rattle.dconf_found.specs.Renamed.{held_name, users_names}

-- ---- a line

-- a database of the system is there a file by its path
abbrev pub shown_kind : Kind → Kind
shown_kind user_db = user_db
shown_kind system_db = file_db
shown_kind file_db = file_db

-- one that is in the folder of the user's databases begins with `./`, so that it is none of them
abbrev pub shown_name : Home → Kind → List ℕ → List ℕ
shown_name h user_db name = name
shown_name h system_db name = file_in h [] (record { kind = system_db; name = name })
shown_name h file_db name = if starts_with_slash name then file_in h [] (record { kind = file_db; name = name }) else codes "./" ++ name

abbrev pub shown_in_place : Home → Database → Database
shown_in_place h d = record { kind = shown_kind d.kind; name = shown_name h d.kind d.name }

-- of a database by its kind's number and its name
abbrev pub numbered : ℕ × List ℕ → Database
numbered n = record { kind = kind_numbered n.0; name = n.1 }

abbrev pub line_in_place : Home → ℕ × List ℕ → List ℕ
line_in_place h n = database_text (shown_in_place h (numbered n)) ++ 10 ∷ []

-- ---- the profile

-- a line for each database
abbrev pub text_in_place : Home → List (ℕ × List ℕ) → List ℕ
text_in_place h names = flat_map (line_in_place h) names

abbrev pub user_by : ℕ → List ℕ → Option (List ℕ)
user_by kind name = if kind == 0 then Some name else None

-- the user's database comes first or not at all
abbrev pub user_among : List (ℕ × List ℕ) → Option (List ℕ)
user_among [] = None
user_among (n ∷ more) = user_by n.0 n.1

-- ---- the law

-- `./` says the folder itself
abbrev pub without_dot : List ℕ → List ℕ
without_dot (c ∷ d ∷ name) = if c == 46 && d == 47 then name else c ∷ d ∷ name
without_dot name = name

-- the whole path of a name in a folder
abbrev pub path_in : List ℕ → List ℕ → List ℕ
path_in folder name = if starts_with_slash name then name else folder ++ (codes "/" ++ without_dot name)

-- the file that a command reads for a line, where the user's database has this name
abbrev pub file_read : Home → List ℕ → Database → List ℕ
file_read h user d = path_in h.folder (held_name (users_names user) (database_file (shown_in_place h d)))

-- it is the one that the library reads
abbrev pub OneFileForALine : Type 0
OneFileForALine = (h : Home) (profile user : List ℕ) → h.in_place ≡ true → has_slash user ≡ false →
    (file_read h user (record { kind = user_db; name = user }) ≡ file_in h profile (record { kind = user_db; name = user }))
    × ((d : Database) → is_user d.kind ≡ false → file_read h user d ≡ file_in h profile d)
