-- What a profile and its databases are, and what a line of a profile gave.
use Rattle.std.specs.Prelude.{◌≡◌, ℕ, List, map, Option, Some, None, if◌then◌else◌}
use Rattle.std.specs.Prelude.{nat_eq}
use Rattle.std.specs.List.{starts_with}
use Rattle.dconf_model.specs.Causes.{SettingsCause}
use Rattle.dconf_model.specs.Lines.{LineReading}
use Rattle.dconf_model.specs.Lines.LineReading.{nothing, found, wrong}
use Rattle.dconf_model.specs.Profiles.{Kind, Database as ProfileDatabase, kind_text, without_prefix}
use Rattle.dconf_model.specs.Profiles.Kind.{user_db, system_db, file_db}
use Rattle.dconf_path.specs.declared.line_fault.ProfileFlaw.{ProfileFlaw}
use Rattle.dconf_path.specs.declared.profiles.DatabaseKind.{DatabaseKind}
use Rattle.dconf_path.specs.declared.profiles.DatabaseKind.TheVariants.{User, System, File}
use Rattle.dconf_path.specs.declared.profiles.Database.{Database}
use Rattle.dconf_path.specs.declared.profiles.Profile.{Profile}
use Rattle.dconf_path.specs.Faults.{profile_fault_of}

abbrev pub kind_of : DatabaseKind → Kind
kind_of User = user_db
kind_of System = system_db
kind_of File = file_db

abbrev pub database_of : Database → ProfileDatabase
database_of d = record { kind = kind_of d.kind; name = d.name.now }

abbrev pub databases_of : Profile → List ProfileDatabase
databases_of profile = map database_of profile.databases.items

-- ---- a line

abbrev pub reading_of : Option Database → LineReading ProfileDatabase
reading_of None = nothing
reading_of (Some d) = found (database_of d)

-- The line of that number has the fault of what is read of it.
pub record IsFaultAt (line : ℕ) (reading : LineReading ProfileDatabase) (fault : ProfileFlaw) : Type 0 where
  pub cause : SettingsCause
  pub is : reading ≡ wrong cause
  pub same : profile_fault_of fault ≡ record { line = line; cause = cause }

-- the text behind a kind's word
abbrev pub named_as : Kind → List ℕ → ProfileDatabase
named_as kind text = record { kind = kind; name = without_prefix text (kind_text kind) }

-- the database of a text that begins with the word of a kind
abbrev pub named_in : List ℕ → Option ProfileDatabase
named_in text =
    if starts_with nat_eq text (kind_text user_db) then Some (named_as user_db text)
    else if starts_with nat_eq text (kind_text system_db) then Some (named_as system_db text)
    else if starts_with nat_eq text (kind_text file_db) then Some (named_as file_db text)
    else None
