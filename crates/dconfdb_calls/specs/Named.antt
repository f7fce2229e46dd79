-- What C is told of a profile.
use Rattle.std.specs.Prelude.{◌≡◌, ◌⊎◌, ℕ, List, Ok, Err, IsUtf8, map}
use Rattle.dconf_model.specs.Causes.{SettingsCause}
use Rattle.dconf_model.specs.Causes.SettingsCause.{bad_line, service_db, not_utf8, user_not_first, too_many}
use Rattle.dconf_model.specs.Lines.{LineFault}
use Rattle.dconf_model.specs.Profiles.{Database, Kind, databases_in}
use Rattle.dconf_model.specs.Profiles.Kind.{user_db, system_db, file_db}
use Rattle.dconfdb_calls.specs.declared.profiles.DconfdbName.{DconfdbName}
use Rattle.dconfdb_calls.specs.Given.{HandsOut}

abbrev pub kind_number : Kind → ℕ
kind_number user_db = 0
kind_number system_db = 1
kind_number file_db = 2

-- a database's kind, by its number, and its name; and those that are told
abbrev pub named : Database → ℕ × List ℕ
named d = (kind_number d.kind, d.name)

abbrev pub told : DconfdbName → ℕ × List ℕ
told name = (name.kind, name.name.now)

-- these are those of a profile's text
abbrev pub AreNamesIn : List ℕ → List DconfdbName → Type 0
AreNamesIn text names = (ds : List Database) × (databases_in text ≡ Ok ds) × (map {B = ℕ × List ℕ} told names ≡ map {B = ℕ × List ℕ} named ds)

-- and they are handed out
abbrev pub AreNamed : List ℕ → List DconfdbName → List DconfdbName → ℕ → Type 0
AreNamed text old new n = (names : List DconfdbName) × AreNamesIn text names × HandsOut names old new n

abbrev pub cause_number : SettingsCause → ℕ
cause_number not_utf8 = 8
cause_number bad_line = 9
cause_number service_db = 10
cause_number user_not_first = 11
cause_number too_many = 12
cause_number _ = 0

-- the first line at fault
abbrev pub IsLineFault : List ℕ → ℕ → ℕ → Type 0
IsLineFault text number line = (f : LineFault) × (databases_in text ≡ Err f) × (number ≡ cause_number f.cause) × (line ≡ f.line)

-- an allocation failed, the bytes are no text, or a line is at fault; the line is 0 if none is
abbrev pub IsNoProfile : List ℕ → ℕ → ℕ → Type 0
IsNoProfile text number line = (number ≡ 1) × (line ≡ 0) ⊎ ((number ≡ 8) × (line ≡ 0) × ¬ IsUtf8 text ⊎ IsLineFault text number line)
