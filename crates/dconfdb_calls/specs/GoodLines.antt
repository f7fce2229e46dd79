-- What a profile says where its bad lines are passed over.
use Rattle.std.specs.Prelude.{◌≡◌, ◌⊎◌, ℕ, ◌+◌, List, [], ◌∷◌, ◌++◌, length, Option, Some, None, Result, Ok, Err, nat_lt, ◌==◌, ◌&&◌, if◌then◌else◌, map}
use Rattle.std.specs.Str.{is_utf8}
use Rattle.std.specs.List.{slice_split}
use Rattle.dconf_model.specs.Causes.{SettingsCause}
use Rattle.dconf_model.specs.Causes.SettingsCause.{not_utf8, too_many, user_not_first}
use Rattle.dconf_model.specs.Lines.{LineFault, LineReading}
use Rattle.dconf_model.specs.Lines.LineReading.{nothing, found, wrong}
use Rattle.dconf_model.specs.Profiles.{Database, databases_in}
use Rattle.keyfile_core.specs.Feeds.{is_feed}
use Rattle.dconfdb_calls.specs.declared.fault.Fault.{Fault}
use Rattle.dconfdb_calls.specs.declared.fault.Fault.TheVariants.{Memory}
use Rattle.dconfdb_calls.specs.declared.profiles.BadProfile.{BadProfile}
use Rattle.dconfdb_calls.specs.declared.profiles.DconfdbName.{DconfdbName}
use Rattle.dconfdb_calls.specs.Given.{HandsOut}
use Rattle.dconfdb_calls.specs.Named.{cause_number, named, told}
use Rattle.dconfdb_calls.specs.Numbers.{number_of}

-- ---- a line

-- what a line of a profile gives: a database's kind, by its number, and its name; nothing; or a fault
abbrev pub Reading : Type 0
Reading = LineReading (ℕ × List ℕ)

-- what a profile of one line gives
abbrev pub of_profile : Result (List Database) LineFault → Reading
of_profile (Ok []) = nothing
of_profile (Ok (d ∷ more)) = found (named d)
of_profile (Err f) = wrong f.cause

abbrev pub own_line : List ℕ → Reading
own_line line = of_profile (databases_in line)

-- after so many databases a user's one may not stand, and after 64 none
abbrev pub place_said : ℕ → ℕ × List ℕ → Reading
place_said before name =
    if name.0 == 0 && nat_lt 0 before then wrong user_not_first
    else if nat_lt 63 before then wrong too_many
    else found name

abbrev pub placed : ℕ → Reading → Reading
placed before (found name) = place_said before name
placed before nothing = nothing
placed before (wrong cause) = wrong cause

abbrev pub line_says : ℕ → List ℕ → Reading
line_says before line = if is_utf8 line then placed before (own_line line) else wrong not_utf8

-- ---- all lines

abbrev pub with_named : List (ℕ × List ℕ) → Reading → List (ℕ × List ℕ)
with_named names (found name) = names ++ name ∷ []
with_named names nothing = names
with_named names (wrong cause) = names

-- with the databases of the lines that are left
abbrev pub names_from : List (ℕ × List ℕ) → List (List ℕ) → List (ℕ × List ℕ)
names_from names [] = names
names_from names (l ∷ more) = names_from (with_named names (line_says (length names) l)) more

-- a fault's number and its line
abbrev pub Told : Type 0
Told = ℕ × ℕ

-- the fault so far, or else this line's
abbrev pub or_later : Option Told → ℕ → Reading → Option Told
or_later (Some fault) line reading = Some fault
or_later None line (wrong cause) = Some (cause_number cause, line)
or_later None line (found name) = None
or_later None line nothing = None

-- the first fault, of the lines that are left after so many lines and these databases
abbrev pub fault_from : Option Told → ℕ → List (ℕ × List ℕ) → List (List ℕ) → Option Told
fault_from fault n names [] = fault
fault_from fault n names (l ∷ more) =
    fault_from (or_later fault (n + 1) (line_says (length names) l)) (n + 1) (with_named names (line_says (length names) l)) more

-- the databases that a text's good lines name, and its first bad line; a line ends at a line feed, and what follows the last one is a line too
abbrev pub good_names : List ℕ → List (ℕ × List ℕ)
good_names text = names_from [] (slice_split is_feed text)

abbrev pub first_fault : List ℕ → Option Told
first_fault text = fault_from None 0 [] (slice_split is_feed text)

-- these names are handed out
abbrev pub AreGoodNames : List ℕ → List DconfdbName → List DconfdbName → ℕ → Type 0
AreGoodNames text old new n = (names : List DconfdbName) × (map {B = ℕ × List ℕ} told names ≡ good_names text) × HandsOut names old new n

-- zeros where there is no fault
abbrev pub or_none : Option Told → Told
or_none (Some fault) = fault
or_none None = (0, 0)

-- ---- words of private parts

abbrev pub line_fault : BadProfile → Told
line_fault bad = (number_of bad.fault, bad.line)

abbrev pub reading_of : Option (ℕ × List ℕ) → Reading
reading_of (Some name) = found name
reading_of None = nothing

-- an allocation failed, or the line is at fault
abbrev pub IsLineFault : Reading → Fault → Type 0
IsLineFault reading fault = (fault ≡ Memory) ⊎ ((cause : SettingsCause) × (reading ≡ wrong cause) × (number_of fault ≡ cause_number cause))
