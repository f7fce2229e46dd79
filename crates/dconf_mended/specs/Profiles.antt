-- What is read of a profile that was found, and as what a fault of a file is told.
use Rattle.std.specs.Prelude.{◌≡◌, ◌⊎◌, ℕ, List, [], Option, Some, None, Bool, true, false, not, ◌==◌, ◌||◌, codes, IsUtf8, if◌then◌else◌, map, option_map}
use Rattle.dconf_places.specs.declared.profile.Telling.{Telling}
use Rattle.dconf_places.specs.declared.profile.Telling.TheVariants.{Nothing, Refuses, Kept}
use Rattle.dconfdb_calls.specs.Given.{HandsOut}
use Rattle.dconfdb_calls.specs.GoodLines.{Told, first_fault, good_names, line_fault, or_none}
use Rattle.dconfdb_calls.specs.Named.{AreNamesIn, IsLineFault, told}
use Rattle.dconfdb_calls.specs.declared.profiles.DconfdbName.{DconfdbName}
use Rattle.dconf_mended.specs.declared.profile.ProfileRead.{ProfileRead}

-- What it says: the one line of a user who has none (3), or the file's text (4). Else there is no database.
abbrev pub said_by : ℕ → List ℕ → List ℕ
said_by step text = if step == 3 then codes "user-db:user" else if step == 4 then text else []

-- ---- its lines

abbrev pub or_not_text : Option Told → Told
or_not_text (Some bad) = bad
or_not_text None = (8, 0)

-- the first line at fault; in what is no text it is one that isn't, or one before that
abbrev pub IsFirstBad : List ℕ → Told → Type 0
IsFirstBad text bad = ((¬ IsUtf8 text) × (bad ≡ or_not_text (first_fault text))) ⊎ IsLineFault text bad.0 bad.1

-- who is strict takes the databases of a profile, or none of one with a bad line
abbrev pub IsReadStrictly : List ℕ → List DconfdbName → Told → Type 0
IsReadStrictly text names bad = (AreNamesIn text names × (bad ≡ (0, 0))) ⊎ ((names ≡ []) × IsFirstBad text bad)

-- who is lenient takes those of the good lines
pub record IsReadLeniently (text : List ℕ) (names : List DconfdbName) (bad : Told) : Type 0 where
  pub good : map {B = ℕ × List ℕ} told names ≡ good_names text
  pub first : bad ≡ or_none (first_fault text)

abbrev pub IsRead : Bool → List ℕ → List DconfdbName → Told → Type 0
IsRead true text names bad = IsReadLeniently text names bad
IsRead false text names bad = IsReadStrictly text names bad

-- and they are handed out
abbrev pub IsTaken : Bool → List ℕ → List DconfdbName → List DconfdbName → ℕ → Told → Type 0
IsTaken lenient text old new n bad = (names : List DconfdbName) × IsRead lenient text names bad × HandsOut names old new n

-- zeros where no line is bad
abbrev pub bad_in : ProfileRead → Told
bad_in it = or_none (option_map line_fault it.bad)

-- ---- as what a fault is told, by its number

-- Who is strict is refused, and so is who lacks memory; who is lenient keeps the first.
abbrev pub telling_of : ℕ → Bool → Bool → Telling
telling_of fault lenient has_kept =
    if fault == 0 then Nothing else if (fault == 1) || not lenient then Refuses else if has_kept then Nothing else Kept
