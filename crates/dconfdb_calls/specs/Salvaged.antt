-- What C is handed of a file that may be no sound database: a sound one, of what can be saved.
use Rattle.std.specs.Prelude.{◌≡◌, ◌⊎◌, ℕ, List}
use Rattle.std.specs.FinMap.{len}
use Rattle.dconf_model.specs.Databases.{IsDatabaseOf, IsTooBig}
use Rattle.dconf_model.specs.Opening.{IsDatabase, IsOpenFault, OpenFault}
use Rattle.dconf_model.specs.Salvaging.{IsSalvaged}
use Rattle.dconf_model.specs.Settings.{Settings}
use Rattle.dconfdb_calls.specs.declared.fault.Fault.{Fault}
use Rattle.dconfdb_calls.specs.declared.fault.Fault.TheVariants.{Memory, TooBig}
use Rattle.dconfdb_calls.specs.Given.{HandsOut}
use Rattle.dconfdb_calls.specs.Numbers.{number_of}
use Rattle.dconfdb_calls.specs.Opened.{open_number}

-- the file is a database of the settings, which have so many values and locks
pub record IsWritten (s : Settings) (file : List ℕ) (keys locks : ℕ) : Type 0 where
  pub file_is : IsDatabaseOf s file
  pub keys_are : keys ≡ len s.values
  pub locks_are : locks ≡ len s.locks

-- the settings are what is salvaged of the bytes
pub record IsSalvageOf (bytes file : List ℕ) (keys locks : ℕ) : Type 0 where
  pub opens : IsDatabase bytes
  pub settings : Settings
  pub salvaged : IsSalvaged bytes settings
  pub written : IsWritten settings file keys locks

-- and the file is handed out
abbrev pub IsRepaired : List ℕ → List ℕ → List ℕ → ℕ → ℕ → ℕ → Type 0
IsRepaired bytes old new n keys locks = (file : List ℕ) × IsSalvageOf bytes file keys locks × HandsOut file old new n

-- an allocation failed, or the database would be too big
abbrev pub IsUnwritten : Settings → Fault → Type 0
IsUnwritten s fault = (fault ≡ Memory) ⊎ ((fault ≡ TooBig) × IsTooBig s)

-- the bytes are no database, or what is salvaged of them isn't written
abbrev pub IsUnsalvaged : List ℕ → Fault → Type 0
IsUnsalvaged bytes fault =
    ((f : OpenFault) × IsOpenFault bytes f × (number_of fault ≡ open_number f))
    ⊎ (IsDatabase bytes × ((fault ≡ Memory) ⊎ ((s : Settings) × IsSalvaged bytes s × IsUnwritten s fault)))

-- the number of the fault is told
abbrev pub IsUnrepaired : List ℕ → ℕ → Type 0
IsUnrepaired bytes number = (fault : Fault) × (number_of fault ≡ number) × IsUnsalvaged bytes fault
