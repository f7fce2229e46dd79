-- What a database's file counts as that isn't sound.
use Rattle.std.specs.Prelude.{◌≡◌, ◌⊎◌, ℕ, Bool, true, false, List, [], Some}
use Rattle.dconf_model.specs.Databases.{IsGood, IsTooBig}
use Rattle.dconf_model.specs.Opening.{IsOpenFault, OpenFault}
use Rattle.dconf_model.specs.Salvaging.{IsSalvaged}
use Rattle.dconf_model.specs.Settings.{Settings}
use Rattle.dconfdb_calls.specs.Given.{HandsOut}
use Rattle.dconfdb_calls.specs.Keyless.{IsKeyless}
use Rattle.dconfdb_calls.specs.Salvaged.{IsSalvageOf}
use Rattle.dconf_mended.specs.declared.mended.Standing.{Standing}
use Rattle.dconf_mended.specs.declared.mended.Standing.TheVariants.{Whole, Saved, Nothing}

-- it is no database, or what can be saved of it would be too big
abbrev pub HasNothing : List ℕ → Type 0
HasNothing file = ((f : OpenFault) × IsOpenFault file f) ⊎ ((s : Settings) × IsSalvaged file s × IsTooBig s)

-- the bytes are what a file counts as, and so many values and locks were saved
abbrev pub IsMended : List ℕ → Standing → List ℕ → ℕ → ℕ → Type 0
IsMended file Whole bytes keys locks = IsKeyless file bytes × (keys ≡ 0) × (locks ≡ 0)
IsMended file Saved bytes keys locks = ((mended : List ℕ) → ¬ IsKeyless file mended) × IsSalvageOf file bytes keys locks
IsMended file Nothing bytes keys locks = ((mended : List ℕ) → ¬ IsKeyless file mended) × HasNothing file × (bytes ≡ []) × (keys ≡ 0) × (locks ≡ 0)

abbrev pub standing_number : Standing → ℕ
standing_number Whole = 0
standing_number Saved = 1
standing_number Nothing = 2

-- what is wrong with a file is told, unless it stands for one that lacks nothing
abbrev pub is_told : Standing → Bool
is_told Whole = false
is_told Saved = true
is_told Nothing = true

-- and they are handed out
abbrev pub IsMendedTold : List ℕ → List ℕ → List ℕ → ℕ → ℕ → ℕ → ℕ → Bool → Type 0
IsMendedTold file old new n number keys locks told =
    (standing : Standing) × (bytes : List ℕ) × (number ≡ standing_number standing) × (told ≡ is_told standing) × IsMended file standing bytes keys locks
    × HandsOut bytes old new n

-- law: what is kept of a file is a sound database
abbrev pub MendedOpens : Type 0
MendedOpens =
    (file bytes : List ℕ) (standing : Standing) (keys locks : ℕ) → IsMended file standing bytes keys locks → (standing ≡ Nothing → ⊥) → IsGood (Some bytes)
