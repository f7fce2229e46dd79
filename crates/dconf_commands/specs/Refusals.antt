-- How a command is refused.
use Rattle.std.specs.Prelude.{◌≡◌, ℕ, List, Option, Some, None}
use Rattle.gv_model.specs.Tree.{Tree}
use Rattle.dconf_model.specs.Causes.{SettingsCause}
use Rattle.dconf_model.specs.Changes.{Refusal}
use Rattle.dconf_model.specs.Changes.Refusal.{locked}
use Rattle.dconf_model.specs.FaultTexts.{cause_text}
use Rattle.dconf_model.specs.Outcomes.{Gives, Refused, path_at, refusal_text}

-- refused for this
abbrev pub RefusedFor : List (List ℕ) → Option Refusal → Gives
RefusedFor paths None o = ⊥
RefusedFor paths (Some r) o = Refused (refusal_text paths r) o

-- the path that is locked, where one is
abbrev pub IsLockedPath : List (List ℕ) → Option Refusal → List ℕ → Type 0
IsLockedPath paths (Some (locked n)) path = path ≡ path_at paths n
IsLockedPath paths _ path = Unit {0}

-- refused for what is wrong with a text
abbrev pub RefusedCause : Option SettingsCause → Gives
RefusedCause None o = ⊥
RefusedCause (Some c) o = Refused (cause_text c) o

-- no value is looked at yet
abbrev pub NoValue : Tree → Gives
NoValue v o = ⊥
