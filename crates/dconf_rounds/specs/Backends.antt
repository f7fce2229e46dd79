-- Where GIO is told that the module's backend stands.
use Rattle.std.specs.Prelude.{ℕ, ◌<◌, ◌≤◌, Bool, true, false, if◌then◌else◌}

abbrev pub priority : Bool → ℕ
priority default = if default then 110 else 0

-- ---- the law

-- dconf's backend has 100. The module is taken in its place exactly if an administrator's file makes it the default; without that file no backend is
-- behind it.
pub record IsInItsPlace : Type 0 where
  pub front : 100 < priority true
  pub behind : (other : ℕ) → priority false ≤ other

abbrev pub OnlyAFileMakesItTheDefault : Type 0
OnlyAFileMakesItTheDefault = IsInItsPlace
