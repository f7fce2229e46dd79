-- The two tables of a sound database: its root table, and its table of locks where it has one.
use Rattle.std.specs.Prelude.{◌≡◌, Bool, Option, Some, None, codes, if◌then◌else◌}
use Rattle.dconf_model.specs.Table.{Table as Region}
use Rattle.dconf_model.specs.Opening.{IsDatabase, root_of}
use Rattle.dconf_model.specs.Sound.{IsSound}
use Rattle.gvdb_read.specs.declared.table.Table.{Table}
use Rattle.gvdb_read.specs.Lookups.{IsTableAt}
use Rattle.gvdb_read.specs.Tables.{region}

-- a table that may be missing
abbrev pub locks_if : Bool → Table → Option Table
locks_if there locks = if there then Some locks else None

abbrev pub IsTableOfLocks : Region → Option Table → Type 0
IsTableOfLocks t None = (u : Region) → ¬ IsTableAt t (codes ".locks") u
IsTableOfLocks t (Some locks) = IsTableAt t (codes ".locks") (region locks)

pub record AreOfSoundDatabase (values : Table) (locks : Option Table) : Type 0 where
  pub opens : IsDatabase (region values).file
  pub root : region values ≡ root_of (region values).file
  pub sound : IsSound (region values)
  pub locks_are : IsTableOfLocks (region values) locks

-- the root table of a sound database
pub record IsSoundRoot (t : Region) : Type 0 where
  pub opens : IsDatabase t.file
  pub root : t ≡ root_of t.file
  pub sound : IsSound t
