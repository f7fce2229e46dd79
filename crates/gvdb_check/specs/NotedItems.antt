-- Items that are noted, since their parents end, with the lengths of their full names.
use Rattle.std.specs.Prelude.{ℕ, ◌≡◌, ◌%◌, List, length, All, Option, Some, None, get_or, replicate, set}
use Rattle.dconf_model.specs.Table.{Table}
use Rattle.dconf_model.specs.Names.{full_name}
use Rattle.dconf_model.specs.Searchable.{LeadsUp}
use Rattle.gvdb_check.specs.declared.parents.Noted.{Noted}
use Rattle.gvdb_check.specs.declared.parents.NotedItems.{NotedItems}

abbrev pub none_noted : NotedItems
none_noted = record { places = replicate 256 None }

-- this length is noted of item i
abbrev pub Has : NotedItems → ℕ → ℕ → Type 0
Has noted i len = get_or noted.places (i % 256) None ≡ Some record { item = i; len = len }

abbrev pub with_noted : NotedItems → ℕ → ℕ → NotedItems
with_noted noted i len = record { places = set noted.places (i % 256) (Some record { item = i; len = len }) }

-- P holds of what is noted at a place
abbrev pub Holds : (ℕ → ℕ → Type 0) → Option Noted → Type 0
Holds P None = Unit {0}
Holds P (Some noted) = P noted.item noted.len

abbrev pub AreNoted : (ℕ → ℕ → Type 0) → NotedItems → Type 0
AreNoted P noted = All (Holds P) noted.places

-- the parents of what is noted end
abbrev pub Ends : Table → ℕ → ℕ → Type 0
Ends t i len = (parents : List ℕ) × LeadsUp t i parents

abbrev pub DoEnd : Table → NotedItems → Type 0
DoEnd t noted = AreNoted (Ends t) noted

-- the lengths that are noted are those of the items' names
abbrev pub IsLong : Table → ℕ → ℕ → Type 0
IsLong t i len = length (full_name t i) ≡ len

abbrev pub AreLong : Table → NotedItems → Type 0
AreLong t noted = AreNoted (IsLong t) noted
