-- Whether a command has anything to do: whether the file that it would replace holds those bytes already.
use Rattle.std.specs.Prelude.{◌≡◌, ◌⊎◌, List, Option, Some, None}
use Rattle.dconf_model.specs.Folders.{Event, read_content}
use Rattle.dconf_model.specs.Commands.{Command}
use Rattle.dconf_model.specs.Reads.{Input, IsOverSize, steady}
use Rattle.dconf_model.specs.Outcomes.{Outcome, Replacement, IsOutcome}

-- the file that is to be replaced holds those bytes
abbrev pub Holds : List Event → Option Replacement → Type 0
Holds es None = ⊥
Holds es (Some r) = read_content es r.name ≡ Some r.bytes

-- a file that is too long isn't read, and so it is replaced whatever it holds
abbrev pub IsTooLong : List Event → Option Replacement → Type 0
IsTooLong es None = ⊥
IsTooLong es (Some r) = IsOverSize (read_content es r.name)

-- what the command makes of what the folder holds is there
abbrev pub IsMade : Command → Input → List Event → Type 0
IsMade command input es = (o : Outcome) × IsOutcome command (steady (read_content es)) input o × Holds es o.change

-- it is not there: it makes something else, or is refused
abbrev pub IsDue : Command → Input → List Event → Type 0
IsDue command input es = (o : Outcome) × IsOutcome command (steady (read_content es)) input o × (¬ Holds es o.change ⊎ IsTooLong es o.change)
