-- Which command reads its input, and what it answers of a line of that.
use Rattle.std.specs.Prelude.{Bool, true, false, Option, Some, None, codes}
use Rattle.dconf_model.specs.Commands.{Command}
use Rattle.dconf_model.specs.Commands.Command.{load}
use Rattle.dconf_model.specs.FaultTexts.{line_fault_text}
use Rattle.dconf_model.specs.Lines.{LineFault}
use Rattle.dconf_model.specs.Outcomes.{Gives, Refused}

-- whether a command reads its input
abbrev pub reads_input : Command → Bool
reads_input (load force skip_doubles directory profile) = true
reads_input other = false

-- refused for this line
abbrev pub RefusedLine : Option LineFault → Gives
RefusedLine None o = ⊥
RefusedLine (Some f) o = Refused (line_fault_text (codes "input") f.line f.cause) o
