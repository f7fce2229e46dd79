-- Which fault of the model it is that a file is refused for.
use Rattle.std.specs.Prelude.{ℕ, Option, option_map}
use Rattle.dconf_model.specs.Causes.{SettingsCause}
use Rattle.dconf_model.specs.Lines.{LineFault}
use Rattle.dconf_compile.specs.declared.line_stop.LineStop.{LineStop}
use Rattle.dconf_compile.specs.CompileFaults.{cause_of}

abbrev pub at_line : ℕ → SettingsCause → LineFault
at_line line cause = record { line = line; cause = cause }

abbrev pub line_fault_of : LineStop → Option LineFault
line_fault_of stop = option_map (at_line stop.line) (cause_of stop.cause)
