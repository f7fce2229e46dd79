-- A line of a dump as it is meant.
use Rattle.std.specs.Prelude.{string_bytes}
use Rattle.dconf_by_name.specs.Dumps.{DumpLine}
use Rattle.dconf_by_name.specs.declared.order.Line.{Line}
use Rattle.dconf_by_name.specs.declared.order.Placed.{Placed}

abbrev pub line_meant : Line → DumpLine
line_meant line = record { directory = line.directory.now; heading = line.heading.now; text = line.text.now }

abbrev pub placed_meant : Placed → DumpLine
placed_meant placed = record { directory = string_bytes placed.directory; heading = placed.heading.now; text = placed.text.now }
