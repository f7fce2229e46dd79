use Rattle.std.proofs.Common.{◌≡◌, map, string_bytes, take}
use Rattle.dconf_path.specs.Profiles.{database_of}
use Rattle.dconf_found.specs.Everyones.{everyones_text}
use Rattle.dconf_found.proofs.everyones.lines_of.Given as goal

abbrev pub invariant-loop-database : goal.invariant-loop-database
invariant-loop-database l = string_bytes l.text ≡ everyones_text (map database_of (take l.database-index l.databases))
