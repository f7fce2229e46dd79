use Rattle.std.proofs.Common.{◌≡◌, ◌++◌, map, drop}
use Rattle.std.specs.List.{enumerate_from}
use Rattle.dconf_compile.specs.Sources.{numbered, sources_of}
use Rattle.dconf_compile.proofs.order.with_numbers.Given as goal

abbrev pub invariant-loop-number : goal.invariant-loop-number
invariant-loop-number l = map numbered l.all.items ++ enumerate_from l.number (sources_of (drop l.number l.files)) ≡ enumerate_from 0 (sources_of l.files)
