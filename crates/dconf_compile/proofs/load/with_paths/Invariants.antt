use Rattle.std.proofs.Common.{drop}
use Rattle.dconf_path.specs.Paths.{directory_text}
use Rattle.dconf_compile.proofs.PathSteps.{ArePathed}
use Rattle.dconf_compile.proofs.load.with_paths.Given as goal

abbrev pub invariant-loop-row : goal.invariant-loop-row
invariant-loop-row l = ArePathed (directory_text l.directory) l.rows l.pathed.items (drop l.row-index l.rows)
