use Rattle.std.proofs.Common.{drop, map}
use Rattle.dconf_model.specs.Sources.{compiled, in_files}
use Rattle.dconf_model.specs.Sources.File.{keyfile}
use Rattle.dconf_compile.specs.Sources.{numbered}
use Rattle.dconf_compile.proofs.AddedRows.{HasAddedRows}
use Rattle.dconf_compile.proofs.keyfiles.add_keyfiles.Given as goal

abbrev pub invariant-loop-file : goal.invariant-loop-file
invariant-loop-file l = record {
  added : HasAddedRows (in_files keyfile compiled (map numbered l.files)) (in_files keyfile compiled (map numbered (drop l.file-index l.files))) l.fn.settings l.settings;
}
