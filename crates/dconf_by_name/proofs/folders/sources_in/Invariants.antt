use Rattle.std.proofs.Common.{◌≡◌, map, string_bytes, take}
use Rattle.dconf_model.specs.Updates.{sources_in}
use Rattle.dconf_by_name.proofs.folders.sources_in.Given as goal

abbrev pub invariant-loop-file : goal.invariant-loop-file
invariant-loop-file l = map string_bytes l.names.items ≡ sources_in l.start (map string_bytes (take l.file-index l.files))
