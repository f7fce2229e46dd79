use Rattle.std.proofs.Common.{◌≡◌, take}
use Rattle.dconf_compile.specs.Sources.{sources_of}
use Rattle.dconf_streams.specs.Readings.{named_sources}
use Rattle.dconf_commands.proofs.commands.compile.sources.Given as goal

abbrev pub invariant-loop-file : goal.invariant-loop-file
invariant-loop-file l = sources_of l.sources.items ≡ named_sources (take l.file-index l.files)
