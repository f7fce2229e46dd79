use Rattle.std.proofs.Common.{◌≡◌, ◌++◌, drop, map, string_bytes}
use Rattle.dconf_streams.specs.Readings.{HasRead, named_sources, reads_of}
use Rattle.dconf_streams.proofs.folder_files.files.Given as goal

abbrev pub invariant-loop-name : goal.invariant-loop-name
invariant-loop-name g l =
    (map (λ s. s.name) (named_sources l.files.items) ++ map string_bytes (drop l.name-index l.names) ≡ map string_bytes l.names)
    × HasRead g.F.Folder l.fn.folder l.folder (reads_of (named_sources l.files.items))
