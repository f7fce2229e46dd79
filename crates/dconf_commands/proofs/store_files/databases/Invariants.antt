use Rattle.std.proofs.Common.{◌≡◌, length, map, take}
use Rattle.dconf_path.specs.Profiles.{database_of}
use Rattle.dconf_streams.specs.Readings.{HasRead}
use Rattle.dconf_commands.specs.StoreReads.{bytes_of, database_reads}
use Rattle.dconf_commands.proofs.store_files.databases.Given as goal

abbrev pub invariant-loop-database : goal.invariant-loop-database
invariant-loop-database g l =
    HasRead g.F.Folder l.fn.folder l.folder (database_reads (take l.database-index (map database_of l.databases)) (map bytes_of l.items.items))
    × (length l.items.items ≡ l.database-index)
