use Rattle.dconf_found.proofs.CountLaws.{not_keyless}
use Rattle.dconf_found.proofs.bad_databases.counted_bad.Goals as goal

pub salvaged-requires : goal.salvaged-requires
salvaged-requires c = record { bad = c.requires; other = not_keyless c.args.file.now (rw c.in-Err-Unsound.field-0-is at c.in-Err-Unsound.ensures.fault) }
