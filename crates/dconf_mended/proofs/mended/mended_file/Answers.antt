use Rattle.dconf_mended.proofs.MendLaws.{not_keyless}
use Rattle.dconf_mended.proofs.mended.mended_file.Goals as goal

pub saved-requires : goal.saved-requires
saved-requires c = not_keyless c.args.file.now (rw c.in-Err-Unsound.field-0-is at c.in-Err-Unsound.ensures.fault)
