use Rattle.keyfile_core.proofs.DumpParts.{is_stripped}
use Rattle.keyfile_core.proofs.dump_row.path_below.Goals as goal

pub unwrap-requires : goal.unwrap-requires
unwrap-requires c = is_stripped c.strip_prefix.result c.args.directory.now c.args.path.now c.strip_prefix.ensures.cases c.requires
