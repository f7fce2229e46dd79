use Rattle.std.proofs.Common.{rules}
use Rattle.gvdb_read.proofs.table.Table.has_directory_value.Goals as goal

pub loop-i-init : goal.loop-i-init
loop-i-init c = search rules
