use Rattle.std.proofs.Common.{Err}
use Rattle.dconf_compile.specs.CompileFaults.{cause_of}
use Rattle.dconf_compile.proofs.Causes.{is_of_files}
use Rattle.dconf_commands.proofs.LoadLaws.{line_says}
use Rattle.dconf_commands.proofs.commands.load.line_refused.Goals as goal

pub returns-in_default : goal.returns-in_default
returns-in_default c =
    line_says (Err c.refused_at.result) c.args.stop.line (cause_of c.args.stop.cause) (is_of_files c.args.stop.cause c.in_default.not-Memory) c.refused_at.ensures
