use Rattle.std.proofs.Common.{rules}
use Rattle.dconf_path.proofs.texts.TextFault.line.Goals as goal

pub returns-in-NotUtf8 : goal.returns-in-NotUtf8
returns-in-NotUtf8 c = search rules
