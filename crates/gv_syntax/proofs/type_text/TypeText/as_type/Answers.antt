use Rattle.std.proofs.Common.{rules}
use Rattle.gv_syntax.proofs.type_text.TypeText.as_type.Goals as goal

pub of_checked-requires : goal.of_checked-requires
of_checked-requires c = search rules

pub returns : goal.returns
returns c = search rules
