use Rattle.std.proofs.Common.{sym, refl}
use Rattle.gv_model.proofs.TypeTextParts.{spelling-type_at}
use Rattle.gv_types.proofs.type_str.TypeStr.as_str.Goals as goal

pub returns-clause-spelled : goal.returns-clause-spelled
returns-clause-spelled c = sym (spelling-type_at c.args.self.text.now c.args.self.spells_type).0

pub returns-clause-text : goal.returns-clause-text
returns-clause-text c = refl
