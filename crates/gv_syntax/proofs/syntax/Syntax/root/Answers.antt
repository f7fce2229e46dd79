use Rattle.std.proofs.Common.{subst}
use Rattle.gv_syntax.specs.Parsed.{IsWithin}
use Rattle.gv_syntax.proofs.syntax.Syntax.root.Goals as goal

pub returns-clause-within : goal.returns-clause-within
returns-clause-within c = subst IsWithin c.self.view_is c.self.invariant

pub returns-clause-root : goal.returns-clause-root
returns-clause-root c = c.self.view_is
