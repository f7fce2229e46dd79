use Rattle.std.proofs.Common.{ap}
use Rattle.std.specs.Prelude.{is_none}
use Rattle.dconf_compile.proofs.Causes.{only_memory}
use Rattle.dconf_compile.proofs.fault.CompileFault.at.Goals as goal

pub returns-in_default-clause-memory : goal.returns-in_default-clause-memory
returns-in_default-clause-memory c = λ none. absurd (c.in_default.not-Memory (only_memory c.args.cause (ap is_none none)))
