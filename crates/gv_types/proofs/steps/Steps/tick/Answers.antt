use Rattle.std.proofs.Common.{ap, ◌+◌}
use Rattle.gv_types.proofs.steps.Steps.tick.Goals as goal

pub returns : goal.returns
returns c = ap (λ n. n + 1) c.self.view_is
