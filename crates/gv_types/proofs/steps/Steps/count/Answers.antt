use Rattle.gv_types.proofs.steps.Steps.count.Goals as goal

pub returns : goal.returns
returns c = c.self.view_is
