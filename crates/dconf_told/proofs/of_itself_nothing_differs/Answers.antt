use Rattle.dconf_told.proofs.ChangedLaws.{of_itself_nothing_differs}
use Rattle.dconf_told.proofs.of_itself_nothing_differs.Goals as goal

pub returns : goal.returns
returns c = of_itself_nothing_differs
