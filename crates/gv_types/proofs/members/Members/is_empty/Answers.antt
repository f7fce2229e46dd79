use Rattle.gv_types.proofs.TypeLists.{no_types_in_empty}
use Rattle.gv_types.proofs.members.Members.is_empty.Goals as goal

pub returns : goal.returns
returns c = no_types_in_empty c.args.self.now.rest.now c.is_empty.result c.args.self.now.are_types c.is_empty.ensures
