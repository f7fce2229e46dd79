use Rattle.std.proofs.Common.{length, sym}
use Rattle.gv_model.specs.Ty.{types_from}
use Rattle.gv_types.specs.Members.{members_left}
use Rattle.gv_layout.proofs.MemberLaws.{unplaced_members}
use Rattle.gv_layout.proofs.tuple.ByMembers.unplaced.Goals as goal

pub returns-in-None-clause-nowhere : goal.returns-in-None-clause-nowhere
returns-in-None-clause-nowhere c =
    let self = c.args.self.now in
    unplaced_members (length self.bytes.now) self.width self.used self.body self.bytes.now self.previous (types_from (members_left self.members)) (sym c.in-None.is)
