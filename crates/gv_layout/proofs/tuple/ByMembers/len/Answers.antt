use Rattle.std.proofs.Common.{inl, refl, sym, length, ◌∙◌, arith}
use Rattle.std.proofs.lemmas.Iterator.Consumers.{count_from_yields_List, YieldsList-from_first}
use Rattle.gv_types.specs.TypeStr.{ty}
use Rattle.gv_types.specs.Members.{members_left}
use Rattle.gv_layout.proofs.MemberLaws.{members-length}
use Rattle.gv_layout.proofs.tuple.ByMembers.len.Goals as goal

pub count-requires-clause-fits : goal.count-requires-clause-fits
count-requires-clause-fits c = inl (omega (arith, c.args.self.few))

pub returns : goal.returns
returns c =
    let self = c.args.self in
    count_from_yields_List self.members c.count.result c.count.ensures.ran (YieldsList-from_first ty members_left (members_left self.members) refl)
    ∙ sym (members-length (length self.bytes.now) self.body self.width self.used self.bytes.now self.previous (members_left self.members))
