use Rattle.std.proofs.Common.{sym, ◌∙◌}
use Rattle.gv_types.proofs.PathLaws.{parts_go_on, parts_stop, parts_end}
use Rattle.gv_types.proofs.object_path.are_parts.Goals as goal

pub returns-then-not-may_follow : goal.returns-then-not-may_follow
returns-then-not-may_follow c =
    sym (c.loop-byte.invariant ∙ parts_stop c.loop-byte.at_slash c.args.parts.now c.loop-byte.byte-index c.loop-byte-test.true (sym c.may_follow.ensures ∙ c.if-not-may_follow.true))

pub loop-byte-preserved : goal.loop-byte-preserved
loop-byte-preserved c =
    c.loop-byte.invariant ∙ parts_go_on c.loop-byte.at_slash c.args.parts.now c.loop-byte.byte-index c.loop-byte-test.true (sym c.may_follow.ensures ∙ c.if-not-may_follow.false)

pub returns : goal.returns
returns c = sym (c.loop-byte.invariant ∙ parts_end c.loop-byte.at_slash c.args.parts.now c.loop-byte.byte-index c.loop-byte-test.false)
