use Rattle.std.proofs.Common.{true, drop}
use Rattle.gv_syntax.specs.LexSteps.{byte_part_of}
use Rattle.gv_syntax.proofs.EscapeLaws.{part_at, begins_with_escape}
use Rattle.gv_syntax.proofs.lexing.part.byte_part.Goals as goal

pub returns-then-text-ne92-clause-part : goal.returns-then-text-ne92-clause-part
returns-then-text-ne92-clause-part c =
    let text = c.args.text.now in
    part_at true c.args.quote text (byte_part_of c.plain_part.result) c.requires.some (c.plain_part.ensures.part true (drop 1 text)) (c.plain_part.ensures.within text c.requires.some)

pub returns-then-text-ne92-clause-within : goal.returns-then-text-ne92-clause-within
returns-then-text-ne92-clause-within c = c.plain_part.ensures.within c.args.text.now c.requires.some

pub returns-clause-part : goal.returns-clause-part
returns-clause-part c =
    begins_with_escape true c.args.quote c.args.text.now (byte_part_of c.byte_escape.result) c.requires.quote c.requires.some c.if-text-ne92.false c.byte_escape.ensures.part c.byte_escape.ensures.within
