use Rattle.std.proofs.Common.{false, drop, sym, subst}
use Rattle.gv_syntax.specs.LexSteps.{text_part_of, byte_part_of, TakesFrom, EndsInAscii, BeginsWithPart}
use Rattle.gv_syntax.proofs.EscapeLaws.{part_at, begins_with_escape, dropped_at}
use Rattle.gv_syntax.proofs.lexing.part.text_part.Goals as goal

pub in_text-requires : goal.in_text-requires
in_text-requires c = c.plain_part.ensures.ascii c.requires.ascii.1

pub returns-then-text-ne92-clause-part : goal.returns-then-text-ne92-clause-part
returns-then-text-ne92-clause-part c =
    let text = c.args.text.now in
    subst (λ p. BeginsWithPart false c.args.quote text p) (sym c.in_text.ensures)
    (part_at false c.args.quote text (byte_part_of c.plain_part.result) c.requires.ascii.0 (c.plain_part.ensures.part false (drop 1 text)) (c.plain_part.ensures.within text c.requires.ascii.0))

pub returns-then-text-ne92-clause-within : goal.returns-then-text-ne92-clause-within
returns-then-text-ne92-clause-within c = subst (λ p. TakesFrom c.args.text.now p) (sym c.in_text.ensures) (c.plain_part.ensures.within c.args.text.now c.requires.ascii.0)

pub returns-then-text-ne92-clause-ascii : goal.returns-then-text-ne92-clause-ascii
returns-then-text-ne92-clause-ascii c = subst (λ p. EndsInAscii c.args.text.now p) (sym c.in_text.ensures) (c.plain_part.ensures.end c.args.text.now c.requires.ascii.1)

pub returns-then-text-ge128-clause-part : goal.returns-then-text-ge128-clause-part
returns-then-text-ge128-clause-part c = dropped_at c.args.quote c.args.text.now c.requires.quote c.if-text-ne92.false c.if-text-ge128.true

pub returns-clause-part : goal.returns-clause-part
returns-clause-part c =
    begins_with_escape false c.args.quote c.args.text.now (text_part_of c.text_escape.result) c.requires.quote c.requires.ascii.0 c.if-text-ne92.false c.text_escape.ensures.part c.text_escape.ensures.within
