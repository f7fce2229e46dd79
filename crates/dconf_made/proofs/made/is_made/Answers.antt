use Rattle.dconf_made.proofs.MadeLaws.{as_first}
use Rattle.dconf_made.proofs.made.is_made.Goals as goal

pub returns-in-Some-clause-made : goal.returns-in-Some-clause-made
returns-in-Some-clause-made c =
    as_first c.has.result c.args.layers.now c.in-Some.field-0-1.now c.in-Some.own.now c.args.writable c.args.change.now c.in-Some.ensures.cases.0
    c.if-not-writable.false c.has.ensures.has
