use Rattle.std.proofs.Common.{arith}
use Rattle.bstr.proofs.lemmas.PieceLemmas.{piece-bounds}
use Rattle.dconf_texts.proofs.strings.read_one.Goals as goal

pub returns-in-Some-default-clause-some : goal.returns-in-Some-default-clause-some
returns-in-Some-default-clause-some c =
    let bounds = piece-bounds c.args.bytes.now c.requires in
    omega (arith, bounds.0, c.decode.ensures.size)

pub returns-in-Some-default-clause-fits : goal.returns-in-Some-default-clause-fits
returns-in-Some-default-clause-fits c =
    let bounds = piece-bounds c.args.bytes.now c.requires in
    omega (arith, bounds.2, c.decode.ensures.size)
