use Rattle.std.proofs.Common.{ap, ◌∙◌, take}
use Rattle.gv_build.proofs.Numbers.{taken_bytes}
use Rattle.gv_build.proofs.Outcomes.{wrote_same, over_same}
use Rattle.gv_build.proofs.buffer.push_number.Goals as goal

pub returns-clause-bytes : goal.returns-clause-bytes
returns-clause-bytes c =
    let same = ap (take c.args.width) c.to_le_bytes.ensures ∙ taken_bytes c.args.width c.args.n c.requires.width c.requires.number in
    wrote_same _ _ _ _ _ same c.push_bytes.ensures.bytes

pub returns-clause-fault : goal.returns-clause-fault
returns-clause-fault c =
    let same = ap (take c.args.width) c.to_le_bytes.ensures ∙ taken_bytes c.args.width c.args.n c.requires.width c.requires.number in
    over_same _ _ _ _ same c.push_bytes.ensures.fault
