use Rattle.std.proofs.Common.{rules, length, ◌≡◌, ◌∙◌}
use Rattle.gv_tree.proofs.BasicLaws.{eight_bytes}
use Rattle.gv_tree.proofs.basic.double_bits.Goals as goal

pub returns : goal.returns
returns c =
    let n : length c.args.bytes ≡ 8 = search rules in
    let h = eight_bytes c.args.bytes n (search rules) in (c.from_le_bytes.ensures ∙ h.0, rw (c.from_le_bytes.ensures ∙ h.0) h.1)
