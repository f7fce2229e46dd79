use Rattle.std.proofs.Common.{rules, ◌≡◌, ◌∙◌, length, sym}
use Rattle.gvdb_hash.proofs.HashFours.{at_once, four_in_sum}
use Rattle.gvdb_hash.proofs.hashing.hash_with_four.Goals as goal

pub returns : goal.returns
returns c =
    let len : length c.args.four.now ≡ 4 = search rules in
    at_once c.args.hash _ _ _ _
    ∙ sym (four_in_sum c.args.hash c.args.four.now c.signed.result c.signed-2.result c.signed-3.result c.signed-4.result len c.signed.ensures c.signed-2.ensures c.signed-3.ensures c.signed-4.ensures)
