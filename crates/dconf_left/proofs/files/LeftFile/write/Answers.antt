use Rattle.std.proofs.Common.{ap, ◌∙◌, ◌≡◌, ◌*◌, ◌+◌, ◌++◌, take, drop, get_or}
use Rattle.gv_model.specs.Encode.{number_bytes}
use Rattle.dconf_left.specs.Records.{numbers}
use Rattle.dconf_left.proofs.NumberLaws.{one_more}
use Rattle.dconf_left.proofs.files.LeftFile.write.Goals as goal

pub loop-index-preserved : goal.loop-index-preserved
loop-index-preserved c =
    let i = c.loop-index.index in
    let ns = numbers c.args.self.now c.args.is_synced in
    let same : c.put_number.new.room ≡ take (8 * i) c.loop-index.room ++ (number_bytes 8 (get_or ns i 0) ++ drop (8 * i + 8) c.loop-index.room) =
    c.put_number.ensures ∙ ap (λ xs. take (8 * i) c.loop-index.room ++ (number_bytes 8 (get_or xs i 0) ++ drop (8 * i + 8) c.loop-index.room)) c.numbers.ensures in
    one_more ns i c.args.room.now c.loop-index.room c.put_number.new.room c.loop-index-test.true c.loop-index.invariant same
