use Rattle.std.proofs.Common.{map}
use Rattle.std.specs.String.{string_bytes}
use Rattle.std.proofs.lemmas.Result.{IfOk-weaker}
use Rattle.dconfdb_calls.proofs.SinceLaws.{found_below}
use Rattle.dconfdb_calls.proofs.since.differing_if_asked.Goals as goal

pub returns : goal.returns
returns c =
    IfOk-weaker c.differing.result _ _
    (λ paths d asked. found_below c.args.expected.now c.args.layers.now c.max-count.result (map string_bytes paths.items) _ _ c.max-count.ensures c.new-expected.ensures c.new-2.ensures d)
    c.differing.ensures
