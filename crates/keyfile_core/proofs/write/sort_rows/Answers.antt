use Rattle.std.proofs.Common.{rules}
use Rattle.std.proofs.lemmas.List.Sorted.{answers_always}
use Rattle.std.proofs.lemmas.Result.{on_ok_weaker}
use Rattle.keyfile_core.proofs.PairSort.{sorted_are_in_groups}
use Rattle.keyfile_core.proofs.write.sort_rows.Goals as goal

pub returns : goal.returns
returns c =
    let done = c.sort_by_key.ensures in
    on_ok_weaker c.sort_by_key.result
    (λ up. sorted_are_in_groups c.args.rows.now.items c.sort_by_key.new.self.items up
    (done.stable (λ row. (row.part, row.key)) (answers_always _ _ _ (λ f a r g h. search rules))))
    (on_ok_weaker c.sort_by_key.result (λ sorted. sorted (λ row. (row.part, row.key)) (answers_always _ _ _ (λ f a r g h. search rules))) done.sorted)
