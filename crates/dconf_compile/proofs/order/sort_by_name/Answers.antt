use Rattle.std.proofs.Common.{rules, map, ap, ◌∙◌}
use Rattle.std.proofs.lemmas.List.Sorted.{answers_always}
use Rattle.dconf_model.proofs.OneSortedList.{in_order-map, sorted_is_in_order}
use Rattle.dconf_compile.specs.Sources.{numbered}
use Rattle.dconf_compile.proofs.order.sort_by_name.Goals as goal

pub returns : goal.returns
returns c =
    let sorted = c.in_ok-sort_by_key.ensures in
    let files =
    sorted_is_in_order (λ file. file.source.name.now) c.args.files.now.items c.sort_by_key.new.self.items
    (sorted.sorted (λ file. file.source.name) (answers_always _ _ _ (λ f a r g h. search rules)))
    (sorted.stable (λ file. file.source.name) (answers_always _ _ _ (λ f a r g h. search rules))) in
    ap (map numbered) files ∙ in_order-map numbered (λ s. s.1.name) c.args.files.now.items
