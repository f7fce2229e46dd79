use Rattle.std.proofs.Common.{rules, map, ap, ◌∙◌}
use Rattle.std.proofs.lemmas.List.Sorted.{answers_always}
use Rattle.dconf_model.proofs.OneSortedList.{in_order-map, sorted_is_in_order}
use Rattle.dconf_by_name.specs.Meant.{line_meant}
use Rattle.dconf_by_name.proofs.order.sort.Goals as goal

pub returns : goal.returns
returns c =
    let sorted = c.in_ok-sort_by_key.ensures in
    let lines =
    sorted_is_in_order (λ line. line.directory.now) c.args.lines.now.items c.sort_by_key.new.self.items
    (sorted.sorted (λ line. line.directory) (answers_always _ _ _ (λ f a r g h. search rules)))
    (sorted.stable (λ line. line.directory) (answers_always _ _ _ (λ f a r g h. search rules))) in
    ap (map line_meant) lines ∙ in_order-map line_meant (λ line. line.directory) c.args.lines.now.items
