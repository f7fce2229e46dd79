use Rattle.std.proofs.Common.{rules, ap, ◌∙◌}
use Rattle.std.proofs.lemmas.List.Sorted.{answers_always}
use Rattle.dconf_model.proofs.OneSortedList.{in_order-map, sorted_is_in_order}
use Rattle.gvdb_maps.specs.Maps.{lent_entries, path_and_bytes, Entry}
use Rattle.gvdb_maps.proofs.HeldEntries.{LentEntry}
use Rattle.gvdb_maps.proofs.entries.sort_by_path.Goals as goal

pub returns : goal.returns
returns c =
    let sorted = c.in_ok-sort_by_key.ensures in
    ap lent_entries
    (sorted_is_in_order (λ (e : LentEntry). e.0.now) c.args.entries.now.items c.sort_by_key.new.self.items
    (sorted.sorted (λ (e : LentEntry). e.0) (answers_always _ _ _ (λ f a r g h. search rules)))
    (sorted.stable (λ (e : LentEntry). e.0) (answers_always _ _ _ (λ f a r g h. search rules))))
    ∙ in_order-map path_and_bytes (λ (e : Entry). e.0) c.args.entries.now.items
