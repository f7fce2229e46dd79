use Rattle.std.proofs.Common.{◌≡◌, ◌++◌, ◌∙◌, List, ap}
use Rattle.std.proofs.lemmas.List.{append-nil, map-append}
use Rattle.dconf_model.specs.Order.{in_order}
use Rattle.gvdb_maps.specs.Maps.{lent_entries, path_and_bytes, Entry, values_after}
use Rattle.gvdb_maps.proofs.OrderedRows.{part_in_order}
use Rattle.gvdb_maps.proofs.HeldEntries.{LentEntry}
use Rattle.gvdb_maps.proofs.entries.move_sorted.Goals as goal

pub returns-clause-same : goal.returns-clause-same
returns-clause-same c rest =
    let old = c.args.entries.now.items in
    let more = c.sort_by_path.new.entries.items in
    let before = lent_entries old in
    let part = lent_entries c.args.stretch.now.items in
    let whole : lent_entries c.append.new.self.items ++ lent_entries c.append.new.other.items ≡ before ++ in_order (λ (e : Entry). e.0) part =
    ap (λ (l : List LentEntry). lent_entries l ++ lent_entries c.append.new.other.items) c.in_ok-append.ensures.items
    ∙ (ap (λ (l : List LentEntry). lent_entries (old ++ more) ++ lent_entries l) c.in_ok-append.ensures.other_items
    ∙ (append-nil (lent_entries (old ++ more)) ∙ (map-append path_and_bytes old more ∙ ap (λ (l : List Entry). before ++ l) c.in_ok-sort_by_path.ensures))) in
    ap (λ (l : List Entry). values_after (l ++ rest)) whole ∙ part_in_order before part rest
