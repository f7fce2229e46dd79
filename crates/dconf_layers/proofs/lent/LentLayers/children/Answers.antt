use Rattle.std.proofs.Common.{rules}
use Rattle.std.proofs.lemmas.Fn.{dedup_same}
use Rattle.std.proofs.lemmas.List.Sorted.{answers_always}
use Rattle.dconf_path.specs.Paths.{directory_text}
use Rattle.dconf_layers.specs.Children.{child_name}
use Rattle.dconf_layers.specs.LayerSettings.{seen_in}
use Rattle.dconf_layers.proofs.ChildOrder.{names_are_listed, places_are_first}
use Rattle.dconf_layers.proofs.TextSetLaws.{same_name}
use Rattle.dconf_layers.proofs.lent.LentLayers.children.Goals as goal

pub returns-clause-names : goal.returns-clause-names
returns-clause-names c =
    let sorted = c.in_ok-sort_by_key.ensures in
    names_are_listed (seen_in c.args.self).layers (directory_text c.args.directory) c.in_ok-children.children.items c.sort_by_key.new.self.items c.dedup_by_key.new.self.items c.in_ok-children.ensures
    (sorted.sorted (λ child. child.name) (answers_always _ _ _ (λ f a r g h. search rules)))
    (sorted.stable (λ child. child.name) (answers_always _ _ _ (λ f a r g h. search rules)))
    (dedup_same _ (same_name child_name) _ (λ x y b f' x' y' k. search rules) _ _ c.dedup_by_key.ensures.filtered)

pub returns-clause-places : goal.returns-clause-places
returns-clause-places c =
    let sorted = c.in_ok-sort_by_key.ensures in
    places_are_first (seen_in c.args.self).layers (directory_text c.args.directory) c.in_ok-children.children.items c.sort_by_key.new.self.items c.dedup_by_key.new.self.items c.in_ok-children.ensures
    (sorted.sorted (λ child. child.name) (answers_always _ _ _ (λ f a r g h. search rules)))
    (sorted.stable (λ child. child.name) (answers_always _ _ _ (λ f a r g h. search rules)))
    (dedup_same _ (same_name child_name) _ (λ x y b f' x' y' k. search rules) _ _ c.dedup_by_key.ensures.filtered)
