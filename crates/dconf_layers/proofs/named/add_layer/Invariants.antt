use Rattle.std.proofs.Common.{◌≡◌}
use Rattle.std.specs.Prelude.{filter}
use Rattle.dconf_model.specs.Locks.{is_below}
use Rattle.dconf_path.specs.Paths.{directory_text}
use Rattle.dconf_layers.specs.Entries.{entries_left}
use Rattle.dconf_layers.specs.LayerRows.{layer_paths, paths_of}
use Rattle.dconf_layers.specs.TextSets.{with_texts}
use Rattle.dconf_layers.proofs.named.add_layer.Given as goal

-- what is left to add gives what all entries give
abbrev pub invariant-loop-entry : goal.invariant-loop-entry
invariant-loop-entry l =
    with_texts (filter (λ path. is_below path (directory_text l.directory)) (paths_of (entries_left l.entry-iterator))) l.paths
    ≡ with_texts (filter (λ path. is_below path (directory_text l.directory)) (layer_paths l.layer)) l.initial.paths
