use Rattle.std.proofs.Common.{◌++◌, List, drop, map}
use Rattle.dconf_path.specs.Paths.{directory_text}
use Rattle.dconf_layers.specs.Children.{AreChildren, ChildRow, child_row}
use Rattle.dconf_layers.specs.LayerSettings.{seen_in}
use Rattle.dconf_layers.proofs.lent.LentLayers.listed.Given as goal

-- with what the layers have that are left it is what all have
abbrev pub invariant-loop-i : goal.invariant-loop-i
invariant-loop-i l =
    (later : List ChildRow) → AreChildren l.i (drop l.i (seen_in l.self).layers) (directory_text l.directory) later
    → AreChildren 0 (seen_in l.self).layers (directory_text l.directory) (map child_row l.children.items ++ later)
