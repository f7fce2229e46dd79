use Rattle.std.proofs.Common.{◌≡◌, ◌+◌, ◌*◌, ◌-◌, ◌++◌, map}
use Rattle.gvdb_read.specs.Tables.{region}
use Rattle.dconf_layers.specs.Children.{child_row}
use Rattle.dconf_layers.proofs.ChildLaws.{listed_rows}
use Rattle.dconf_layers.proofs.layer.Layer.add_children.Given as goal

abbrev pub invariant-loop-k : goal.invariant-loop-k
invariant-loop-k l =
    map child_row l.children.items ++ listed_rows l.index (region l.self.values) (l.list.at + 4 * l.k) (l.list.len - l.k)
    ≡ map child_row l.initial.children.items ++ listed_rows l.index (region l.self.values) l.list.at l.list.len
