use Rattle.std.proofs.Common.{◌≡◌, ◌+◌, ◌*◌, ◌-◌}
use Rattle.gvdb_read.specs.Tables.{region}
use Rattle.dconf_layers.specs.Children.{names_of}
use Rattle.dconf_layers.specs.TextSets.{with_texts}
use Rattle.dconf_layers.proofs.ChildLaws.{listed_rows}
use Rattle.dconf_layers.proofs.layer.Layer.add_listed.Given as goal

-- what is left to add gives what the whole list gives
abbrev pub invariant-loop-i : goal.invariant-loop-i
invariant-loop-i l =
    with_texts (names_of (listed_rows 0 (region l.self.values) (l.list.at + 4 * l.i) (l.list.len - l.i))) l.names
    ≡ with_texts (names_of (listed_rows 0 (region l.self.values) l.list.at l.list.len)) l.initial.names
