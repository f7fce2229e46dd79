use Rattle.std.proofs.Common.{◌≡◌, map}
use Rattle.std.specs.Prelude.{IsTrue, nat_eq}
use Rattle.std.specs.List.{All, starts_with}
use Rattle.std.specs.Vec.Iter.{into_iter_items}
use Rattle.dconf_model.specs.Layers.{Layers}
use Rattle.dconf_model.specs.Outcomes.{dump_at}
use Rattle.dconf_path.specs.Paths.{directory_text}
use Rattle.keyfile_core.specs.DumpRows.{AreAllBelow}
use Rattle.dconf_layers.specs.Children.{seen_path}
use Rattle.dconf_commands.specs.Dumps.{IsSeen, goes_on, setting_of}
use Rattle.dconf_commands.proofs.dump_parts.DumpParts.of_keys.Given as goal

abbrev pub invariant-loop-key : goal.invariant-loop-key
invariant-loop-key l = record {
  seen : (layers : Layers) → All (IsSeen layers) l.fn.keys.items → All (IsSeen layers) (into_iter_items l.key-iterator);
  dump : (layers : Layers) → All (IsSeen layers) l.fn.keys.items
      → goes_on l.skips layers (directory_text l.directory) l.parts (map seen_path (into_iter_items l.key-iterator))
      ≡ dump_at l.skip_doubles (directory_text l.directory) layers (map seen_path l.fn.keys.items);
  left : All (λ key. IsTrue (starts_with nat_eq (seen_path key) (directory_text l.directory))) (into_iter_items l.key-iterator);
  below : AreAllBelow setting_of (directory_text l.directory) l.parts.settings.items;
}
