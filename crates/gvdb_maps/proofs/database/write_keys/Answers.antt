use Rattle.std.proofs.Common.{List, ◌++◌, sym}
use Rattle.std.proofs.lemmas.List.{append-nil}
use Rattle.gvdb_maps.specs.declared.names.Named.{Named}
use Rattle.gvdb_maps.specs.WrittenParts.{keys_bytes}
use Rattle.gvdb_maps.proofs.Pieces.{key_appended}
use Rattle.gvdb_values.proofs.WithValues.{all_taken}
use Rattle.gvdb_maps.proofs.database.write_keys.Goals as goal

pub loop-named-init : goal.loop-named-init
loop-named-init c = sym (append-nil c.args.out.now.items)

pub loop-named-preserved : goal.loop-named-preserved
loop-named-preserved c =
    key_appended c.args.items.now c.loop-named.named-index _ c.args.out.now.items c.loop-named.out.items c.extend_from_slice.new.self.items
    c.loop-named-test.true c.loop-named.invariant c.in_ok-extend_from_slice.ensures.items

pub returns : goal.returns
returns c =
    record { bytes = all_taken (λ (ns : List Named). c.args.out.now.items ++ keys_bytes ns) c.args.items.now c.loop-named.named-index c.loop-named.out.items c.loop-named-test.false c.loop-named.invariant }
