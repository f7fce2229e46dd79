use Rattle.std.proofs.Common.{None}
use Rattle.dconf_model.proofs.PathMaps.{no_truth}
use Rattle.dconf_layers.proofs.SoundLayers.{tables_of_root}
use Rattle.dconf_layers.proofs.layer.Layer.without_locks.Goals as goal

pub invariant_of-result : goal.invariant_of-result
invariant_of-result c = record {
  sound = ∣ tables_of_root c.args.values None c.requires.root c.requires.none ∣₁;
  keys_alone = λ there. absurd (no_truth there);
}
