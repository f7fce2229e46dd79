use Rattle.std.proofs.Common.{◌∙◌, Some, sym}
use Rattle.dconf_model.proofs.PathMaps.{no_truth}
use Rattle.dconf_layers.proofs.SoundLayers.{tables_of_root}
use Rattle.dconf_layers.proofs.layer.Layer.with_locks.Goals as goal

pub invariant_of-result : goal.invariant_of-result
invariant_of-result c = record {
  sound = ∣ tables_of_root c.args.values (Some c.args.locks) c.requires.root c.requires.locks ∣₁;
  keys_alone = λ there none h. no_truth (sym none ∙ c.has_directory_value.ensures.1 h);
}
