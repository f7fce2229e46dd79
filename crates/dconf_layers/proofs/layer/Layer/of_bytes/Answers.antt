use Rattle.std.proofs.Common.{rules, ◌≡◌}
use Rattle.dconf_model.specs.Opening.{IsDatabase, root_of}
use Rattle.dconf_model.specs.Sound.{IsSound}
use Rattle.gvdb_read.specs.Tables.{region}
use Rattle.dconf_layers.proofs.SoundLayers.{layer_of, sound_root}
use Rattle.dconf_layers.proofs.layer.Layer.of_bytes.Goals as goal

pub of_root-requires : goal.of_root-requires
of_root-requires c =
    let file = c.args.file.now in
    let opens : IsDatabase file = search rules in
    let root : region c.in-Ok.values ≡ root_of file = search rules in
    let sound : IsSound (region c.in-Ok.values) = search rules in
    sound_root file c.in-Ok.values opens root sound

pub returns-clause-opens : goal.returns-clause-opens
returns-clause-opens c =
    let file = c.args.file.now in
    let opens : IsDatabase file = search rules in
    let root : region c.in-Ok.values ≡ root_of file = search rules in
    let sound : IsSound (region c.in-Ok.values) = search rules in
    layer_of file c.in-Ok.values _ opens root sound c.of_root.ensures
