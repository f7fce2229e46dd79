use Rattle.std.proofs.Common.{◌≡◌, ◌∙◌, IfOk, Result, ap, subst, sym}
use Rattle.dconf_model.specs.Databases.{settings_in}
use Rattle.dconf_model.specs.Opening.{root_of}
use Rattle.dconf_model.specs.Sound.{IsSound}
use Rattle.dconf_model.specs.Table.{Table as Region}
use Rattle.gvdb_read.specs.declared.table.Table.{Table}
use Rattle.gvdb_format.specs.declared.fault.OpenFault.{OpenFault}
use Rattle.gvdb_read.specs.Tables.{region}
use Rattle.dconf_layers.proofs.SoundLayers.{sound_root}
use Rattle.dconf_layers.proofs.layer.Layer.of_sound.Goals as goal

pub unwrap-requires : goal.unwrap-requires
unwrap-requires c = c.open.ensures.opens.1 c.requires.opens

pub of_root-requires : goal.of_root-requires
of_root-requires c =
    let file = c.args.file.now in
    let root : region c.unwrap.result ≡ root_of file = subst (λ (r : Result Table OpenFault). IfOk r (λ t. region t ≡ root_of file)) c.unwrap.ensures c.open.ensures.root in
    sound_root file c.unwrap.result c.requires.opens root (subst IsSound (sym root) c.requires.sound)

pub returns : goal.returns
returns c =
    let file = c.args.file.now in
    let root : region c.unwrap.result ≡ root_of file = subst (λ (r : Result Table OpenFault). IfOk r (λ t. region t ≡ root_of file)) c.unwrap.ensures c.open.ensures.root in
    c.of_root.ensures ∙ ap (λ (t : Region). settings_in t.file) root
