use Rattle.std.proofs.Common.{◌≡◌, ◌∙◌, ◌+◌, ◌++◌, [], ◌∷◌, ap, sym, subst, List, take, map}
use Rattle.std.proofs.lemmas.List.{map-append}
use Rattle.dconf_model.specs.Databases.{AreLayers}
use Rattle.dconf_model.specs.Settings.{Settings}
use Rattle.dconf_layers.specs.declared.layer.Layer.{Layer}
use Rattle.dconf_layers.specs.Verdicts.{verdict_of, bytes_of_files}
use Rattle.dconf_layers.specs.LayerSettings.{settings_of}
use Rattle.dconf_engine.proofs.Opened.{opened_more, bad_at}
use Rattle.dconf_engine.proofs.engine.open_layers.Goals as goal

pub returns-in-Err-clause-fault : goal.returns-in-Err-clause-fault
returns-in-Err-clause-fault c =
    bad_at c.args.files.now c.loop-i.i (map settings_of c.loop-i.layers.items) (verdict_of c.in-Err.fault) c.loop-i-test.true c.loop-i.invariant c.in-Err.ensures.fault

pub loop-i-preserved : goal.loop-i-preserved
loop-i-preserved c =
    let ss = map settings_of c.loop-i.layers.items in
    let grown : map settings_of c.push.new.self.items ≡ ss ++ settings_of c.in-Ok.layer ∷ [] =
    ap (λ (l : List Layer). map settings_of l) c.in_ok-push-in-Ok.ensures.items ∙ map-append settings_of c.loop-i.layers.items (c.in-Ok.layer ∷ []) in
    subst (λ (l : List Settings). AreLayers (take (c.loop-i.i + 1) (bytes_of_files c.args.files.now)) l) (sym grown)
    (opened_more c.args.files.now c.loop-i.i ss (settings_of c.in-Ok.layer) c.loop-i-test.true c.loop-i.invariant c.in-Ok.ensures.opens)
