use Rattle.dconf_layers.specs.LayerSettings.{seen_in}
use Rattle.dconf_model.proofs.PathMaps.{no_truth}
use Rattle.dconf_told.proofs.TellingLaws.{no_key_told, none_named}
use Rattle.dconf_told.proofs.news.Telling.add_one.Goals as goal

pub returns-in-None : goal.returns-in-None
returns-in-None c =
    let l = seen_in c.args.self.before in
    let m = seen_in c.args.self.after in
    none_named l m c.args.key c.args.paths.now (no_key_told l m c.args.key (λ k. no_truth (c.in-None.ensures.some.1 k)))
