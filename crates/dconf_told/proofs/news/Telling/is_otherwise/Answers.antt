use Rattle.dconf_layers.specs.LayerSettings.{seen_in}
use Rattle.dconf_told.proofs.TellingLaws.{alike_told}
use Rattle.dconf_told.proofs.news.Telling.is_otherwise.Goals as goal

pub returns : goal.returns
returns c =
    alike_told (seen_in c.args.self.before) (seen_in c.args.self.after) c.args.key c.view-before.result c.view-after.result c.in_ok-alike.alike
    c.view-before.ensures.layers c.view-before.ensures.edit c.view-after.ensures.layers c.view-after.ensures.edit c.in_ok-alike.ensures
