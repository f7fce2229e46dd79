use Rattle.dconf_layers.specs.LayerSettings.{seen_in}
use Rattle.dconf_told.proofs.TellingLaws.{asked_step}
use Rattle.dconf_told.proofs.news.Telling.add_asked.Goals as goal

pub loop-key-preserved : goal.loop-key-preserved
loop-key-preserved c =
    asked_step (seen_in c.args.self.before) (seen_in c.args.self.after) c.args.self.asked.now c.loop-key.key-index _ c.loop-key-test.true
    c.loop-key.paths c.add_one.new.paths _ c.loop-key.invariant c.in_ok-add_one.ensures
