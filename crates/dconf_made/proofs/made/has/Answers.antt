use Rattle.std.proofs.Common.{◌∙◌, sym}
use Rattle.dconf_layers.specs.LayerSettings.{settings_of}
use Rattle.dconf_made.proofs.MadeLaws.{as_directory}
use Rattle.dconf_made.proofs.made.has.Goals as goal

pub returns-then-ends_with-clause-has : goal.returns-then-ends_with-clause-has
returns-then-ends_with-clause-has c =
    as_directory c.has_none_below.result (settings_of c.args.own.now) c.args.change.now c.if-change.false
    (sym c.ends_with.ensures.value ∙ c.if-ends_with.true) c.has_none_below.ensures.none
