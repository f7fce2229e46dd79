use Rattle.std.proofs.Common.{◌∙◌, refl}
use Rattle.dconf_layers.specs.LayerSettings.{settings_of}
use Rattle.dconf_made.proofs.MadeLaws.{told_below}
use Rattle.dconf_made.proofs.made.has_none_below.Goals as goal

pub returns-in-Ok-clause-none : goal.returns-in-Ok-clause-none
returns-in-Ok-clause-none c =
    told_below (settings_of c.args.own.now) c.as_slice.result.now c.args.directory.now c.is_nothing.result (c.in-Ok.ensures.directory refl)
    (c.as_slice.ensures.value ∙ c.in-Ok.ensures.paths) c.is_nothing.ensures
