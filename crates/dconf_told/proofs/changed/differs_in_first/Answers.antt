use Rattle.std.proofs.Common.{◌∙◌, List, ap, length}
use Rattle.std.specs.Prelude.{◌==◌}
use Rattle.std.specs.declared.alloc.Global.{Global}
use Rattle.std.specs.declared.string.String.{String}
use Rattle.dconf_layers.specs.LayerSettings.{seen_in, settings_of}
use Rattle.dconf_told.proofs.ChangedLaws.{first_listed}
use Rattle.dconf_told.proofs.changed.differs_in_first.Goals as goal

pub returns : goal.returns
returns c =
    first_listed c.args.was_writable (settings_of c.args.first) (seen_in c.args.after) c.in_ok-paths.paths.items c.is_empty.result
    c.in_ok-paths.ensures
    (c.is_empty.ensures ∙ ap (λ (xs : List (String Global)). length xs == 0) c.as_slice.ensures.value)
