use Rattle.std.proofs.Common.{◌∙◌, List, ap, length}
use Rattle.std.specs.Prelude.{◌==◌}
use Rattle.std.specs.declared.alloc.Global.{Global}
use Rattle.std.specs.declared.string.String.{String}
use Rattle.dconf_layers.specs.LayerSettings.{seen_in}
use Rattle.dconf_told.proofs.ChangedLaws.{all_listed}
use Rattle.dconf_told.proofs.changed.differs_in_all.Goals as goal

pub returns : goal.returns
returns c =
    all_listed (seen_in c.args.before) (seen_in c.args.after) c.most_layers-count.result c.in_ok-paths.paths.items c.is_empty.result
    c.most_layers-count.ensures.before c.most_layers-count.ensures.after c.in_ok-paths.ensures
    (c.is_empty.ensures ∙ ap (λ (xs : List (String Global)). length xs == 0) c.as_slice.ensures.value)
