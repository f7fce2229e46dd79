use Rattle.std.specs.Prelude.{map, string_bytes}
use Rattle.std.proofs.Common.{ap}
use Rattle.dconf_layers.specs.LayerSettings.{seen_in}
use Rattle.dconf_told.proofs.OthersLaws.{all_given}
use Rattle.dconf_told.proofs.news.told_of_all.Goals as goal

pub list-requires : goal.list-requires
list-requires c =
    all_given (seen_in c.args.before) (seen_in c.args.after) c.most_layers-count.result (map string_bytes c.as_slice.result.now) (map string_bytes c.in_ok-others.others.items)
    (ap (map string_bytes) c.as_slice.ensures.value) c.most_layers-count.ensures.before c.most_layers-count.ensures.after c.in_ok-others.ensures
