use Rattle.std.proofs.Common.{◌∙◌, ap}
use Rattle.std.specs.Prelude.{string_bytes}
use Rattle.std.specs.FinMap.{keys}
use Rattle.std.specs.Str.{bytes_eq}
use Rattle.std.proofs.lemmas.List.Filters.{dedup_is}
use Rattle.dconf_layers.specs.TextSets.{TextSet}
use Rattle.dconf_layers.proofs.TextSetLaws.{listed}
use Rattle.dconf_layers.proofs.texts.Texts.list.Goals as goal

pub returns : goal.returns
returns c =
    listed c.self.inside.texts.items c.sort.new.self.items c.dedup.new.self.items c.in_ok-sort.ensures.sorted c.in_ok-sort.ensures.stable
    (dedup_is (λ x y. bytes_eq (string_bytes x) (string_bytes y)) c.sort.new.self.items c.dedup.new.self.items c.dedup.ensures.filtered)
    ∙ ap (λ (s : TextSet). keys s) c.self.view_is
