use Rattle.std.proofs.Common.{rules, tests, ◌∙◌}
use Rattle.std.proofs.lemmas.Iterator.Consumers.{nth_from_yields_List}
use Rattle.std.proofs.lemmas.Iterator.Splits.{YieldsList-from_slice_split}
use Rattle.dconf_homes.proofs.dirs.dir_at.Goals as goal

pub returns : goal.returns
returns c =
    nth_from_yields_List c.nth.result c.nth.new.self c.args.number c.nth.ensures.ran
    (YieldsList-from_slice_split _ _ _ (c.split.ensures.rest ∙ c.data_or_usual.ensures) c.split.ensures.done c.split.ensures.closure (λ x r q k. search (rules, tests)))
