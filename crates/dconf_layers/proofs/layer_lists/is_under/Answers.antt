use Rattle.std.proofs.Common.{◌∙◌, ap, ℕ, List}
use Rattle.std.proofs.lemmas.Str.Pattern.{starts_text}
use Rattle.dconf_model.specs.Locks.{is_below}
use Rattle.dconf_layers.proofs.layer_lists.is_under.Goals as goal

pub returns : goal.returns
returns c =
    starts_text c.starts_with.result c.as_str.result.now c.args.path.now c.starts_with.ensures.cases ∙ ap (λ (d : List ℕ). is_below c.args.path.now d) c.as_str.ensures
