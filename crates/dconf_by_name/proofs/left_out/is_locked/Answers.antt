use Rattle.std.proofs.Common.{rules, ◌∙◌}
use Rattle.std.proofs.lemmas.Iterator.{YieldsList-from_slice}
use Rattle.std.proofs.lemmas.Iterator.Search.{any_from_yields_List}
use Rattle.dconf_model.specs.Locks.{covers}
use Rattle.dconf_habits.proofs.WordLaws.{list_any-map}
use Rattle.dconf_by_name.proofs.left_out.is_locked.Goals as goal

pub returns : goal.returns
returns c =
    let path = c.args.path.now in
    any_from_yields_List (λ lock. covers lock.now path) _ _ _ c.any.ensures.ran (YieldsList-from_slice c.args.locks.now c.iter.ensures.rest) (λ x b q k. search rules)
    ∙ list_any-map (λ lock. covers lock path) (λ lock. lock.now) c.args.locks.now
