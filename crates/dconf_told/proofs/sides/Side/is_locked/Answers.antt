use Rattle.std.proofs.Common.{rules, ◌∙◌, string_bytes}
use Rattle.std.proofs.lemmas.Iterator.{YieldsList-from_slice}
use Rattle.std.proofs.lemmas.Iterator.Search.{any_from_yields_List}
use Rattle.dconf_model.specs.Locks.{covers}
use Rattle.dconf_told.proofs.RelockedLaws.{list_any-map}
use Rattle.dconf_told.proofs.sides.Side.is_locked.Goals as goal

pub returns : goal.returns
returns c =
    let path = c.args.path.now in
    any_from_yields_List (λ lock. covers (string_bytes lock) path) _ _ _ c.any.ensures.ran (YieldsList-from_slice c.args.self.locks.now c.iter.ensures.rest) (λ x b q k. search rules)
    ∙ list_any-map (λ lock. covers lock path) string_bytes c.args.self.locks.now
