use Rattle.std.proofs.Common.{rules, ◌∙◌, string_bytes, sym}
use Rattle.std.specs.Cmp.Lexicographic.{slice_cmp}
use Rattle.std.specs.Ordering.{nat_cmp}
use Rattle.std.proofs.lemmas.Fn.{always_returns_same}
use Rattle.dconf_told.proofs.RelockedLaws.{found_lock}
use Rattle.dconf_told.proofs.sides.Side.has_lock.Goals as goal

pub returns : goal.returns
returns c =
    λ is. found_lock c.args.path.now c.args.self.locks.now c.binary_search_by.result c.binary_search_by.ensures.bound
    (c.binary_search_by.ensures.position (λ lock. slice_cmp nat_cmp (string_bytes lock) c.args.path.now) (always_returns_same _ _ _ (λ a r g h. (search rules, search rules))))
    (sym c.is_ok.ensures.value ∙ is)
