-- The latest of times.
use Rattle.std.specs.Prelude.{◌≤◌, ℕ, List, [], ◌∷◌, max, nat_le, IsTrue, refl}
use Rattle.std.specs.List.{list_all}
use Rattle.std.proofs.Common.{arith}
use Rattle.std.proofs.lemmas.Bool.{and_from, le-leb}
use Rattle.dconf_times.specs.Noted.{NoneIsLater}
use Rattle.dconf_times.specs.Times.{Note, latest_of}

pub none_is_later : NoneIsLater
none_is_later [] most all = refl
none_is_later (note ∷ more) most all =
    and_from (nat_le note.when most) (list_all (λ n. nat_le n.when most) more) (le-leb note.when most (omega (arith, all))) (none_is_later more most (omega (arith, all)))
