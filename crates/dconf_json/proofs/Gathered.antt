-- One more of what is gathered.
use Rattle.std.proofs.Common.{◌≡◌, ℕ, suc, ◌+◌, List, ◌++◌, ap, arith}
use Rattle.dconf_model.specs.Databases.{gathered}

pub gathered_more : {X : Type 0} (f : ℕ → List X) (i : ℕ) → gathered f (i + 1) ≡ gathered f i ++ f i
gathered_more f i = let next : i + 1 ≡ suc i = omega arith in ap (gathered f) next
