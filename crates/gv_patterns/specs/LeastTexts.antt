-- What is found in a set of types, and the text that is written for it.
use Rattle.std.specs.Prelude.{◌≡◌, ℕ, List, ◌++◌}
use Rattle.gv_model.specs.Ty.{spelling, spellings}
use Rattle.gv_model.specs.LeastTypes.{Least as TheLeast, Leasts}
use Rattle.gv_model.specs.LeastTypes.Least.{nowhere, least, many}
use Rattle.gv_model.specs.LeastTypes.Leasts.{nowhere_each, least_each, many_each}
use Rattle.gv_patterns.specs.declared.least.Found.{Found}
use Rattle.gv_patterns.specs.declared.least.Found.TheVariants.{Nowhere, Least, Many}

abbrev pub found_of : TheLeast → Found
found_of nowhere = Nowhere
found_of (least t) = Least
found_of (many t) = Many

abbrev pub found_each : Leasts → Found
found_each nowhere_each = Nowhere
found_each (least_each ts) = Least
found_each (many_each ts) = Many

-- what is found in a set of which both are parts
abbrev pub both_found : Found → Found → Found
both_found Nowhere g = Nowhere
both_found Least g = g
both_found Many Nowhere = Nowhere
both_found Many Least = Many
both_found Many Many = Many

-- the text of the type that is found was written after another
abbrev pub Spelled : TheLeast → List ℕ → List ℕ → Type 0
Spelled nowhere before after = Unit {0}
Spelled (least t) before after = after ≡ before ++ spelling t
Spelled (many t) before after = after ≡ before ++ spelling t

abbrev pub SpelledEach : Leasts → List ℕ → List ℕ → Type 0
SpelledEach nowhere_each before after = Unit {0}
SpelledEach (least_each ts) before after = after ≡ before ++ spellings ts
SpelledEach (many_each ts) before after = after ≡ before ++ spellings ts

pub record Written (l : TheLeast) (before after : List ℕ) (f : Found) : Type 0 where
  pub found : f ≡ found_of l
  pub text : Spelled l before after

pub record WrittenEach (l : Leasts) (before after : List ℕ) (f : Found) : Type 0 where
  pub found : f ≡ found_each l
  pub text : SpelledEach l before after
