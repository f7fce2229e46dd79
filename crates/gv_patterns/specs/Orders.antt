-- What two patterns have in common, in either order.
use Rattle.std.specs.Prelude.{Bool, true, false}
use Rattle.gv_model.specs.Patterns.{Pattern, Patterns, common, common_each}

-- whether the first one comes first
abbrev pub common_by : Bool → Pattern → Pattern → Pattern
common_by true p q = common p q
common_by false p q = common q p

abbrev pub each_by : Bool → Patterns → Patterns → Patterns
each_by true ps qs = common_each ps qs
each_by false ps qs = common_each qs ps
