-- Where the members of a tuple or an entry may lie.
use Rattle.std.specs.Prelude.{ℕ, List, length, Option, None, if◌then◌else◌}
use Rattle.gv_model.specs.Ty.{Ty, members}
use Rattle.gv_model.specs.Layout.{fixed_size}
use Rattle.gv_model.specs.Tuples.{members_end, is_other_size}

-- where the members' body ends, if one of them is known to lie anywhere
abbrev pub placed_body : Ty → List ℕ → Option ℕ
placed_body t b = if is_other_size (fixed_size t) (length b) then None else members_end (fixed_size t) (members t) b
