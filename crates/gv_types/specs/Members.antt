-- The members that are left of a tuple or an entry.
use Rattle.std.specs.Prelude.{Bool, true, false, List, [], ◌∷◌}
use Rattle.gv_model.specs.Ty.{Ty}
use Rattle.gv_model.specs.Ty.Ty.{basic}
use Rattle.gv_model.specs.TypeText.{Seen, seen}
use Rattle.gv_model.specs.TypeText.Seen.{type}
use Rattle.gv_types.specs.declared.members.Members.{Members}

-- the types that occur in a text, one after the other
abbrev pub types_in : Seen → List Ty
types_in (type t s) = t ∷ types_in s
types_in _ = []

abbrev pub members_left : Members → List Ty
members_left m = types_in (seen m.rest.now)

-- whether the first type is a basic one
abbrev pub begins_with_basic : List Ty → Bool
begins_with_basic (basic k ∷ ts) = true
begins_with_basic _ = false
