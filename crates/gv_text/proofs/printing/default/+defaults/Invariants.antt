use Rattle.std.proofs.Common.{◌+◌, ◌*◌, ◌++◌, ◌∷◌, [], length, string_bytes}
use Rattle.gv_text.proofs.DefaultTexts.{IsTuplePart}
use Rattle.gv_text.proofs.printing.default.+defaults.Given as goal

-- A member has fewer levels left than its container. With as many left a value behind a comma comes first, then a value, its kind and its parts.

abbrev pub decreases-push_next : goal.decreases-push_next
decreases-push_next l = 3 * l.levels + 3

abbrev pub decreases-push_first : goal.decreases-push_first
decreases-push_first l = 3 * l.levels + 2

abbrev pub decreases-push_tuple_default : goal.decreases-push_tuple_default
decreases-push_tuple_default l = 3 * l.levels + 1

abbrev pub decreases-push_entry_default : goal.decreases-push_entry_default
decreases-push_entry_default l = 3 * l.levels + 1

abbrev pub decreases-push_pair : goal.decreases-push_pair
decreases-push_pair l = 3 * l.levels

-- the members so far are written, and what is left of the tuple is at the start of the rest
abbrev pub invariant-push_tuple_default-loop-rest : goal.invariant-push_tuple_default-loop-rest
invariant-push_tuple_default-loop-rest l =
    IsTuplePart l.text l.rest l.levels l.annotated (string_bytes l.fn.to ++ 40 ∷ []) (string_bytes l.to)

abbrev pub decreases-push_tuple_default-loop-rest : goal.decreases-push_tuple_default-loop-rest
decreases-push_tuple_default-loop-rest l = length l.rest
