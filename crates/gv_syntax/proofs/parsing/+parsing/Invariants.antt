use Rattle.std.proofs.Common.{◌∷◌, ◌+◌, ◌-◌, ◌*◌, length}
use Rattle.gv_syntax.specs.Expectations.{left}
use Rattle.gv_syntax.proofs.SequenceLaws.{MoreSoFar, PairsSoFar}
use Rattle.gv_syntax.proofs.parsing.+parsing.Given as goal

abbrev pub decreases-braces::braces : goal.decreases-braces::braces
decreases-braces::braces l = 8 * (129 - l.depth) + 8

abbrev pub decreases-braces::entry_of : goal.decreases-braces::entry_of
decreases-braces::entry_of l = 8 * (129 - l.depth) + 7

abbrev pub decreases-braces::pairs : goal.decreases-braces::pairs
decreases-braces::pairs l = 8 * (129 - l.depth) + 6

abbrev pub decreases-braces::push_pair : goal.decreases-braces::push_pair
decreases-braces::push_pair l = 8 * (129 - l.depth) + 5

abbrev pub decreases-sequence::elements : goal.decreases-sequence::elements
decreases-sequence::elements l = 8 * (129 - l.depth) + 6

abbrev pub decreases-sequence::members : goal.decreases-sequence::members
decreases-sequence::members l = 8 * (129 - l.depth) + 6

abbrev pub decreases-sequence::values_until : goal.decreases-sequence::values_until
decreases-sequence::values_until l = 8 * (129 - l.depth) + 5

abbrev pub decreases-value::after_first : goal.decreases-value::after_first
decreases-value::after_first l = 8 * (129 - l.depth) + 2

abbrev pub decreases-value::after_mark : goal.decreases-value::after_mark
decreases-value::after_mark l = 8 * (129 - l.depth) + 1

abbrev pub decreases-value::after_word : goal.decreases-value::after_word
decreases-value::after_word l = 8 * (129 - l.depth) + 1

abbrev pub decreases-value::value : goal.decreases-value::value
decreases-value::value l = 8 * (129 - l.depth) + 4

abbrev pub decreases-value::value_before : goal.decreases-value::value_before
decreases-value::value_before l = 8 * (129 - l.depth) + 5

abbrev pub decreases-value::value_from : goal.decreases-value::value_from
decreases-value::value_from l = 8 * (129 - l.depth) + 3

abbrev pub invariant-braces::pairs-loop-pairs : goal.invariant-braces::pairs-loop-pairs
invariant-braces::pairs-loop-pairs l = PairsSoFar l.fn.first l.fn.depth l.fn.opened (left l.fn.rest) (left l.rest) l.pairs.items

abbrev pub decreases-braces::pairs-loop-pairs : goal.decreases-braces::pairs-loop-pairs
decreases-braces::pairs-loop-pairs l = length (left l.rest)

abbrev pub invariant-sequence::values_until-loop-values :
    goal.invariant-sequence::values_until-loop-values
invariant-sequence::values_until-loop-values l = MoreSoFar l.fn.close l.fn.depth l.fn.opened (l.fn.first ∷ left l.fn.rest) (left l.rest) l.fn.values.items l.values.items

abbrev pub decreases-sequence::values_until-loop-values :
    goal.decreases-sequence::values_until-loop-values
decreases-sequence::values_until-loop-values l = length (left l.rest)
