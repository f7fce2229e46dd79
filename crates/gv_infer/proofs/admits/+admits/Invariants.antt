use Rattle.std.proofs.Common.{◌↔◌, ◌+◌, ◌*◌, drop, max}
use Rattle.gv_model.specs.Ty.{members, types_from}
use Rattle.gv_model.specs.Syntax.{levels, greatest_levels, pairs_levels}
use Rattle.gv_model.specs.Admits.{AllAdmit, Admit, KeysAdmit, ValuesAdmit}
use Rattle.gv_types.specs.TypeStr.{ty}
use Rattle.gv_types.specs.Members.{members_left}
use Rattle.gv_syntax.specs.SyntaxNodes.{nodes_of, pairs_of}
use Rattle.gv_infer.proofs.admits.+admits.Given as goal

abbrev pub decreases-admits : goal.decreases-admits
decreases-admits l = 4 * levels l.node.now

abbrev pub decreases-all_admit_one : goal.decreases-all_admit_one
decreases-all_admit_one l = 4 * greatest_levels (nodes_of l.elements.now) + 1

abbrev pub decreases-all_admit : goal.decreases-all_admit
decreases-all_admit l = 4 * greatest_levels (nodes_of l.elements.now) + 2

abbrev pub decreases-each_admits : goal.decreases-each_admits
decreases-each_admits l = 4 * greatest_levels (nodes_of l.members.now) + 1

abbrev pub decreases-all_pairs_admit : goal.decreases-all_pairs_admit
decreases-all_pairs_admit l = 4 * pairs_levels (pairs_of l.pairs.now) + 1

abbrev pub decreases-pairs_admit : goal.decreases-pairs_admit
decreases-pairs_admit l = 4 * pairs_levels (pairs_of l.pairs.now) + 2

abbrev pub decreases-entry_admits : goal.decreases-entry_admits
decreases-entry_admits l = 4 * max (levels l.key.now) (levels l.value.now) + 1

abbrev pub invariant-all_admit_one-loop-element : goal.invariant-all_admit_one-loop-element
invariant-all_admit_one-loop-element l = AllAdmit (nodes_of l.elements) (ty l.of) ↔ AllAdmit (nodes_of (drop l.element-index l.elements)) (ty l.of)

abbrev pub invariant-each_admits-loop-member : goal.invariant-each_admits-loop-member
invariant-each_admits-loop-member l = Admit (nodes_of l.members) (members (ty l.fn.of)) ↔ Admit (nodes_of (drop l.member-index l.members)) (types_from (members_left l.types))

abbrev pub invariant-all_pairs_admit-loop-key : goal.invariant-all_pairs_admit-loop-key
invariant-all_pairs_admit-loop-key l =
    (KeysAdmit (pairs_of l.pairs) (ty l.key_type) × ValuesAdmit (pairs_of l.pairs) (ty l.value_type))
    ↔ (KeysAdmit (pairs_of (drop l.key-index l.pairs)) (ty l.key_type) × ValuesAdmit (pairs_of (drop l.key-index l.pairs)) (ty l.value_type))
