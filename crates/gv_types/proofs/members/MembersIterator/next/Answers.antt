use Rattle.std.proofs.Common.{arith, rules, ◌∷◌, sym, ap, ◌∙◌}
use Rattle.std.proofs.lemmas.Bool.{false≢true}
use Rattle.std.proofs.lemmas.Str.{IsCharBoundary-from_ascii}
use Rattle.gv_model.specs.TypeText.{type_at}
use Rattle.gv_types.specs.SingleTuples.{single_tuples}
use Rattle.gv_types.proofs.TypeLists.{types_are_ascii, cut_after_first, no_types_left, one_type_left}
use Rattle.gv_types.proofs.members.MembersIterator.next.Goals as goal

pub invariant_of-member : goal.invariant_of-member
invariant_of-member c =
    let h = c.if-self-gt0.true in
    record { spells_type = (c.args.self.now.alone h).spells; alone = omega (arith, (c.args.self.now.alone h).few); «open» = c.args.self.now.«open» h }

pub returns-then-self-gt0-clause-steps : goal.returns-then-self-gt0-clause-steps
returns-then-self-gt0-clause-steps c =
    let w = c.args.self.now.rest.now in
    one_type_left w (c.args.self.now.alone c.if-self-gt0.true).spells ∙ ap (λ us. type_at w ∷ us) (sym c.none.ensures)

pub returns-then-self-gt0-clause-goes : goal.returns-then-self-gt0-clause-goes
returns-then-self-gt0-clause-goes c =
    let listed = one_type_left c.args.self.now.rest.now (c.args.self.now.alone c.if-self-gt0.true).spells in
    search (rules, listed)

pub returns-in-Err-clause-steps : goal.returns-in-Err-clause-steps
returns-in-Err-clause-steps c =
    let w = c.args.self.now.rest.now in
    let stop = rw c.as_bytes.ensures.value at c.in-Err.ensures in
    let left = no_types_left w c.in-Err.field-0.rest.now c.in-Err.field-0.halt c.args.self.now.are_types stop in
    (left, left)

pub split_at-requires : goal.split_at-requires
split_at-requires c =
    let w = c.args.self.now.rest.now in
    IsCharBoundary-from_ascii w _ (types_are_ascii w c.args.self.now.are_types) (omega arith)

pub invariant_of-self : goal.invariant_of-self
invariant_of-self c =
    let read = (rw c.as_bytes.ensures.value at c.in-Ok.ensures).begins in
    record {
      are_types = (cut_after_first c.args.self.now.rest.now c.in-Ok.read.rest.now c.split_at.result.0.now c.split_at.result.1.now c.args.self.now.are_types read c.split_at.ensures.front c.split_at.ensures.back).are;
      alone = λ h. absurd (omega (arith, c.if-self-gt0.false));
      «open» = λ h. absurd (omega (arith, c.if-self-gt0.false));
    }

pub invariant_of-result : goal.invariant_of-result
invariant_of-result c =
    let w = c.args.self.now.rest.now in
    let read = rw c.as_bytes.ensures.value at c.in-Ok.ensures in
    let is = cut_after_first w c.in-Ok.read.rest.now c.split_at.result.0.now c.split_at.result.1.now c.args.self.now.are_types read.begins c.split_at.ensures.front c.split_at.ensures.back in
    record { spells_type = is.checked; alone = omega (arith, read.counted, ap single_tuples is.type); «open» = λ h. absurd (false≢true h) }

pub returns-clause-steps : goal.returns-clause-steps
returns-clause-steps c =
    let read = (rw c.as_bytes.ensures.value at c.in-Ok.ensures).begins in
    (cut_after_first c.args.self.now.rest.now c.in-Ok.read.rest.now c.split_at.result.0.now c.split_at.result.1.now c.args.self.now.are_types read c.split_at.ensures.front c.split_at.ensures.back).listed

pub returns-clause-goes : goal.returns-clause-goes
returns-clause-goes c =
    let read = (rw c.as_bytes.ensures.value at c.in-Ok.ensures).begins in
    let listed = (cut_after_first c.args.self.now.rest.now c.in-Ok.read.rest.now c.split_at.result.0.now c.split_at.result.1.now c.args.self.now.are_types read c.split_at.ensures.front c.split_at.ensures.back).listed in
    search (rules, listed)
