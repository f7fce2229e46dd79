use Rattle.std.proofs.Common.{◌/◌, length, refl, arith}
use Rattle.gv_model.proofs.EmptyLaws.{fixed_size_pos}
use Rattle.gv_types.specs.TypeStr.{ty}
use Rattle.gv_normal.proofs.Pieces.{are_bytes}
use Rattle.gv_normal.proofs.FixedMembers.{never, told}
use Rattle.gv_normal.proofs.FixedElements.{chunk_turn, chunk_turn_values, chunks_done, chunks_normal, chunks_values, no_chunk_values, normal_chunks}
use Rattle.gv_normal.proofs.array.are_normal_fixed_elements.Goals as goal

pub nonzero_div-i-end : goal.nonzero_div-i-end
nonzero_div-i-end c = fixed_size_pos (ty c.args.element) c.args.size c.requires.size

pub returns-then-not-is_normal_fixed-clause-normal :
    goal.returns-then-not-is_normal_fixed-clause-normal
returns-then-not-is_normal_fixed-clause-normal c =
    let b = c.args.bytes.now in
    let turn = chunk_turn _ c.args.levels (ty c.args.element) c.args.size (length b / c.args.size) c.loop-i.i b c.loop-i-test.true c.loop-i.invariant.same in
    never (λ n. told c.is_normal_fixed.ensures.normal c.if-not-is_normal_fixed.true (turn.1 (normal_chunks c.args.levels (ty c.args.element) c.args.size b (are_bytes b c.type_inv.bytes) c.requires.size n).chunks).0)

pub loop-i-preserved : goal.loop-i-preserved
loop-i-preserved c =
    let b = c.args.bytes.now in
    let turn = chunk_turn _ c.args.levels (ty c.args.element) c.args.size (length b / c.args.size) c.loop-i.i b c.loop-i-test.true c.loop-i.invariant.same in
    record {
      same = (λ h. turn.0 (c.is_normal_fixed.ensures.normal.0 c.if-not-is_normal_fixed.false, h), λ w. (turn.1 w).1);
      passed = omega (arith, c.loop-i-test.true);
      few = omega (arith, c.loop-i.invariant.few, c.is_normal_fixed.ensures.few);
      grows = omega (arith, c.loop-i.invariant.grows, c.is_normal_fixed.ensures.grows);
      exact = omega (arith, c.loop-i.invariant.exact, c.is_normal_fixed.ensures.exact c.if-not-is_normal_fixed.false, chunk_turn_values (ty c.args.element) c.args.size (length b / c.args.size) c.loop-i.i b c.loop-i-test.true);
    }

pub returns-clause-normal : goal.returns-clause-normal
returns-clause-normal c =
    let b = c.args.bytes.now in
    let all = chunks_done _ c.args.levels (ty c.args.element) c.args.size (length b / c.args.size) c.loop-i.i b (omega (arith, c.loop-i-test.false)) c.loop-i.invariant.same in
    let n = chunks_normal c.args.levels (ty c.args.element) c.args.size b (are_bytes b c.type_inv.bytes) c.requires.size c.requires.even all in
    (λ h. n, λ h. refl)

pub returns-clause-exact : goal.returns-clause-exact
returns-clause-exact c = λ h.
    let b = c.args.bytes.now in
    let all = chunks_done _ c.args.levels (ty c.args.element) c.args.size (length b / c.args.size) c.loop-i.i b (omega (arith, c.loop-i-test.false)) c.loop-i.invariant.same in
    let none = no_chunk_values (ty c.args.element) c.args.size (length b / c.args.size) c.loop-i.i b (omega (arith, c.loop-i-test.false)) in
    let total = chunks_values c.args.levels (ty c.args.element) c.args.size b (are_bytes b c.type_inv.bytes) c.requires.size c.requires.even all in
    omega (arith, c.loop-i.invariant.exact, none, total)
