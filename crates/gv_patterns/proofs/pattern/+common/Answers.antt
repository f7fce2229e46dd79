use Rattle.std.proofs.Common.{arith, ◌≡◌, ◌≤◌, ◌<◌, length, take, drop, sym, ap, ◌∙◌}
use Rattle.std.specs.Prelude.{slice_set, slice_index_or}
use Rattle.gv_patterns.specs.Forms.{patterns_of}
use Rattle.gv_patterns.specs.Orders.{common_by, each_by}
use Rattle.gv_patterns.specs.Parts.{parts, all_parts}
use Rattle.gv_patterns.proofs.PatternLists.{before, one_joined, smaller, joined_whole, joined_cut, length_kept, none_left}
use Rattle.gv_patterns.proofs.pattern.+common.Goals as goal
use Rattle.gv_patterns.proofs.pattern.+common.Goals.{common_listed-then-in_order, common_listed-else-in_order}

pub common_listed-index_mut-requires : goal.common_listed-index_mut-requires
common_listed-index_mut-requires t c = omega (arith, c.loop-other.invariant.room, c.loop-other.kept.ok.0, ap length c.in-Some.ensures.steps.0)

pub common_listed-loop-other-preserved : goal.common_listed-loop-other-preserved
unfolding parts
common_listed-loop-other-preserved t c =
    let xs = c.loop-other.kept.items in
    let i = c.loop-other.shared in
    let steps = c.in-Some.ensures.steps.0 in
    let within : i < length xs = omega (arith, c.loop-other.invariant.room, ap length steps) in
    let one : c.replace-one.result ≡ slice_index_or xs i c.replace-one.result = rw c.replace-one.ensures.value c.index_mut.ensures.value in
    let both : c.replace.new.dest ≡ common_by c.args.in_order c.replace-one.result c.in-Some.other = c.replace.ensures.after ∙ elim c.if-in_order.branch [
      | common_listed-then-in_order w ↦ w.both-is ∙ w.common-both.ensures ∙ ap (λ b. common_by b c.replace-one.result c.in-Some.other) (sym w.if-in_order.true)
      | common_listed-else-in_order w ↦ w.both-is ∙ w.common-both-else-in_order.ensures ∙ ap (λ b. common_by b c.replace-one.result c.in-Some.other) (sym w.if-in_order.false)
    ] in
    let spent = c.replace-one.new.dest in
    let rest = patterns_of c.next.new.self.rest.items in record {
      next = tt;
      finite = tt;
      room = omega (arith, length_kept xs i spent c.replace.new.dest, c.loop-other.invariant.room, ap length steps);
      small = omega (arith, c.loop-other.invariant.small, smaller xs i _ spent c.replace.new.dest within one, ap (λ l. all_parts (patterns_of l)) steps);
      joined = one_joined c.args.in_order xs i _ c.in-Some.other spent c.replace.new.dest rest within one both ∙ ap (λ l. before (take i xs) (each_by c.args.in_order (patterns_of (drop i xs)) (patterns_of l))) (sym steps) ∙ c.loop-other.invariant.joined;
    }

pub common_listed-returns-then-shared-len : goal.common_listed-returns-then-shared-len
common_listed-returns-then-shared-len t c =
    let xs = c.loop-other.kept.items in
    let i = c.loop-other.shared in
    let left = none_left c.loop-other.other-iterator.rest.items (omega (arith, c.in-None.ensures.steps.0, c.loop-other.other-iterator.rest.ok.0)) in
    let within : i < length xs = omega (arith, c.if-shared-len.true, c.len.ensures, c.loop-other.kept.ok.0) in
    ap (λ l. patterns_of (slice_set l i c.replace-then-shared-len.new.dest)) c.truncate.ensures.items
    ∙ joined_cut c.args.in_order xs i _ within (c.replace-then-shared-len.ensures.after ∙ c.never-then-shared-len.ensures)
    ∙ ap (λ r. before (take i xs) (each_by c.args.in_order (patterns_of (drop i xs)) r)) left
    ∙ c.loop-other.invariant.joined

pub common_listed-returns-else-shared-len : goal.common_listed-returns-else-shared-len
common_listed-returns-else-shared-len t c =
    let xs = c.loop-other.kept.items in
    let i = c.loop-other.shared in
    let left = none_left c.loop-other.other-iterator.rest.items (omega (arith, c.in-None.ensures.steps.0, c.loop-other.other-iterator.rest.ok.0)) in
    let over : length xs ≤ i = omega (arith, c.if-shared-len.false, c.len.ensures, c.loop-other.kept.ok.0) in
    sym (joined_whole c.args.in_order xs i over)
    ∙ ap (λ r. before (take i xs) (each_by c.args.in_order (patterns_of (drop i xs)) r)) left
    ∙ c.loop-other.invariant.joined
