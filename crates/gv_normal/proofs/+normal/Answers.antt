use Rattle.std.proofs.Common.{rules, ◌≡◌, ◌<◌, ◌+◌, ◌-◌, ◌*◌, ◌/◌, suc, Some, None, length, take, drop, slice_range, ℕ, false, nat_lt, List, Option, refl, sym, ap, ap₂, ◌∙◌, subst, arith, eq-eqb, eqb-true}
use Rattle.std.proofs.lemmas.Bool.{false≢true}
use Rattle.std.proofs.lemmas.List.{length-take-le}
use Rattle.gv_model.specs.Ty.{Ty, spelling, spellings, members, types_from}
use Rattle.gv_model.specs.Ty.Ty.{array, maybe}
use Rattle.gv_model.specs.Layout.{round_up, offset_width}
use Rattle.gv_model.specs.Arrays.{elements_end}
use Rattle.gv_model.proofs.EmptyLaws.{fixed_size_pos}
use Rattle.gv_model.proofs.LayoutLaws.{alignment_pos}
use Rattle.gv_model.proofs.ListLaws.{types_from-listed}
use Rattle.gv_model.proofs.ValueBound.{bound_grows}
use Rattle.gv_model.proofs.MemberLaws.{HasSize}
use Rattle.gv_model.specs.Encode.{least_width}
use Rattle.gv_types.specs.TypeStr.{ty}
use Rattle.gv_types.specs.Members.{members_left}
use Rattle.gv_types.proofs.ClassLaws.{basic_class}
use Rattle.gv_layout.proofs.Sizes.{fixed_size_most, fixed_size-basic}
use Rattle.gv_layout.proofs.Widths.{width_is}
use Rattle.gv_normal.specs.InPlace.{IsNormalWithin}
use Rattle.gv_model.specs.Laws.{most_values}
use Rattle.gv_normal.specs.Tables.{member_place, offset_number}
use Rattle.gv_model.specs.Tree.{nodes}
use Rattle.gv_model.specs.Decode.{decode}
use Rattle.gv_model.proofs.ListLaws.{no_bytes}
use Rattle.gv_normal.proofs.Pieces.{are_bytes, length-piece, short_from}
use Rattle.gv_normal.proofs.PartSteps.{begins_after}
use Rattle.gv_normal.proofs.PackedParts.{some_level, normal_size}
use Rattle.gv_normal.proofs.FixedMembers.{never, told, if_some}
use Rattle.gv_normal.proofs.FixedElements.{normal_chunks, numbers_told, numbers_values, no_numbers}
use Rattle.gv_normal.proofs.OpenElements.{table_there, table_iff, table_values, element_turn, element_values, elements_done, no_more_values, offsets_fit, counted, empty_array, empty_array_values}
use Rattle.gv_normal.proofs.OpenMembers.{AreOpenFrom, open_count, open_iff, open_values, member_values, place_turn, member_turn, no_place, members_done, place_within, sized_place, AreWhole, place_whole, has_offsets}
use Rattle.gv_normal.proofs.OneChild.{fixed_just_values, held_values, nothing_values, open_just_values, nothing_normal, variant_iff, no_variant, variant_few, fixed_just, open_just, other_last}
use Rattle.gv_normal.proofs.StepBounds.{element_steps, all_elements, in_members, member_steps, all_members, members_spelled, spelled_first, spelled_some, spelled_over, some_values, bound_more}
use Rattle.gv_normal.proofs.Classed.{basic_here, basic_values}
use Rattle.gv_normal.proofs.+normal.Goals as goal

pub array::are_normal_elements-returns-in_default-clause-normal : goal.array::are_normal_elements-returns-in_default-clause-normal
array::are_normal_elements-returns-in_default-clause-normal t c =
    let b = c.args.bytes.now in
    let t' = ty c.args.element in
    let bytes = are_bytes b c.type_inv.bytes in
    never (λ n. c.in_default.ensures (table_there c.args.levels t' b bytes c.requires.some c.requires.open n).table)

pub array::are_normal_elements-number-to-requires : goal.array::are_normal_elements-number-to-requires
array::are_normal_elements-number-to-requires t c =
    let w = width_is _ c.from-width.result c.offset_width.result c.from-width.ensures c.offset_width.ensures in
    short_from c.split_at.result.1.now (c.loop-i.i * c.from-width.result) c.from-width.result w.narrow

pub array::are_normal_elements-round_up-from-requires-clause-aligned : goal.array::are_normal_elements-round_up-from-requires-clause-aligned
array::are_normal_elements-round_up-from-requires-clause-aligned t c =
    omega (arith, c.requires.aligned, alignment_pos (ty c.args.element))

pub array::are_normal_elements-returns-then-not-lies_after-clause-normal : goal.array::are_normal_elements-returns-then-not-lies_after-clause-normal
array::are_normal_elements-returns-then-not-lies_after-clause-normal t c =
    let b = c.args.bytes.now in
    let t' = ty c.args.element in
    let bytes = are_bytes b c.type_inv.bytes in
    let has = c.in-Some.ensures.1 in
    let wide = c.from-width.ensures ∙ c.offset_width.ensures in
    let back = c.split_at.ensures.back ∙ ap (λ n. drop n b) c.in-Some.ensures.0 in
    let front = c.split_at.ensures.front ∙ ap (λ n. take n b) c.in-Some.ensures.0 in
    let count = counted b c.split_at.result.1.now c.from-width.result wide back in
    let law = table_iff c.args.levels t' b bytes c.requires.open has in
    let from_is = c.round_up-from.ensures.rounded ∙ ap (λ a. round_up a c.loop-i.end) c.requires.aligned in
    let turn = element_turn _ c.args.levels t' b c.split_at.result.1.now c.split_at.result.0.now c.loop-i.i c.loop-i.end c.round_up-from.result c.number-to.result c.from-width.result wide back front (omega (arith, c.loop-i-test.true, count)) c.number-to.ensures from_is c.loop-i.invariant.same in
    never (λ n. told c.lies_after.ensures c.if-not-lies_after.true (turn.1 (law.1 n)).0.0)

pub array::are_normal_elements-returns-then-not-lies_after-clause-few : goal.array::are_normal_elements-returns-then-not-lies_after-clause-few
array::are_normal_elements-returns-then-not-lies_after-clause-few t c =
    let b = c.args.bytes.now in
    let has = c.in-Some.ensures.1 in
    let all = all_elements (length (spelling (ty c.args.element))) (length b) c.loop-i.end c.loop-i.i (omega (arith, c.loop-i.invariant.within, c.loop-i.invariant.passed, offsets_fit b has)) in
    omega (arith, c.loop-i.invariant.few, all)

pub array::are_normal_elements-is_normal_open-requires : goal.array::are_normal_elements-is_normal_open-requires
array::are_normal_elements-is_normal_open-requires t c =
    let b = c.args.bytes.now in
    let t' = ty c.args.element in
    let bytes = are_bytes b c.type_inv.bytes in
    let has = c.in-Some.ensures.1 in
    let wide = c.from-width.ensures ∙ c.offset_width.ensures in
    let back = c.split_at.ensures.back ∙ ap (λ n. drop n b) c.in-Some.ensures.0 in
    let front = c.split_at.ensures.front ∙ ap (λ n. take n b) c.in-Some.ensures.0 in
    let count = counted b c.split_at.result.1.now c.from-width.result wide back in
    let law = table_iff c.args.levels t' b bytes c.requires.open has in
    let spelled = length (spelling t') in
    let lies = c.lies_after.ensures.0 c.if-not-lies_after.false in
    let body = c.split_at.result.0.now in
    let long = length-piece body c.round_up-from.result c.number-to.result lies.within in
    let small = bound_grows (length (slice_range body c.round_up-from.result c.number-to.result)) (c.number-to.result - c.round_up-from.result) spelled (omega (arith, long)) in
    let grow = element_steps spelled c.loop-i.end c.round_up-from.result c.number-to.result c.loop-i.i (most_values (length (slice_range body c.round_up-from.result c.number-to.result)) spelled) c.round_up-from.ensures.near.0 lies.rises small in
    let ends : length body ≡ elements_end b None = ap length front ∙ length-take-le (elements_end b None) b (omega (arith, has.within)) in
    let all = all_elements spelled (length b) c.number-to.result (c.loop-i.i + 1) (omega (arith, lies.within, ends, c.loop-i-test.true, count, offsets_fit b has)) in
    let falls : 4 * c.args.levels < 4 * c.args.levels + 2 = omega arith in
    (search (rules, falls), (c.requires.open, omega (arith, c.loop-i.invariant.few, grow, all, c.requires.room)))

pub array::are_normal_elements-returns-then-not-is_normal_open-clause-normal : goal.array::are_normal_elements-returns-then-not-is_normal_open-clause-normal
array::are_normal_elements-returns-then-not-is_normal_open-clause-normal t c =
    let b = c.args.bytes.now in
    let t' = ty c.args.element in
    let bytes = are_bytes b c.type_inv.bytes in
    let has = c.in-Some.ensures.1 in
    let wide = c.from-width.ensures ∙ c.offset_width.ensures in
    let back = c.split_at.ensures.back ∙ ap (λ n. drop n b) c.in-Some.ensures.0 in
    let front = c.split_at.ensures.front ∙ ap (λ n. take n b) c.in-Some.ensures.0 in
    let count = counted b c.split_at.result.1.now c.from-width.result wide back in
    let law = table_iff c.args.levels t' b bytes c.requires.open has in
    let from_is = c.round_up-from.ensures.rounded ∙ ap (λ a. round_up a c.loop-i.end) c.requires.aligned in
    let turn = element_turn _ c.args.levels t' b c.split_at.result.1.now c.split_at.result.0.now c.loop-i.i c.loop-i.end c.round_up-from.result c.number-to.result c.from-width.result wide back front (omega (arith, c.loop-i-test.true, count)) c.number-to.ensures from_is c.loop-i.invariant.same in
    never (λ n. told c.is_normal_open.ensures.normal c.if-not-is_normal_open.true (turn.1 (law.1 n)).0.1)

pub array::are_normal_elements-returns-then-not-is_normal_open-clause-few : goal.array::are_normal_elements-returns-then-not-is_normal_open-clause-few
array::are_normal_elements-returns-then-not-is_normal_open-clause-few t c =
    let b = c.args.bytes.now in
    let t' = ty c.args.element in
    let bytes = are_bytes b c.type_inv.bytes in
    let has = c.in-Some.ensures.1 in
    let wide = c.from-width.ensures ∙ c.offset_width.ensures in
    let back = c.split_at.ensures.back ∙ ap (λ n. drop n b) c.in-Some.ensures.0 in
    let front = c.split_at.ensures.front ∙ ap (λ n. take n b) c.in-Some.ensures.0 in
    let count = counted b c.split_at.result.1.now c.from-width.result wide back in
    let law = table_iff c.args.levels t' b bytes c.requires.open has in
    let spelled = length (spelling t') in
    let lies = c.lies_after.ensures.0 c.if-not-lies_after.false in
    let body = c.split_at.result.0.now in
    let long = length-piece body c.round_up-from.result c.number-to.result lies.within in
    let small = bound_grows (length (slice_range body c.round_up-from.result c.number-to.result)) (c.number-to.result - c.round_up-from.result) spelled (omega (arith, long)) in
    let grow = element_steps spelled c.loop-i.end c.round_up-from.result c.number-to.result c.loop-i.i (most_values (length (slice_range body c.round_up-from.result c.number-to.result)) spelled) c.round_up-from.ensures.near.0 lies.rises small in
    let ends : length body ≡ elements_end b None = ap length front ∙ length-take-le (elements_end b None) b (omega (arith, has.within)) in
    let all = all_elements spelled (length b) c.number-to.result (c.loop-i.i + 1) (omega (arith, lies.within, ends, c.loop-i-test.true, count, offsets_fit b has)) in
    omega (arith, c.loop-i.invariant.few, c.is_normal_open.ensures.few, grow, all)

pub array::are_normal_elements-loop-i-preserved : goal.array::are_normal_elements-loop-i-preserved
array::are_normal_elements-loop-i-preserved t c =
    let b = c.args.bytes.now in
    let t' = ty c.args.element in
    let bytes = are_bytes b c.type_inv.bytes in
    let has = c.in-Some.ensures.1 in
    let wide = c.from-width.ensures ∙ c.offset_width.ensures in
    let back = c.split_at.ensures.back ∙ ap (λ n. drop n b) c.in-Some.ensures.0 in
    let front = c.split_at.ensures.front ∙ ap (λ n. take n b) c.in-Some.ensures.0 in
    let count = counted b c.split_at.result.1.now c.from-width.result wide back in
    let law = table_iff c.args.levels t' b bytes c.requires.open has in
    let from_is = c.round_up-from.ensures.rounded ∙ ap (λ a. round_up a c.loop-i.end) c.requires.aligned in
    let turn = element_turn _ c.args.levels t' b c.split_at.result.1.now c.split_at.result.0.now c.loop-i.i c.loop-i.end c.round_up-from.result c.number-to.result c.from-width.result wide back front (omega (arith, c.loop-i-test.true, count)) c.number-to.ensures from_is c.loop-i.invariant.same in
    let spelled = length (spelling t') in
    let lies = c.lies_after.ensures.0 c.if-not-lies_after.false in
    let body = c.split_at.result.0.now in
    let long = length-piece body c.round_up-from.result c.number-to.result lies.within in
    let small = bound_grows (length (slice_range body c.round_up-from.result c.number-to.result)) (c.number-to.result - c.round_up-from.result) spelled (omega (arith, long)) in
    let grow = element_steps spelled c.loop-i.end c.round_up-from.result c.number-to.result c.loop-i.i (most_values (length (slice_range body c.round_up-from.result c.number-to.result)) spelled) c.round_up-from.ensures.near.0 lies.rises small in
    let ends : length body ≡ elements_end b None = ap length front ∙ length-take-le (elements_end b None) b (omega (arith, has.within)) in
    let all = all_elements spelled (length b) c.number-to.result (c.loop-i.i + 1) (omega (arith, lies.within, ends, c.loop-i-test.true, count, offsets_fit b has)) in
    record {
      same = (λ h. turn.0 ((lies, c.is_normal_open.ensures.normal.0 c.if-not-is_normal_open.false), h), λ w. (turn.1 w).1);
      passed = omega (arith, c.loop-i-test.true, count);
      within = omega (arith, lies.within, ends);
      few = omega (arith, c.loop-i.invariant.few, c.is_normal_open.ensures.few, grow);
      grows = omega (arith, c.loop-i.invariant.grows, c.is_normal_open.ensures.grows);
      exact =
          let values = element_values t' b c.split_at.result.1.now body c.loop-i.i c.loop-i.end c.round_up-from.result c.number-to.result c.from-width.result wide back front (omega (arith, c.loop-i-test.true, count)) c.number-to.ensures from_is in
          omega (arith, c.loop-i.invariant.exact, c.is_normal_open.ensures.exact c.if-not-is_normal_open.false, values);
    }

pub array::are_normal_elements-returns-clause-normal : goal.array::are_normal_elements-returns-clause-normal
array::are_normal_elements-returns-clause-normal t c =
    let b = c.args.bytes.now in
    let t' = ty c.args.element in
    let bytes = are_bytes b c.type_inv.bytes in
    let has = c.in-Some.ensures.1 in
    let wide = c.from-width.ensures ∙ c.offset_width.ensures in
    let back = c.split_at.ensures.back ∙ ap (λ n. drop n b) c.in-Some.ensures.0 in
    let front = c.split_at.ensures.front ∙ ap (λ n. take n b) c.in-Some.ensures.0 in
    let count = counted b c.split_at.result.1.now c.from-width.result wide back in
    let law = table_iff c.args.levels t' b bytes c.requires.open has in
    let done = elements_done _ c.args.levels t' b c.loop-i.i c.loop-i.end has (omega (arith, c.loop-i.invariant.passed, c.loop-i-test.false, count)) c.loop-i.invariant.same in
    (λ h. law.0 (done.0 (eqb-true c.loop-i.end c.in-Some.begin h ∙ c.in-Some.ensures.0)), λ n. eq-eqb c.loop-i.end c.in-Some.begin (done.1 (law.1 n) ∙ sym c.in-Some.ensures.0))

pub array::are_normal_elements-returns-clause-exact : goal.array::are_normal_elements-returns-clause-exact
array::are_normal_elements-returns-clause-exact t c = λ h.
    let b = c.args.bytes.now in
    let t' = ty c.args.element in
    let bytes = are_bytes b c.type_inv.bytes in
    let has = c.in-Some.ensures.1 in
    let wide = c.from-width.ensures ∙ c.offset_width.ensures in
    let back = c.split_at.ensures.back ∙ ap (λ n. drop n b) c.in-Some.ensures.0 in
    let count = counted b c.split_at.result.1.now c.from-width.result wide back in
    let at_end : offset_number b ≡ c.loop-i.i = omega (arith, c.loop-i.invariant.passed, c.loop-i-test.false, count) in
    let done = elements_done _ c.args.levels t' b c.loop-i.i c.loop-i.end has at_end c.loop-i.invariant.same in
    let all = done.0 (eqb-true c.loop-i.end c.in-Some.begin h ∙ c.in-Some.ensures.0) in
    let none = no_more_values t' b c.loop-i.i c.loop-i.end at_end in
    let total = table_values c.args.levels t' b bytes c.requires.open has all in
    omega (arith, c.loop-i.invariant.exact, none, total)

pub array::are_normal_elements-returns-clause-few : goal.array::are_normal_elements-returns-clause-few
array::are_normal_elements-returns-clause-few t c =
    let b = c.args.bytes.now in
    let has = c.in-Some.ensures.1 in
    let all = all_elements (length (spelling (ty c.args.element))) (length b) c.loop-i.end c.loop-i.i (omega (arith, c.loop-i.invariant.within, c.loop-i.invariant.passed, offsets_fit b has)) in
    omega (arith, c.loop-i.invariant.few, all)

pub array::is_normal_array-returns-then-is_empty-clause-normal : goal.array::is_normal_array-returns-then-is_empty-clause-normal
array::is_normal_array-returns-then-is_empty-clause-normal t c =
    let b = c.args.bytes.now in
    let none : length b ≡ 0 = grind (arith, c.is_empty.ensures, c.if-is_empty.true) in
    let n = subst (IsNormalWithin (suc c.args.levels) (array (ty c.args.element))) (sym (no_bytes b none)) (empty_array c.args.levels (ty c.args.element)) in
    (λ h. n, λ h. refl)

pub array::is_normal_array-returns-then-is_empty-clause-exact : goal.array::is_normal_array-returns-then-is_empty-clause-exact
array::is_normal_array-returns-then-is_empty-clause-exact t c = λ h.
    let b = c.args.bytes.now in
    let none : length b ≡ 0 = grind (arith, c.is_empty.ensures, c.if-is_empty.true) in
    let one = ap (λ x. nodes (decode (array (ty c.args.element)) x)) (no_bytes b none) ∙ empty_array_values (ty c.args.element) in
    omega (arith, one)

pub array::is_normal_array-returns-then-levels-gt0-clause-exact : goal.array::is_normal_array-returns-then-levels-gt0-clause-exact
array::is_normal_array-returns-then-levels-gt0-clause-exact t c = λ h.
    let b = c.args.bytes.now in
    let e = ty c.args.element in
    let bytes = are_bytes b c.type_inv.bytes in
    let size = sym c.type_info-layout.ensures.size ∙ c.in-Some.is in
    let is = basic_class e c.in-Basic.of c.in-Basic.ensures in
    let normal = (numbers_told (c.args.levels - 1) c.args.levels e c.in-Basic.of c.in-Some.size b c.are_normal_numbers.result bytes is (omega (arith, c.if-levels-gt0.true)) size c.if-bytes-size-ne0.false c.are_normal_numbers.ensures.normal).0 h in
    omega (arith, c.are_normal_numbers.ensures.counts, numbers_values c.args.levels c.in-Some.size e c.in-Basic.of b bytes is size normal)

pub array::is_normal_array-nonzero_rem-bytes : goal.array::is_normal_array-nonzero_rem-bytes
array::is_normal_array-nonzero_rem-bytes t c =
    fixed_size_pos (ty c.args.element) c.in-Some.size (sym c.type_info-layout.ensures.size ∙ c.in-Some.is)

pub array::is_normal_array-returns-then-bytes-size-ne0-clause-normal : goal.array::is_normal_array-returns-then-bytes-size-ne0-clause-normal
array::is_normal_array-returns-then-bytes-size-ne0-clause-normal t c =
    let b = c.args.bytes.now in
    let size = sym c.type_info-layout.ensures.size ∙ c.in-Some.is in
    never (λ n. c.if-bytes-size-ne0.true (normal_chunks c.args.levels (ty c.args.element) c.in-Some.size b (are_bytes b c.type_inv.bytes) size n).even)

pub array::is_normal_array-returns-then-levels-gt0-clause-normal : goal.array::is_normal_array-returns-then-levels-gt0-clause-normal
array::is_normal_array-returns-then-levels-gt0-clause-normal t c =
    let b = c.args.bytes.now in
    let size = sym c.type_info-layout.ensures.size ∙ c.in-Some.is in
    numbers_told (c.args.levels - 1) c.args.levels (ty c.args.element) c.in-Basic.of c.in-Some.size b c.are_normal_numbers.result (are_bytes b c.type_inv.bytes)
    (basic_class (ty c.args.element) c.in-Basic.of c.in-Basic.ensures) (omega (arith, c.if-levels-gt0.true)) size c.if-bytes-size-ne0.false c.are_normal_numbers.ensures.normal

pub array::is_normal_array-returns-else-levels-gt0-clause-normal : goal.array::is_normal_array-returns-else-levels-gt0-clause-normal
array::is_normal_array-returns-else-levels-gt0-clause-normal t c =
    let b = c.args.bytes.now in
    let size = sym c.type_info-layout.ensures.size ∙ c.in-Some.is in
    let zero : c.args.levels ≡ 0 = omega (arith, c.if-levels-gt0.false) in
    let some : 0 < length b = grind (arith, c.is_empty.ensures, c.if-is_empty.false) in
    let none : nat_lt 0 c.args.levels ≡ false = grind (arith, zero) in
    (λ h. absurd (false≢true (sym none ∙ h)), λ n. absurd (no_numbers c.args.levels c.in-Some.size (ty c.args.element) b (are_bytes b c.type_inv.bytes) zero some size c.if-bytes-size-ne0.false n))

pub in_place::is_normal_open-tick-requires : goal.in_place::is_normal_open-tick-requires
in_place::is_normal_open-tick-requires t c =
    omega (arith, c.requires.room, some_values (length c.args.bytes.now) (length (spelling (ty c.args.of))) (spelled_some (ty c.args.of)))

pub in_place::is_normal_open-returns-in_default-clause-normal : goal.in_place::is_normal_open-returns-in_default-clause-normal
in_place::is_normal_open-returns-in_default-clause-normal t c =
    let zero : c.args.levels ≡ 0 = omega (arith, c.in_default.ensures) in
    never (λ n. some_level (ty c.args.of) c.args.bytes.now (subst (λ d. IsNormalWithin d (ty c.args.of) c.args.bytes.now) zero n))

pub in_place::is_normal_open-returns-in_default-clause-few : goal.in_place::is_normal_open-returns-in_default-clause-few
in_place::is_normal_open-returns-in_default-clause-few t c =
    omega (arith, c.tick.ensures, some_values (length c.args.bytes.now) (length (spelling (ty c.args.of))) (spelled_some (ty c.args.of)))

pub in_place::is_normal_open-is_normal_text-requires : goal.in_place::is_normal_open-is_normal_text-requires
in_place::is_normal_open-is_normal_text-requires t c =
    sym (fixed_size-basic (ty c.args.of) c.in-Basic.basic c.in-Basic.ensures) ∙ c.requires.open

pub in_place::is_normal_open-is_normal_variant-requires : goal.in_place::is_normal_open-is_normal_variant-requires
in_place::is_normal_open-is_normal_variant-requires t c =
    let falls : 4 * c.in-Some.below + 3 < 4 * c.args.levels = omega (arith, c.in-Some.ensures.0, c.in-Some.ensures.1) in
    (search (rules, falls), omega (arith, c.tick.ensures, c.requires.room, bound_more (length c.args.bytes.now) 1 (length (spelling (ty c.args.of))) (spelled_some (ty c.args.of))))

pub in_place::is_normal_open-is_normal_array-requires : goal.in_place::is_normal_open-is_normal_array-requires
in_place::is_normal_open-is_normal_array-requires t c =
    let over = spelled_over ty (ty c.args.of) c.element.result c.unwrap.result c.element.ensures c.unwrap.ensures in
    let same = bound_more (length c.args.bytes.now) (suc (length (spelling (ty c.unwrap.result)))) (length (spelling (ty c.args.of))) (omega (arith, over)) in
    let falls : 4 * c.in-Some.below + 3 < 4 * c.args.levels = omega (arith, c.in-Some.ensures.0, c.in-Some.ensures.1) in
    (search (rules, falls), omega (arith, c.tick.ensures, c.requires.room, same))

pub in_place::is_normal_open-is_normal_maybe-requires : goal.in_place::is_normal_open-is_normal_maybe-requires
in_place::is_normal_open-is_normal_maybe-requires t c =
    let over = spelled_over ty (ty c.args.of) c.element-in-Maybe.result c.unwrap-in-Maybe.result c.element-in-Maybe.ensures c.unwrap-in-Maybe.ensures in
    let same = bound_more (length c.args.bytes.now) (suc (length (spelling (ty c.unwrap-in-Maybe.result)))) (length (spelling (ty c.args.of))) (omega (arith, over)) in
    let falls : 4 * c.in-Some.below + 3 < 4 * c.args.levels = omega (arith, c.in-Some.ensures.0, c.in-Some.ensures.1) in
    (search (rules, falls), omega (arith, c.tick.ensures, c.requires.room, same))

pub in_place::is_normal_open-returns-in-Basic-clause-normal : goal.in_place::is_normal_open-returns-in-Basic-clause-normal
in_place::is_normal_open-returns-in-Basic-clause-normal t c =
    basic_here c.in-Some.below c.args.levels (ty c.args.of) c.in-Basic.basic c.args.bytes.now c.is_normal_text.result (basic_class (ty c.args.of) c.in-Basic.basic c.in-Basic.ensures) (omega (arith, c.in-Some.ensures.0, c.in-Some.ensures.1)) c.is_normal_text.ensures

pub in_place::is_normal_open-returns-in-Basic-clause-exact : goal.in_place::is_normal_open-returns-in-Basic-clause-exact
in_place::is_normal_open-returns-in-Basic-clause-exact t c = λ h.
    let one = basic_values (ty c.args.of) c.in-Basic.basic c.args.bytes.now (are_bytes c.args.bytes.now c.type_inv.bytes) (basic_class (ty c.args.of) c.in-Basic.basic c.in-Basic.ensures) in
    omega (arith, c.tick.ensures, one)

pub in_place::is_normal_open-returns-in-Basic-clause-few : goal.in_place::is_normal_open-returns-in-Basic-clause-few
in_place::is_normal_open-returns-in-Basic-clause-few t c =
    omega (arith, c.tick.ensures, some_values (length c.args.bytes.now) (length (spelling (ty c.args.of))) (spelled_some (ty c.args.of)))

pub in_place::is_normal_open-returns-in-Variant-clause-few : goal.in_place::is_normal_open-returns-in-Variant-clause-few
in_place::is_normal_open-returns-in-Variant-clause-few t c =
    omega (arith, c.tick.ensures, c.is_normal_variant.ensures.few, bound_more (length c.args.bytes.now) 1 (length (spelling (ty c.args.of))) (spelled_some (ty c.args.of)))

pub in_place::is_normal_open-returns-in-Array-clause-few : goal.in_place::is_normal_open-returns-in-Array-clause-few
in_place::is_normal_open-returns-in-Array-clause-few t c =
    let over = spelled_over ty (ty c.args.of) c.element.result c.unwrap.result c.element.ensures c.unwrap.ensures in
    let same = bound_more (length c.args.bytes.now) (suc (length (spelling (ty c.unwrap.result)))) (length (spelling (ty c.args.of))) (omega (arith, over)) in
    omega (arith, c.tick.ensures, c.is_normal_array.ensures.few, same)

pub in_place::is_normal_open-returns-in-Maybe-clause-few : goal.in_place::is_normal_open-returns-in-Maybe-clause-few
in_place::is_normal_open-returns-in-Maybe-clause-few t c =
    let over = spelled_over ty (ty c.args.of) c.element-in-Maybe.result c.unwrap-in-Maybe.result c.element-in-Maybe.ensures c.unwrap-in-Maybe.ensures in
    let same = bound_more (length c.args.bytes.now) (suc (length (spelling (ty c.unwrap-in-Maybe.result)))) (length (spelling (ty c.args.of))) (omega (arith, over)) in
    omega (arith, c.tick.ensures, c.is_normal_maybe.ensures.few, same)

pub in_place::is_normal_within-returns-else-bytes-size-clause-normal : goal.in_place::is_normal_within-returns-else-bytes-size-clause-normal
in_place::is_normal_within-returns-else-bytes-size-clause-normal t c =
    let b = c.args.bytes.now in
    let size : IsNormalWithin c.args.levels (ty c.args.of) b → length b ≡ c.in-Some.size = λ n. subst (λ (o : Option ℕ). HasSize o (ty c.args.of, b)) (sym c.in-Some.ensures) (normal_size c.args.levels (ty c.args.of) b (are_bytes b c.type_inv.bytes) n) in
    (λ h. absurd (c.if-bytes-size.false (eqb-true (length b) c.in-Some.size h)), λ n. absurd (c.if-bytes-size.false (size n)))

pub maybe::is_normal_maybe-returns-in_default-clause-normal : goal.maybe::is_normal_maybe-returns-in_default-clause-normal
maybe::is_normal_maybe-returns-in_default-clause-normal t c =
    let b = c.args.bytes.now in
    let n = subst (IsNormalWithin (suc c.args.levels) (maybe (ty c.args.child))) (sym (no_bytes b c.in_default.ensures.cases)) (nothing_normal c.args.levels (ty c.args.child)) in
    (λ h. n, λ h. refl)

pub maybe::is_normal_maybe-returns-in_default-clause-exact : goal.maybe::is_normal_maybe-returns-in_default-clause-exact
maybe::is_normal_maybe-returns-in_default-clause-exact t c = λ h.
    let b = c.args.bytes.now in
    let one = ap (λ x. nodes (decode (maybe (ty c.args.child)) x)) (no_bytes b c.in_default.ensures.cases) ∙ nothing_values (ty c.args.child) in
    omega (arith, one)

pub maybe::is_normal_maybe-returns-then-bytes-size-clause-exact : goal.maybe::is_normal_maybe-returns-then-bytes-size-clause-exact
maybe::is_normal_maybe-returns-then-bytes-size-clause-exact t c = λ h.
    let b = c.args.bytes.now in
    let values = fixed_just_values c.args.levels c.in-Some-fixed_size.size (ty c.args.child) b (are_bytes b c.type_inv.bytes) (sym c.in-Some-fixed_size.ensures) (c.is_normal_fixed.ensures.normal.0 h) in
    omega (arith, c.is_normal_fixed.ensures.exact h, values)

pub maybe::is_normal_maybe-returns-then-last-eq0-clause-exact : goal.maybe::is_normal_maybe-returns-then-last-eq0-clause-exact
maybe::is_normal_maybe-returns-then-last-eq0-clause-exact t c = λ h.
    let b = c.args.bytes.now in
    let values = open_just_values c.args.levels (ty c.args.child) b c.in-Some.prefix.now c.in-Some.last.now (are_bytes b c.type_inv.bytes) c.in-Some.ensures.cases.0 (sym c.in-None.ensures) c.if-last-eq0.true (c.is_normal_open.ensures.normal.0 h) in
    omega (arith, c.is_normal_open.ensures.exact h, values)

pub maybe::is_normal_maybe-returns-then-bytes-size-clause-normal : goal.maybe::is_normal_maybe-returns-then-bytes-size-clause-normal
maybe::is_normal_maybe-returns-then-bytes-size-clause-normal t c =
    let b = c.args.bytes.now in
    let bytes = are_bytes b c.type_inv.bytes in
    let law = fixed_just c.args.levels c.in-Some-fixed_size.size (ty c.args.child) b bytes (omega (arith, c.in-Some.ensures.cases.1)) (sym c.in-Some-fixed_size.ensures) in
    (λ h. law.0 (c.is_normal_fixed.ensures.normal.0 h), λ n. c.is_normal_fixed.ensures.normal.1 (law.1 n))

pub maybe::is_normal_maybe-returns-else-bytes-size-clause-normal : goal.maybe::is_normal_maybe-returns-else-bytes-size-clause-normal
maybe::is_normal_maybe-returns-else-bytes-size-clause-normal t c =
    let b = c.args.bytes.now in
    let bytes = are_bytes b c.type_inv.bytes in
    let law = fixed_just c.args.levels c.in-Some-fixed_size.size (ty c.args.child) b bytes (omega (arith, c.in-Some.ensures.cases.1)) (sym c.in-Some-fixed_size.ensures) in
    let size : IsNormalWithin (suc c.args.levels) (maybe (ty c.args.child)) b → length b ≡ c.in-Some-fixed_size.size = λ n. subst (λ (o : Option ℕ). HasSize o (ty c.args.child, b)) (sym c.in-Some-fixed_size.ensures) (normal_size c.args.levels (ty c.args.child) b bytes (law.1 n)) in
    (λ h. absurd (c.if-bytes-size.false (eqb-true (length b) c.in-Some-fixed_size.size h)), λ n. absurd (c.if-bytes-size.false (size n)))

pub maybe::is_normal_maybe-returns-then-last-eq0-clause-normal : goal.maybe::is_normal_maybe-returns-then-last-eq0-clause-normal
maybe::is_normal_maybe-returns-then-last-eq0-clause-normal t c =
    let b = c.args.bytes.now in
    let bytes = are_bytes b c.type_inv.bytes in
    let law = open_just c.args.levels (ty c.args.child) b c.in-Some.prefix.now c.in-Some.last.now bytes c.in-Some.ensures.cases.0 (sym c.in-None.ensures) c.if-last-eq0.true in
    (λ h. law.0 (c.is_normal_open.ensures.normal.0 h), λ n. c.is_normal_open.ensures.normal.1 (law.1 n))

pub maybe::is_normal_maybe-returns-else-last-eq0-clause-normal : goal.maybe::is_normal_maybe-returns-else-last-eq0-clause-normal
maybe::is_normal_maybe-returns-else-last-eq0-clause-normal t c =
    let b = c.args.bytes.now in
    let bytes = are_bytes b c.type_inv.bytes in
    let last : IsNormalWithin (suc c.args.levels) (maybe (ty c.args.child)) b → c.in-Some.last.now ≡ 0 = λ n. other_last c.args.levels (ty c.args.child) b c.in-Some.prefix.now c.in-Some.last.now bytes c.in-Some.ensures.cases.0 (sym c.in-None.ensures) n in
    (λ h. absurd (c.if-last-eq0.false (eqb-true c.in-Some.last.now 0 h)), λ n. absurd (c.if-last-eq0.false (last n)))

pub tuple::are_normal_members-loop-member-init : goal.tuple::are_normal_members-loop-member-init
tuple::are_normal_members-loop-member-init t c =
    let of = ty c.args.of in
    let n = length c.args.bytes.now in
    let same = ap types_from c.members-members.ensures ∙ types_from-listed (members of) in
    let zero : in_members (length (spellings (members of)) - length (spellings (types_from (members_left c.members-members.result)))) 0 ≡ 0 = ap (λ a. in_members a 0) (let none : length (spellings (members of)) - length (spellings (types_from (members_left c.members-members.result))) ≡ 0 = omega (arith, ap (λ ts. length (spellings ts)) same) in none) in (
      tt,
      tt,
      record {
        same = (λ h. subst (AreOpenFrom c.args.levels c.args.bytes.now (offset_width n) n 0) same h, λ h. subst (AreOpenFrom c.args.levels c.args.bytes.now (offset_width n) n 0) (sym same) h);
        within = omega arith;
        tail_within = omega arith;
        whole = (0, omega arith);
        left = omega (arith, ap (λ ts. length (spellings ts)) same);
        few = omega arith;
        grows = omega arith;
        exact = omega (arith, ap (open_values c.args.bytes.now (offset_width n) n 0) same);
      },
    )

pub tuple::are_normal_members-member_place-requires-clause-narrow : goal.tuple::are_normal_members-member_place-requires-clause-narrow
tuple::are_normal_members-member_place-requires-clause-narrow t c =
    (width_is _ c.from-width.result c.offset_width.result c.from-width.ensures c.offset_width.ensures).narrow

pub tuple::are_normal_members-member_place-requires-clause-small : goal.tuple::are_normal_members-member_place-requires-clause-small
tuple::are_normal_members-member_place-requires-clause-small t c =
    if_some (λ n. c.aligned_after-from.result + n < 18446744073709551616) c.fixed_size-size.result
    (λ n e. let small = fixed_size_most c.in-Some.member.text.now n c.in-Some.member.spells_type (sym c.fixed_size-size.ensures ∙ e) in
    omega (arith, small, (begins_after (ty c.in-Some.member) c.loop-member.end c.aligned_after-from.result c.aligned_after-from.ensures).1, c.loop-member.invariant.2.within))

pub tuple::are_normal_members-returns-in_default-member_place-clause-normal : goal.tuple::are_normal_members-returns-in_default-member_place-clause-normal
tuple::are_normal_members-returns-in_default-member_place-clause-normal t c =
    let b = c.args.bytes.now in
    let inv = c.loop-member.invariant.2 in
    let law = open_iff c.args.levels (ty c.args.of) b (are_bytes b c.type_inv.bytes) c.requires.kind c.requires.open in
    let wide = c.from-width.ensures ∙ c.offset_width.ensures in
    let from_is = c.aligned_after-from.ensures in
    let at = member_place c.from-width.result b c.loop-member.tail c.aligned_after-from.result c.fixed_size-size.result c.is_empty-is_last.result in
    let place = place_turn _ c.args.levels b (offset_width (length b)) c.from-width.result c.loop-member.tail c.loop-member.end c.aligned_after-from.result (ty c.in-Some.member) _ (members_left c.next.new.self) c.fixed_size-size.result c.is_empty-is_last.result
    c.in-Some.ensures.steps inv.same wide c.fixed_size-size.ensures from_is c.is_empty-is_last.ensures in
    never (λ n. no_place _ c.args.levels b c.loop-member.end (ty c.in-Some.member) _ at (sym c.member_place.ensures ∙ c.in_default-member_place.is) place (law.1 n))

pub tuple::are_normal_members-returns-in_default-member_place-clause-few : goal.tuple::are_normal_members-returns-in_default-member_place-clause-few
tuple::are_normal_members-returns-in_default-member_place-clause-few t c =
    let inv = c.loop-member.invariant.2 in
    let all = all_members (length (spellings (members (ty c.args.of))) - length (spellings (types_from (members_left c.loop-member.members)))) (length (spelling (ty c.args.of))) (length c.args.bytes.now) c.loop-member.end (omega (arith, members_spelled (ty c.args.of) c.requires.kind)) inv.within in
    omega (arith, inv.few, all)

pub tuple::are_normal_members-lies_after-requires : goal.tuple::are_normal_members-lies_after-requires
tuple::are_normal_members-lies_after-requires t c =
    (begins_after (ty c.in-Some.member) c.loop-member.end c.aligned_after-from.result c.aligned_after-from.ensures).0

pub tuple::are_normal_members-returns-then-not-lies_after-clause-normal : goal.tuple::are_normal_members-returns-then-not-lies_after-clause-normal
tuple::are_normal_members-returns-then-not-lies_after-clause-normal t c =
    let b = c.args.bytes.now in
    let inv = c.loop-member.invariant.2 in
    let law = open_iff c.args.levels (ty c.args.of) b (are_bytes b c.type_inv.bytes) c.requires.kind c.requires.open in
    let wide = c.from-width.ensures ∙ c.offset_width.ensures in
    let from_is = c.aligned_after-from.ensures in
    let at = member_place c.from-width.result b c.loop-member.tail c.aligned_after-from.result c.fixed_size-size.result c.is_empty-is_last.result in
    let place = place_turn _ c.args.levels b (offset_width (length b)) c.from-width.result c.loop-member.tail c.loop-member.end c.aligned_after-from.result (ty c.in-Some.member) _ (members_left c.next.new.self) c.fixed_size-size.result c.is_empty-is_last.result
    c.in-Some.ensures.steps inv.same wide c.fixed_size-size.ensures from_is c.is_empty-is_last.ensures in
    let is = sym c.member_place.ensures ∙ c.in-Some-member_place.is in
    let turn = member_turn _ c.args.levels b (offset_width (length b)) c.loop-member.end c.aligned_after-from.result c.in-Some-member_place.to c.in-Some-member_place.before (ty c.in-Some.member) (members_left c.next.new.self) at is from_is place in
    never (λ n. told c.lies_after.ensures c.if-not-lies_after.true (turn.1 (law.1 n)).0.0)

pub tuple::are_normal_members-returns-then-not-lies_after-clause-few : goal.tuple::are_normal_members-returns-then-not-lies_after-clause-few
tuple::are_normal_members-returns-then-not-lies_after-clause-few t c =
    let inv = c.loop-member.invariant.2 in
    let all = all_members (length (spellings (members (ty c.args.of))) - length (spellings (types_from (members_left c.loop-member.members)))) (length (spelling (ty c.args.of))) (length c.args.bytes.now) c.loop-member.end (omega (arith, members_spelled (ty c.args.of) c.requires.kind)) inv.within in
    omega (arith, inv.few, all)

pub tuple::are_normal_members-is_normal_member-requires : goal.tuple::are_normal_members-is_normal_member-requires
tuple::are_normal_members-is_normal_member-requires t c =
    let b = c.args.bytes.now in
    let inv = c.loop-member.invariant.2 in
    let law = open_iff c.args.levels (ty c.args.of) b (are_bytes b c.type_inv.bytes) c.requires.kind c.requires.open in
    let wide = c.from-width.ensures ∙ c.offset_width.ensures in
    let from_is = c.aligned_after-from.ensures in
    let at = member_place c.from-width.result b c.loop-member.tail c.aligned_after-from.result c.fixed_size-size.result c.is_empty-is_last.result in
    let place = place_turn _ c.args.levels b (offset_width (length b)) c.from-width.result c.loop-member.tail c.loop-member.end c.aligned_after-from.result (ty c.in-Some.member) _ (members_left c.next.new.self) c.fixed_size-size.result c.is_empty-is_last.result
    c.in-Some.ensures.steps inv.same wide c.fixed_size-size.ensures from_is c.is_empty-is_last.ensures in
    let is = sym c.member_place.ensures ∙ c.in-Some-member_place.is in
    let turn = member_turn _ c.args.levels b (offset_width (length b)) c.loop-member.end c.aligned_after-from.result c.in-Some-member_place.to c.in-Some-member_place.before (ty c.in-Some.member) (members_left c.next.new.self) at is from_is place in
    let lies = c.lies_after.ensures.0 c.if-not-lies_after.false in
    let all_text = length (spellings (members (ty c.args.of))) in
    let left_text = length (spellings (types_from (members_left c.loop-member.members))) in
    let next_text = length (spellings (types_from (members_left c.next.new.self))) in
    let own_text = length (spelling (ty c.in-Some.member)) in
    let texts : left_text ≡ own_text + next_text = ap (λ ts. length (spellings (types_from ts))) c.in-Some.ensures.steps ∙ spelled_first (ty c.in-Some.member) (members_left c.next.new.self) in
    let part = slice_range c.args.bytes.now c.aligned_after-from.result c.in-Some-member_place.to in
    let long = length-piece c.args.bytes.now c.aligned_after-from.result c.in-Some-member_place.to lies.within in
    let small = bound_grows (length part) (c.in-Some-member_place.to - c.aligned_after-from.result) own_text (omega (arith, long)) in
    let grow = member_steps (all_text - left_text) own_text c.loop-member.end c.aligned_after-from.result c.in-Some-member_place.to (most_values (length part) own_text) (begins_after (ty c.in-Some.member) c.loop-member.end c.aligned_after-from.result c.aligned_after-from.ensures).0 lies.rises small in
    let moved : in_members (own_text + (all_text - left_text)) c.in-Some-member_place.to ≡ in_members (all_text - next_text) c.in-Some-member_place.to = ap (λ a. in_members a c.in-Some-member_place.to) (let sum : own_text + (all_text - left_text) ≡ all_text - next_text = omega (arith, texts, c.loop-member.invariant.2.left) in sum) in
    let all = all_members (all_text - next_text) (length (spelling (ty c.args.of))) (length c.args.bytes.now) c.in-Some-member_place.to (omega (arith, members_spelled (ty c.args.of) c.requires.kind)) lies.within in
    let falls : 4 * c.args.levels + 1 < 4 * c.args.levels + 3 = omega arith in
    let fits = if_some (λ n. length part ≡ n) c.fixed_size-size.result (λ n e. let to_is = sized_place c.from-width.result b c.loop-member.tail c.aligned_after-from.result c.in-Some-member_place.to c.in-Some-member_place.before n c.fixed_size-size.result c.is_empty-is_last.result is e in omega (arith, to_is, long)) in
    (search (rules, falls), (sym c.fixed_size-size.ensures, (fits, omega (arith, inv.few, grow, moved, all, c.requires.room))))

pub tuple::are_normal_members-returns-then-not-is_normal_member-clause-normal : goal.tuple::are_normal_members-returns-then-not-is_normal_member-clause-normal
tuple::are_normal_members-returns-then-not-is_normal_member-clause-normal t c =
    let b = c.args.bytes.now in
    let inv = c.loop-member.invariant.2 in
    let law = open_iff c.args.levels (ty c.args.of) b (are_bytes b c.type_inv.bytes) c.requires.kind c.requires.open in
    let wide = c.from-width.ensures ∙ c.offset_width.ensures in
    let from_is = c.aligned_after-from.ensures in
    let at = member_place c.from-width.result b c.loop-member.tail c.aligned_after-from.result c.fixed_size-size.result c.is_empty-is_last.result in
    let place = place_turn _ c.args.levels b (offset_width (length b)) c.from-width.result c.loop-member.tail c.loop-member.end c.aligned_after-from.result (ty c.in-Some.member) _ (members_left c.next.new.self) c.fixed_size-size.result c.is_empty-is_last.result
    c.in-Some.ensures.steps inv.same wide c.fixed_size-size.ensures from_is c.is_empty-is_last.ensures in
    let is = sym c.member_place.ensures ∙ c.in-Some-member_place.is in
    let turn = member_turn _ c.args.levels b (offset_width (length b)) c.loop-member.end c.aligned_after-from.result c.in-Some-member_place.to c.in-Some-member_place.before (ty c.in-Some.member) (members_left c.next.new.self) at is from_is place in
    never (λ n. told c.is_normal_member.ensures.normal c.if-not-is_normal_member.true (turn.1 (law.1 n)).0.1)

pub tuple::are_normal_members-returns-then-not-is_normal_member-clause-few : goal.tuple::are_normal_members-returns-then-not-is_normal_member-clause-few
tuple::are_normal_members-returns-then-not-is_normal_member-clause-few t c =
    let lies = c.lies_after.ensures.0 c.if-not-lies_after.false in
    let all_text = length (spellings (members (ty c.args.of))) in
    let left_text = length (spellings (types_from (members_left c.loop-member.members))) in
    let next_text = length (spellings (types_from (members_left c.next.new.self))) in
    let own_text = length (spelling (ty c.in-Some.member)) in
    let texts : left_text ≡ own_text + next_text = ap (λ ts. length (spellings (types_from ts))) c.in-Some.ensures.steps ∙ spelled_first (ty c.in-Some.member) (members_left c.next.new.self) in
    let part = slice_range c.args.bytes.now c.aligned_after-from.result c.in-Some-member_place.to in
    let long = length-piece c.args.bytes.now c.aligned_after-from.result c.in-Some-member_place.to lies.within in
    let small = bound_grows (length part) (c.in-Some-member_place.to - c.aligned_after-from.result) own_text (omega (arith, long)) in
    let grow = member_steps (all_text - left_text) own_text c.loop-member.end c.aligned_after-from.result c.in-Some-member_place.to (most_values (length part) own_text) (begins_after (ty c.in-Some.member) c.loop-member.end c.aligned_after-from.result c.aligned_after-from.ensures).0 lies.rises small in
    let moved : in_members (own_text + (all_text - left_text)) c.in-Some-member_place.to ≡ in_members (all_text - next_text) c.in-Some-member_place.to = ap (λ a. in_members a c.in-Some-member_place.to) (let sum : own_text + (all_text - left_text) ≡ all_text - next_text = omega (arith, texts, c.loop-member.invariant.2.left) in sum) in
    let all = all_members (all_text - next_text) (length (spelling (ty c.args.of))) (length c.args.bytes.now) c.in-Some-member_place.to (omega (arith, members_spelled (ty c.args.of) c.requires.kind)) lies.within in
    omega (arith, c.loop-member.invariant.2.few, c.is_normal_member.ensures.few, grow, moved, all)

pub tuple::are_normal_members-loop-member-preserved : goal.tuple::are_normal_members-loop-member-preserved
tuple::are_normal_members-loop-member-preserved t c =
    let b = c.args.bytes.now in
    let inv = c.loop-member.invariant.2 in
    let law = open_iff c.args.levels (ty c.args.of) b (are_bytes b c.type_inv.bytes) c.requires.kind c.requires.open in
    let wide = c.from-width.ensures ∙ c.offset_width.ensures in
    let from_is = c.aligned_after-from.ensures in
    let at = member_place c.from-width.result b c.loop-member.tail c.aligned_after-from.result c.fixed_size-size.result c.is_empty-is_last.result in
    let place = place_turn _ c.args.levels b (offset_width (length b)) c.from-width.result c.loop-member.tail c.loop-member.end c.aligned_after-from.result (ty c.in-Some.member) _ (members_left c.next.new.self) c.fixed_size-size.result c.is_empty-is_last.result
    c.in-Some.ensures.steps inv.same wide c.fixed_size-size.ensures from_is c.is_empty-is_last.ensures in
    let is = sym c.member_place.ensures ∙ c.in-Some-member_place.is in
    let turn = member_turn _ c.args.levels b (offset_width (length b)) c.loop-member.end c.aligned_after-from.result c.in-Some-member_place.to c.in-Some-member_place.before (ty c.in-Some.member) (members_left c.next.new.self) at is from_is place in
    let lies = c.lies_after.ensures.0 c.if-not-lies_after.false in
    let all_text = length (spellings (members (ty c.args.of))) in
    let left_text = length (spellings (types_from (members_left c.loop-member.members))) in
    let next_text = length (spellings (types_from (members_left c.next.new.self))) in
    let own_text = length (spelling (ty c.in-Some.member)) in
    let texts : left_text ≡ own_text + next_text = ap (λ ts. length (spellings (types_from ts))) c.in-Some.ensures.steps ∙ spelled_first (ty c.in-Some.member) (members_left c.next.new.self) in
    let part = slice_range c.args.bytes.now c.aligned_after-from.result c.in-Some-member_place.to in
    let long = length-piece c.args.bytes.now c.aligned_after-from.result c.in-Some-member_place.to lies.within in
    let small = bound_grows (length part) (c.in-Some-member_place.to - c.aligned_after-from.result) own_text (omega (arith, long)) in
    let grow = member_steps (all_text - left_text) own_text c.loop-member.end c.aligned_after-from.result c.in-Some-member_place.to (most_values (length part) own_text) (begins_after (ty c.in-Some.member) c.loop-member.end c.aligned_after-from.result c.aligned_after-from.ensures).0 lies.rises small in
    let moved : in_members (own_text + (all_text - left_text)) c.in-Some-member_place.to ≡ in_members (all_text - next_text) c.in-Some-member_place.to = ap (λ a. in_members a c.in-Some-member_place.to) (let sum : own_text + (all_text - left_text) ≡ all_text - next_text = omega (arith, texts, c.loop-member.invariant.2.left) in sum) in
    let all = all_members (all_text - next_text) (length (spelling (ty c.args.of))) (length c.args.bytes.now) c.in-Some-member_place.to (omega (arith, members_spelled (ty c.args.of) c.requires.kind)) lies.within in
    let tail_within = place_within c.from-width.result b c.loop-member.tail c.aligned_after-from.result c.in-Some-member_place.to c.in-Some-member_place.before c.fixed_size-size.result c.is_empty-is_last.result is in
    let whole = place_whole c.from-width.result (length b) b c.loop-member.tail c.aligned_after-from.result c.in-Some-member_place.to c.in-Some-member_place.before c.fixed_size-size.result c.is_empty-is_last.result is (subst (λ w. AreWhole w (length b) c.loop-member.tail) (sym wide) inv.whole) in (
      tt,
      tt,
      record {
        same = (λ h. turn.0 ((lies, c.is_normal_member.ensures.normal.0 c.if-not-is_normal_member.false), h), λ w. (turn.1 w).1);
        within = lies.within;
        tail_within = omega (arith, tail_within, inv.tail_within);
        whole = subst (λ w. AreWhole w (length b) c.in-Some-member_place.before) wide whole;
        left = omega (arith, texts, inv.left);
        few = omega (arith, inv.few, c.is_normal_member.ensures.few, grow, moved);
        grows = omega (arith, inv.grows, c.is_normal_member.ensures.grows);
        exact =
            let values = member_values b (offset_width (length b)) c.from-width.result c.loop-member.tail c.loop-member.end c.aligned_after-from.result c.in-Some-member_place.to c.in-Some-member_place.before (ty c.in-Some.member) _ (members_left c.next.new.self) c.fixed_size-size.result c.is_empty-is_last.result
            c.in-Some.ensures.steps wide c.fixed_size-size.ensures from_is c.is_empty-is_last.ensures is in
            omega (arith, inv.exact, c.is_normal_member.ensures.exact c.if-not-is_normal_member.false, values);
      },
    )

pub tuple::are_normal_members-nonzero_div-bytes : goal.tuple::are_normal_members-nonzero_div-bytes
tuple::are_normal_members-nonzero_div-bytes t c =
    let less : c.loop-member.tail < length c.args.bytes.now = omega (arith, c.loop-member.invariant.2.tail_within, c.if-tail-bytes.false) in
    let pos : 0 < c.from-width.result = (width_is _ c.from-width.result c.offset_width.result c.from-width.ensures c.offset_width.ensures).some (omega (arith, less)) in
    pos

pub tuple::are_normal_members-is_narrow-requires-clause-wide : goal.tuple::are_normal_members-is_narrow-requires-clause-wide
tuple::are_normal_members-is_narrow-requires-clause-wide t c =
    let less : c.loop-member.tail < length c.args.bytes.now = omega (arith, c.loop-member.invariant.2.tail_within, c.if-tail-bytes.false) in
    let pos : 0 < c.from-width.result = (width_is _ c.from-width.result c.offset_width.result c.from-width.ensures c.offset_width.ensures).some (omega (arith, less)) in
    pos

pub tuple::are_normal_members-is_narrow-requires-clause-some : goal.tuple::are_normal_members-is_narrow-requires-clause-some
tuple::are_normal_members-is_narrow-requires-clause-some t c =
    let less : c.loop-member.tail < length c.args.bytes.now = omega (arith, c.loop-member.invariant.2.tail_within, c.if-tail-bytes.false) in
    let pos : 0 < c.from-width.result = (width_is _ c.from-width.result c.offset_width.result c.from-width.ensures c.offset_width.ensures).some (omega (arith, less)) in
    let has = has_offsets c.from-width.result (length c.args.bytes.now) c.loop-member.tail c.loop-member.end (c.from-width.ensures ∙ c.offset_width.ensures) pos less c.if-end-tail.true c.loop-member.invariant.2.whole in
    has.some

pub tuple::are_normal_members-is_narrow-requires-clause-width : goal.tuple::are_normal_members-is_narrow-requires-clause-width
tuple::are_normal_members-is_narrow-requires-clause-width t c =
    let less : c.loop-member.tail < length c.args.bytes.now = omega (arith, c.loop-member.invariant.2.tail_within, c.if-tail-bytes.false) in
    let pos : 0 < c.from-width.result = (width_is _ c.from-width.result c.offset_width.result c.from-width.ensures c.offset_width.ensures).some (omega (arith, less)) in
    let has = has_offsets c.from-width.result (length c.args.bytes.now) c.loop-member.tail c.loop-member.end (c.from-width.ensures ∙ c.offset_width.ensures) pos less c.if-end-tail.true c.loop-member.invariant.2.whole in
    has.width

pub tuple::are_normal_members-returns-then-tail-bytes-clause-normal : goal.tuple::are_normal_members-returns-then-tail-bytes-clause-normal
tuple::are_normal_members-returns-then-tail-bytes-clause-normal t c =
    let b = c.args.bytes.now in
    let inv = c.loop-member.invariant.2 in
    let law = open_iff c.args.levels (ty c.args.of) b (are_bytes b c.type_inv.bytes) c.requires.kind c.requires.open in
    let done = members_done _ c.args.levels b (offset_width (length b)) c.loop-member.tail c.loop-member.end _ c.in_default.ensures.steps.0 inv.same in
    let n = law.0 (done.0 (record { full = c.if-end-tail.true; narrow = λ less. absurd (omega (arith, less, c.if-tail-bytes.true)) })) in
    (λ h. n, λ h. eq-eqb c.loop-member.tail (length b) c.if-tail-bytes.true)

pub tuple::are_normal_members-returns-then-tail-bytes-clause-exact : goal.tuple::are_normal_members-returns-then-tail-bytes-clause-exact
tuple::are_normal_members-returns-then-tail-bytes-clause-exact t c = λ h.
    let b = c.args.bytes.now in
    let inv = c.loop-member.invariant.2 in
    let wide = c.from-width.ensures ∙ c.offset_width.ensures in
    let done = members_done _ c.args.levels b (offset_width (length b)) c.loop-member.tail c.loop-member.end _ c.in_default.ensures.steps.0 inv.same in
    let lie = done.0 (record { full = c.if-end-tail.true; narrow = λ less. absurd (omega (arith, less, c.if-tail-bytes.true)) }) in
    let total = open_count c.args.levels (ty c.args.of) b (are_bytes b c.type_inv.bytes) c.requires.kind c.requires.open lie in
    let none = ap (λ ts. open_values b (offset_width (length b)) c.loop-member.tail c.loop-member.end (types_from ts)) c.in_default.ensures.steps.0 in
    omega (arith, inv.exact, total, none)

pub tuple::are_normal_members-returns-then-tail-bytes-clause-few : goal.tuple::are_normal_members-returns-then-tail-bytes-clause-few
tuple::are_normal_members-returns-then-tail-bytes-clause-few t c =
    let inv = c.loop-member.invariant.2 in
    let all = all_members (length (spellings (members (ty c.args.of))) - length (spellings (types_from (members_left c.loop-member.members)))) (length (spelling (ty c.args.of))) (length c.args.bytes.now) c.loop-member.end (omega (arith, members_spelled (ty c.args.of) c.requires.kind)) inv.within in
    omega (arith, inv.few, all)

pub tuple::are_normal_members-returns-else-tail-bytes-clause-normal : goal.tuple::are_normal_members-returns-else-tail-bytes-clause-normal
tuple::are_normal_members-returns-else-tail-bytes-clause-normal t c =
    let b = c.args.bytes.now in
    let inv = c.loop-member.invariant.2 in
    let law = open_iff c.args.levels (ty c.args.of) b (are_bytes b c.type_inv.bytes) c.requires.kind c.requires.open in
    let done = members_done _ c.args.levels b (offset_width (length b)) c.loop-member.tail c.loop-member.end _ c.in_default.ensures.steps.0 inv.same in
    let wide = c.from-width.ensures ∙ c.offset_width.ensures in
    let least : ℕ → Type 0 = λ w. least_width c.loop-member.end ((length b - c.loop-member.tail) / w) ≡ w in
    let less : c.loop-member.tail < length b = omega (arith, inv.tail_within, c.if-tail-bytes.false) in (
      λ h. law.0 (done.0 (record { full = c.if-end-tail.true; narrow = λ more. subst least wide (c.is_narrow.ensures.0 h) })),
      λ n. c.is_narrow.ensures.1 (subst least (sym wide) ((done.1 (law.1 n)).narrow less)),
    )

pub tuple::are_normal_members-returns-else-tail-bytes-clause-exact : goal.tuple::are_normal_members-returns-else-tail-bytes-clause-exact
tuple::are_normal_members-returns-else-tail-bytes-clause-exact t c = λ h.
    let b = c.args.bytes.now in
    let inv = c.loop-member.invariant.2 in
    let wide = c.from-width.ensures ∙ c.offset_width.ensures in
    let done = members_done _ c.args.levels b (offset_width (length b)) c.loop-member.tail c.loop-member.end _ c.in_default.ensures.steps.0 inv.same in
    let least : ℕ → Type 0 = λ w. least_width c.loop-member.end ((length b - c.loop-member.tail) / w) ≡ w in
    let lie = done.0 (record { full = c.if-end-tail.true; narrow = λ more. subst least wide (c.is_narrow.ensures.0 h) }) in
    let total = open_count c.args.levels (ty c.args.of) b (are_bytes b c.type_inv.bytes) c.requires.kind c.requires.open lie in
    let none = ap (λ ts. open_values b (offset_width (length b)) c.loop-member.tail c.loop-member.end (types_from ts)) c.in_default.ensures.steps.0 in
    omega (arith, inv.exact, total, none)

pub tuple::are_normal_members-returns-else-tail-bytes-clause-few : goal.tuple::are_normal_members-returns-else-tail-bytes-clause-few
tuple::are_normal_members-returns-else-tail-bytes-clause-few t c =
    let inv = c.loop-member.invariant.2 in
    let all = all_members (length (spellings (members (ty c.args.of))) - length (spellings (types_from (members_left c.loop-member.members)))) (length (spelling (ty c.args.of))) (length c.args.bytes.now) c.loop-member.end (omega (arith, members_spelled (ty c.args.of) c.requires.kind)) inv.within in
    omega (arith, inv.few, all)

pub tuple::are_normal_members-returns-else-end-tail-clause-normal : goal.tuple::are_normal_members-returns-else-end-tail-clause-normal
tuple::are_normal_members-returns-else-end-tail-clause-normal t c =
    let b = c.args.bytes.now in
    let inv = c.loop-member.invariant.2 in
    let law = open_iff c.args.levels (ty c.args.of) b (are_bytes b c.type_inv.bytes) c.requires.kind c.requires.open in
    let done = members_done _ c.args.levels b (offset_width (length b)) c.loop-member.tail c.loop-member.end _ c.in_default.ensures.steps.0 inv.same in
    (λ h. absurd (c.if-end-tail.false (eqb-true c.loop-member.end c.loop-member.tail h)), λ n. absurd (c.if-end-tail.false (done.1 (law.1 n)).full))

pub tuple::are_normal_members-returns-else-end-tail-clause-few : goal.tuple::are_normal_members-returns-else-end-tail-clause-few
tuple::are_normal_members-returns-else-end-tail-clause-few t c =
    let inv = c.loop-member.invariant.2 in
    let all = all_members (length (spellings (members (ty c.args.of))) - length (spellings (types_from (members_left c.loop-member.members)))) (length (spelling (ty c.args.of))) (length c.args.bytes.now) c.loop-member.end (omega (arith, members_spelled (ty c.args.of) c.requires.kind)) inv.within in
    omega (arith, inv.few, all)

pub variant::is_normal_variant-is_normal_within-requires : goal.variant::is_normal_variant-is_normal_within-requires
variant::is_normal_variant-is_normal_within-requires t c =
    let b = c.args.bytes.now in
    let here = ap₂ (λ (t : Ty) (x : List ℕ). let p : Ty × List ℕ = (t, x) in Some p) (ap ty c.type_str.ensures) c.bytes.ensures ∙ c.in-Some.ensures in
    let falls : 4 * c.args.levels + 1 < 4 * c.args.levels + 3 = omega arith in
    (search (rules, falls), omega (arith, c.requires, variant_few b (ty c.type_str.result) c.bytes.result.now here))

pub variant::is_normal_variant-returns-in-Some-clause-normal : goal.variant::is_normal_variant-returns-in-Some-clause-normal
variant::is_normal_variant-returns-in-Some-clause-normal t c =
    let b = c.args.bytes.now in
    let here = ap₂ (λ (t : Ty) (x : List ℕ). let p : Ty × List ℕ = (t, x) in Some p) (ap ty c.type_str.ensures) c.bytes.ensures ∙ c.in-Some.ensures in
    let law = variant_iff c.args.levels b (ty c.type_str.result) c.bytes.result.now (are_bytes b c.type_inv.bytes) here in
    (λ h. law.0 (c.is_normal_within.ensures.normal.0 h), λ n. c.is_normal_within.ensures.normal.1 (law.1 n))

pub variant::is_normal_variant-returns-in-Some-clause-exact : goal.variant::is_normal_variant-returns-in-Some-clause-exact
variant::is_normal_variant-returns-in-Some-clause-exact t c = λ h.
    let b = c.args.bytes.now in
    let here = ap₂ (λ (t : Ty) (x : List ℕ). let p : Ty × List ℕ = (t, x) in Some p) (ap ty c.type_str.ensures) c.bytes.ensures ∙ c.in-Some.ensures in
    let values = held_values c.args.levels b (ty c.type_str.result) c.bytes.result.now (are_bytes b c.type_inv.bytes) here (c.is_normal_within.ensures.normal.0 h) in
    omega (arith, c.is_normal_within.ensures.exact h, values)

pub variant::is_normal_variant-returns-in-Some-clause-few : goal.variant::is_normal_variant-returns-in-Some-clause-few
variant::is_normal_variant-returns-in-Some-clause-few t c =
    let b = c.args.bytes.now in
    let here = ap₂ (λ (t : Ty) (x : List ℕ). let p : Ty × List ℕ = (t, x) in Some p) (ap ty c.type_str.ensures) c.bytes.ensures ∙ c.in-Some.ensures in
    omega (arith, c.is_normal_within.ensures.few, variant_few b (ty c.type_str.result) c.bytes.result.now here)

pub variant::is_normal_variant-returns-in-None-clause-normal : goal.variant::is_normal_variant-returns-in-None-clause-normal
variant::is_normal_variant-returns-in-None-clause-normal t c =
    never (λ n. no_variant c.args.levels c.args.bytes.now (are_bytes c.args.bytes.now c.type_inv.bytes) c.in-None.ensures n)
