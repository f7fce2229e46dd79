use Rattle.std.proofs.Common.{rules, ◌≡◌, ◌<◌, ◌+◌, ◌-◌, ◌*◌, suc, length, take, drop, Some, sym, ap, ◌∙◌, subst, arith, length-drop}
use Rattle.std.proofs.Math.Seq.{take-length}
use Rattle.gv_model.specs.Ty.{spellings, members, types_from}
use Rattle.gv_model.specs.Layout.{round_up}
use Rattle.gv_model.proofs.ListLaws.{types_from-listed}
use Rattle.gv_model.proofs.LayoutLaws.{alignment_pos}
use Rattle.gv_layout.proofs.Sizes.{alignment_most, fixed_size_most, fixed_size-basic}
use Rattle.gv_types.specs.TypeStr.{ty}
use Rattle.gv_types.specs.Members.{members_left}
use Rattle.gv_normal.specs.InPlace.{IsNormalWithin}
use Rattle.gv_normal.proofs.Pieces.{are_bytes, length-piece}
use Rattle.gv_normal.proofs.Classed.{fixed_members, basic_here, basic_values}
use Rattle.gv_types.proofs.ClassLaws.{basic_class}
use Rattle.gv_model.specs.Encode.{zeros}
use Rattle.gv_normal.proofs.PackedParts.{some_level}
use Rattle.gv_normal.proofs.StepBounds.{members_spelled, spelled_first, spelled_some}
use Rattle.gv_normal.proofs.FixedMembers.{AreFixedFrom, never, told, fixed_count, fixed_iff, fixed_turn_values, fixed_values, fixed_turn, fixed_none, fixed_done}
use Rattle.gv_normal.proofs.fixed.+fixed.Goals as goal

pub are_normal_fixed-loop-member-init : goal.are_normal_fixed-loop-member-init
are_normal_fixed-loop-member-init t c =
    let of = ty c.args.of in
    let same = ap types_from (ap members_left c.into_iter-member-iterator.ensures.into_iter_gives ∙ c.members-member-items.ensures) ∙ types_from-listed (members of) in
    record {
      same = (λ h. subst (AreFixedFrom c.args.levels c.args.bytes.now 0) same h, λ h. subst (AreFixedFrom c.args.levels c.args.bytes.now 0) (sym same) h);
      within = omega arith;
      few = omega (arith, ap (λ ts. length (spellings ts)) same);
      grows = omega arith;
      exact = omega (arith, ap (fixed_values c.args.bytes.now 0) same);
    }

pub are_normal_fixed-round_up-from-requires-clause-aligned :
    goal.are_normal_fixed-round_up-from-requires-clause-aligned
are_normal_fixed-round_up-from-requires-clause-aligned t c = omega (arith, c.type_info-layout.ensures.alignment, alignment_pos (ty c.in-Some.member))

pub are_normal_fixed-returns-in_default-clause-normal :
    goal.are_normal_fixed-returns-in_default-clause-normal
are_normal_fixed-returns-in_default-clause-normal t c =
    let law = fixed_iff c.args.levels (ty c.args.of) c.args.bytes.now (are_bytes c.args.bytes.now c.type_inv.bytes) c.requires.kind c.requires.size in
    never (λ n. fixed_none _ c.args.levels c.args.bytes.now c.loop-member.end (ty c.in-Some.member) _ _ c.in-Some.ensures.steps c.loop-member.invariant.same (sym c.type_info-layout.ensures.size ∙ c.in_default.is) (law.1 n))

pub are_normal_fixed-returns-in_default-clause-few :
    goal.are_normal_fixed-returns-in_default-clause-few
are_normal_fixed-returns-in_default-clause-few t c = omega (arith, c.loop-member.invariant.few, members_spelled (ty c.args.of) c.requires.kind)

pub are_normal_fixed-overflow_add-from : goal.are_normal_fixed-overflow_add-from
are_normal_fixed-overflow_add-from t c =
    let small = fixed_size_most c.in-Some.member.text.now c.in-Some-size.size c.in-Some.member.spells_type (sym c.type_info-layout.ensures.size ∙ c.in-Some-size.is) in
    omega (arith, small, c.round_up-from.ensures.near, c.type_info-layout.ensures.alignment, alignment_most (ty c.in-Some.member), c.loop-member.invariant.within)

pub are_normal_fixed-returns-then-not-lies_after-clause-normal :
    goal.are_normal_fixed-returns-then-not-lies_after-clause-normal
are_normal_fixed-returns-then-not-lies_after-clause-normal t c =
    let law = fixed_iff c.args.levels (ty c.args.of) c.args.bytes.now (are_bytes c.args.bytes.now c.type_inv.bytes) c.requires.kind c.requires.size in
    let from_is = c.round_up-from.ensures.rounded ∙ ap (λ a. round_up a c.loop-member.end) c.type_info-layout.ensures.alignment in
    let turn = fixed_turn _ c.args.levels c.args.bytes.now c.loop-member.end c.round_up-from.result c.in-Some-size.size (ty c.in-Some.member) _ _ c.in-Some.ensures.steps c.loop-member.invariant.same (sym c.type_info-layout.ensures.size ∙ c.in-Some-size.is) from_is in
    never (λ n. told c.lies_after.ensures c.if-not-lies_after.true (turn.1 (law.1 n)).0.0)

pub are_normal_fixed-returns-then-not-lies_after-clause-few :
    goal.are_normal_fixed-returns-then-not-lies_after-clause-few
are_normal_fixed-returns-then-not-lies_after-clause-few t c = omega (arith, c.loop-member.invariant.few, members_spelled (ty c.args.of) c.requires.kind)

pub are_normal_fixed-is_normal_fixed-requires : goal.are_normal_fixed-is_normal_fixed-requires
are_normal_fixed-is_normal_fixed-requires t c =
    let falls : 2 * c.args.levels < suc (2 * c.args.levels) = omega arith in
    let lies = c.lies_after.ensures.0 c.if-not-lies_after.false in
    let from = c.round_up-from.result in
    let long = length-piece c.args.bytes.now from (from + c.in-Some-size.size) lies.within in (
      search (rules, falls),
      (
        sym c.type_info-layout.ensures.size ∙ (c.in-Some-size.is ∙ ap Some (sym (long ∙ omega arith))),
        omega (arith, c.loop-member.invariant.few, c.requires.room, members_spelled (ty c.args.of) c.requires.kind, ap (λ ts. length (spellings (types_from ts))) c.in-Some.ensures.steps, spelled_first (ty c.in-Some.member) (members_left c.next.new.self)),
      ),
    )

pub are_normal_fixed-returns-then-not-is_normal_fixed-clause-normal :
    goal.are_normal_fixed-returns-then-not-is_normal_fixed-clause-normal
are_normal_fixed-returns-then-not-is_normal_fixed-clause-normal t c =
    let law = fixed_iff c.args.levels (ty c.args.of) c.args.bytes.now (are_bytes c.args.bytes.now c.type_inv.bytes) c.requires.kind c.requires.size in
    let from_is = c.round_up-from.ensures.rounded ∙ ap (λ a. round_up a c.loop-member.end) c.type_info-layout.ensures.alignment in
    let turn = fixed_turn _ c.args.levels c.args.bytes.now c.loop-member.end c.round_up-from.result c.in-Some-size.size (ty c.in-Some.member) _ _ c.in-Some.ensures.steps c.loop-member.invariant.same (sym c.type_info-layout.ensures.size ∙ c.in-Some-size.is) from_is in
    never (λ n. told c.is_normal_fixed.ensures.normal c.if-not-is_normal_fixed.true (turn.1 (law.1 n)).0.1)

pub are_normal_fixed-returns-then-not-is_normal_fixed-clause-few :
    goal.are_normal_fixed-returns-then-not-is_normal_fixed-clause-few
are_normal_fixed-returns-then-not-is_normal_fixed-clause-few t c =
    omega (arith, c.loop-member.invariant.few, members_spelled (ty c.args.of) c.requires.kind, c.is_normal_fixed.ensures.few, ap (λ ts. length (spellings (types_from ts))) c.in-Some.ensures.steps, spelled_first (ty c.in-Some.member) (members_left c.next.new.self))

pub are_normal_fixed-loop-member-preserved : goal.are_normal_fixed-loop-member-preserved
are_normal_fixed-loop-member-preserved t c =
    let from_is = c.round_up-from.ensures.rounded ∙ ap (λ a. round_up a c.loop-member.end) c.type_info-layout.ensures.alignment in
    let turn = fixed_turn _ c.args.levels c.args.bytes.now c.loop-member.end c.round_up-from.result c.in-Some-size.size (ty c.in-Some.member) _ _ c.in-Some.ensures.steps c.loop-member.invariant.same (sym c.type_info-layout.ensures.size ∙ c.in-Some-size.is) from_is in
    let lies = c.lies_after.ensures.0 c.if-not-lies_after.false in
    let normal = c.is_normal_fixed.ensures.normal.0 c.if-not-is_normal_fixed.false in
    record {
      same = (λ h. turn.0 ((lies, normal), h), λ w. (turn.1 w).1);
      within = lies.within;
      few = omega (arith, c.loop-member.invariant.few, c.is_normal_fixed.ensures.few, ap (λ ts. length (spellings (types_from ts))) c.in-Some.ensures.steps, spelled_first (ty c.in-Some.member) (members_left c.next.new.self));
      grows = omega (arith, c.loop-member.invariant.grows, c.is_normal_fixed.ensures.grows);
      exact =
          let size = sym c.type_info-layout.ensures.size ∙ c.in-Some-size.is in
          let values = fixed_turn_values c.args.bytes.now c.loop-member.end c.round_up-from.result c.in-Some-size.size (ty c.in-Some.member) _ _ c.in-Some.ensures.steps size from_is in
          omega (arith, c.loop-member.invariant.exact, c.is_normal_fixed.ensures.exact c.if-not-is_normal_fixed.false, values);
    }

pub are_normal_fixed-returns-clause-normal : goal.are_normal_fixed-returns-clause-normal
are_normal_fixed-returns-clause-normal t c =
    let law = fixed_iff c.args.levels (ty c.args.of) c.args.bytes.now (are_bytes c.args.bytes.now c.type_inv.bytes) c.requires.kind c.requires.size in
    let done = fixed_done _ c.args.levels c.args.bytes.now c.loop-member.end _ c.in-None.ensures.steps.0 c.loop-member.invariant.same in
    let left = c.args.bytes.now in
    let size : length (drop c.loop-member.end left) ≡ length left - c.loop-member.end = length-drop c.loop-member.end left in
    let all : take (length left - c.loop-member.end) (drop c.loop-member.end left) ≡ drop c.loop-member.end left = ap (λ n. take n (drop c.loop-member.end left)) (sym size) ∙ take-length (drop c.loop-member.end left) in
    let same : length (take (length left - c.loop-member.end) (drop c.loop-member.end left)) ≡ length left - c.loop-member.end = ap length all ∙ size in
    (λ h. law.0 (done.0 (sym all ∙ (c.are_zero.ensures.0 h ∙ ap zeros same))), λ n. c.are_zero.ensures.1 (all ∙ (done.1 (law.1 n) ∙ ap zeros (sym same))))

pub are_normal_fixed-returns-clause-exact : goal.are_normal_fixed-returns-clause-exact
are_normal_fixed-returns-clause-exact t c = λ h.
    let b = c.args.bytes.now in
    let done = fixed_done _ c.args.levels b c.loop-member.end _ c.in-None.ensures.steps.0 c.loop-member.invariant.same in
    let size : length (drop c.loop-member.end b) ≡ length b - c.loop-member.end = length-drop c.loop-member.end b in
    let all : take (length b - c.loop-member.end) (drop c.loop-member.end b) ≡ drop c.loop-member.end b = ap (λ n. take n (drop c.loop-member.end b)) (sym size) ∙ take-length (drop c.loop-member.end b) in
    let same : length (take (length b - c.loop-member.end) (drop c.loop-member.end b)) ≡ length b - c.loop-member.end = ap length all ∙ size in
    let lie = done.0 (sym all ∙ (c.are_zero.ensures.0 h ∙ ap zeros same)) in
    let total = fixed_count c.args.levels (ty c.args.of) b (are_bytes b c.type_inv.bytes) c.requires.kind c.requires.size lie in
    let none = ap (λ ts. fixed_values b c.loop-member.end (types_from ts)) c.in-None.ensures.steps.0 in
    omega (arith, c.loop-member.invariant.exact, total, none)

pub are_normal_fixed-returns-clause-few : goal.are_normal_fixed-returns-clause-few
are_normal_fixed-returns-clause-few t c = omega (arith, c.loop-member.invariant.few, members_spelled (ty c.args.of) c.requires.kind)

pub is_normal_fixed-tick-requires : goal.is_normal_fixed-tick-requires
is_normal_fixed-tick-requires t c = omega (arith, c.requires.room, spelled_some (ty c.args.of))

pub is_normal_fixed-returns-in_default-clause-normal :
    goal.is_normal_fixed-returns-in_default-clause-normal
is_normal_fixed-returns-in_default-clause-normal t c =
    let zero : c.args.levels ≡ 0 = omega (arith, c.in_default.ensures) in
    never (λ n. some_level (ty c.args.of) c.args.bytes.now (subst (λ d. IsNormalWithin d (ty c.args.of) c.args.bytes.now) zero n))

pub is_normal_fixed-returns-in_default-clause-few :
    goal.is_normal_fixed-returns-in_default-clause-few
is_normal_fixed-returns-in_default-clause-few t c = omega (arith, c.tick.ensures, spelled_some (ty c.args.of))

pub is_normal_fixed-is_normal_number-requires : goal.is_normal_fixed-is_normal_number-requires
is_normal_fixed-is_normal_number-requires t c = sym (fixed_size-basic (ty c.args.of) c.in-Basic.basic c.in-Basic.ensures) ∙ c.requires.size

pub is_normal_fixed-are_normal_fixed-requires : goal.is_normal_fixed-are_normal_fixed-requires
is_normal_fixed-are_normal_fixed-requires t c =
    let falls : suc (2 * c.in-Some.below) < 2 * c.args.levels = omega (arith, c.in-Some.ensures.0, c.in-Some.ensures.1) in (
      search (rules, falls),
      (fixed_members (ty c.args.of) (length c.args.bytes.now) (λ k e. c.in_default-class.not-Basic k (c.class.ensures ∙ e)) c.requires.size, (c.requires.size, omega (arith, c.tick.ensures, c.requires.room))),
    )

pub is_normal_fixed-returns-in-Basic-clause-normal :
    goal.is_normal_fixed-returns-in-Basic-clause-normal
is_normal_fixed-returns-in-Basic-clause-normal t c =
    basic_here c.in-Some.below c.args.levels (ty c.args.of) c.in-Basic.basic c.args.bytes.now c.is_normal_number.result (basic_class (ty c.args.of) c.in-Basic.basic c.in-Basic.ensures) (omega (arith, c.in-Some.ensures.0, c.in-Some.ensures.1)) c.is_normal_number.ensures

pub is_normal_fixed-returns-in-Basic-clause-few : goal.is_normal_fixed-returns-in-Basic-clause-few
is_normal_fixed-returns-in-Basic-clause-few t c = omega (arith, c.tick.ensures, spelled_some (ty c.args.of))

pub is_normal_fixed-returns-in-Basic-clause-exact : goal.is_normal_fixed-returns-in-Basic-clause-exact
is_normal_fixed-returns-in-Basic-clause-exact t c = λ h.
    let one = basic_values (ty c.args.of) c.in-Basic.basic c.args.bytes.now (are_bytes c.args.bytes.now c.type_inv.bytes) (basic_class (ty c.args.of) c.in-Basic.basic c.in-Basic.ensures) in
    omega (arith, c.tick.ensures, one)
