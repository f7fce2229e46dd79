use Rattle.std.proofs.Common.{rules, ◌≡◌, inl, inr, length, ◌∷◌, suc, Some, None, refl, sym, ap, ◌∙◌, arith}
use Rattle.std.proofs.lemmas.Bool.{false≢true}
use Rattle.std.proofs.lemmas.List.{nil_from_length}
use Rattle.gv_model.specs.TypeText.{mark}
use Rattle.gv_types.specs.Classes.{class_of_mark}
use Rattle.gv_types.specs.declared.grammar.Halt.TheVariants.{Unclosed, BadChar, KeyNotBasic, TooDeep}
use Rattle.gv_types.proofs.Firsts.{begins_none, begins_some, is_key, is_no_key}
use Rattle.gv_types.proofs.LetterRuns.{letters_shorter, more_read}
use Rattle.gv_types.proofs.MemberLaws.{none_read, singles_fit}
use Rattle.gv_types.proofs.TypeSteps.{stopped_there, stops_at_end, stops_at_bad, stops_at_deep, reads_single, reading_element, reading_tuple, reading_entry, reads_tuple, stops_in_tuple, stops_at_member, reads_shorter, no_key, key_bad, key_not_basic, key_too_deep, stops_at_value}
use Rattle.gv_types.proofs.TypeSteps.{stopped_as, reading_close}
use Rattle.gv_types.proofs.grammar.+types.Goals as goal

pub read_type-returns-in_default : goal.read_type-returns-in_default
read_type-returns-in_default t c =
    let text = c.args.text.now in
    stopped_there c.stopped.result c.args.room text text Unclosed c.stopped.ensures
    (stops_at_end c.args.room text (nil_from_length text c.in_default.ensures.cases))

pub read_type-returns-in_default-class_of_letter :
    goal.read_type-returns-in_default-class_of_letter
read_type-returns-in_default-class_of_letter t c =
    let text = c.args.text.now in
    let b = c.in-Some.letter.now in
    let class : class_of_mark (mark b) ≡ None = search (rules) in
    let at : text ≡ b ∷ c.in-Some.rest.now = search (rules, c.in-Some.ensures.cases) in
    stopped_there c.stopped-in_default-class_of_letter.result c.args.room text text BadChar c.stopped-in_default-class_of_letter.ensures
    (stops_at_bad c.args.room b text c.in-Some.rest.now at (begins_none b class))

pub read_type-returns-then-room-eq0 : goal.read_type-returns-then-room-eq0
read_type-returns-then-room-eq0 t c =
    let text = c.args.text.now in
    let b = c.in-Some.letter.now in
    let class : class_of_mark (mark b) ≡ Some c.in-Some-class_of_letter.class = search (rules) in
    let at : text ≡ b ∷ c.in-Some.rest.now = search (rules, c.in-Some.ensures.cases) in
    stopped_there c.stopped-then-room-eq0.result c.args.room text text TooDeep c.stopped-then-room-eq0.ensures
    (stops_at_deep c.args.room b text c.in-Some.rest.now at c.if-room-eq0.true (begins_some b c.in-Some-class_of_letter.class class))

pub read_type-returns-in-Basic : goal.read_type-returns-in-Basic
read_type-returns-in-Basic t c =
    reads_single c.args.room c.in-Some.letter.now c.in-Some-class_of_letter.class c.args.text.now c.in-Some.rest.now
    (sym c.in-Some-class_of_letter.ensures) c.in-Basic.is c.if-room-eq0.false (search (rules, c.in-Some.ensures.cases))

pub read_type-returns-in-Array : goal.read_type-returns-in-Array
read_type-returns-in-Array t c =
    reading_element c.read_element.result c.args.room c.in-Some.letter.now c.in-Some-class_of_letter.class c.args.text.now c.in-Some.rest.now
    (sym c.in-Some-class_of_letter.ensures) c.in-Array.is c.if-room-eq0.false (search (rules, c.in-Some.ensures.cases)) c.read_element.ensures

pub read_type-returns-in-Tuple : goal.read_type-returns-in-Tuple
read_type-returns-in-Tuple t c =
    reading_tuple c.read_members.result c.args.room c.in-Some.letter.now c.in-Some-class_of_letter.class c.args.text.now c.in-Some.rest.now
    (sym c.in-Some-class_of_letter.ensures) c.in-Tuple.is c.if-room-eq0.false (search (rules, c.in-Some.ensures.cases)) c.read_members.ensures

pub read_type-returns-in-Entry : goal.read_type-returns-in-Entry
read_type-returns-in-Entry t c =
    reading_entry c.read_entry.result c.args.room c.in-Some.letter.now c.in-Some-class_of_letter.class c.args.text.now c.in-Some.rest.now
    (sym c.in-Some-class_of_letter.ensures) c.in-Entry.is c.if-room-eq0.false (search (rules, c.in-Some.ensures.cases)) c.read_entry.ensures

pub read_members-loop-letter-init : goal.read_members-loop-letter-init
read_members-loop-letter-init t c = none_read c.args.room c.args.text.now

pub read_members-returns-in_default : goal.read_members-returns-in_default
read_members-returns-in_default t c =
    let rest = c.loop-letter.rest.now in
    stopped_there c.stopped.result (suc c.args.room) (40 ∷ c.args.text.now) rest Unclosed c.stopped.ensures
    (stops_in_tuple c.args.room c.args.text.now rest c.loop-letter.invariant.members (nil_from_length rest c.in_default.ensures.cases))

pub read_members-returns-then-letter-eq41 : goal.read_members-returns-then-letter-eq41
read_members-returns-then-letter-eq41 t c =
    reads_tuple c.args.room c.args.text.now c.loop-letter.rest.now c.in-Some.others.now c.loop-letter.singles c.loop-letter.invariant
    (search (rules, c.in-Some.ensures.cases, c.if-letter-eq41.true))

pub read_members-returns-in_err-member : goal.read_members-returns-in_err-member
read_members-returns-in_err-member t c =
    let stop = c.in_err-member.field-0.0 in
    stopped_as _ c.from_residual.result (suc c.args.room) (40 ∷ c.args.text.now) stop c.from_residual.ensures.1
    (stops_at_member c.args.room c.in-Some.letter.now c.args.text.now c.loop-letter.rest.now c.in-Some.others.now stop.rest.now stop.halt
    c.loop-letter.invariant.members (search (rules, c.in-Some.ensures.cases)) c.if-letter-eq41.false c.in_err-member.ensures)

pub read_members-loop-letter-smaller-then-is_alone : goal.read_members-loop-letter-smaller-then-is_alone
read_members-loop-letter-smaller-then-is_alone t c =
    let shorter = reads_shorter c.args.room c.loop-letter.rest.now c.in_ok-member.member.rest.now c.in_ok-member.ensures.begins in
    omega (arith, shorter, letters_shorter c.in_ok-member.member.rest.now, ap length c.after_letters-others.ensures)

pub read_members-loop-letter-smaller : goal.read_members-loop-letter-smaller
read_members-loop-letter-smaller t c =
    let shorter = reads_shorter c.args.room c.loop-letter.rest.now c.in_ok-member.member.rest.now c.in_ok-member.ensures.begins in
    omega (arith, shorter, letters_shorter c.in_ok-member.member.rest.now, ap length c.after_letters-others.ensures)

pub read_members-overflow_add-singles : goal.read_members-overflow_add-singles
read_members-overflow_add-singles t c =
    let few = singles_fit c.args.room c.loop-letter.rest.now c.in_ok-member.member.rest.now c.in_ok-member.member.singles c.in_ok-member.ensures in
    omega (arith, few, c.ranges.room.fits)

pub read_members-loop-letter-preserved-then-is_alone : goal.read_members-loop-letter-preserved-then-is_alone
read_members-loop-letter-preserved-then-is_alone t c =
    let rest = c.loop-letter.rest.now in
    let next = c.in_ok-member.member.rest.now in
    let others = c.after_letters-others.ensures in
    let few = singles_fit c.args.room rest next c.in_ok-member.member.singles c.in_ok-member.ensures in
    let is = c.is_alone.ensures.0 c.if-is_alone.true in
    rw others (more_read c.args.room c.args.text.now rest next c.loop-letter.singles c.in_ok-member.member.singles _ c.loop-letter.invariant c.in_ok-member.ensures (λ none. omega (arith, few, none))
    (inl (is.0, sym (ap length others) ∙ is.1, refl)))

pub read_members-loop-letter-preserved : goal.read_members-loop-letter-preserved
read_members-loop-letter-preserved t c =
    let rest = c.loop-letter.rest.now in
    let next = c.in_ok-member.member.rest.now in
    let others = c.after_letters-others.ensures in
    let few = singles_fit c.args.room rest next c.in_ok-member.member.singles c.in_ok-member.ensures in
    rw others (more_read c.args.room c.args.text.now rest next c.loop-letter.singles c.in_ok-member.member.singles 0 c.loop-letter.invariant c.in_ok-member.ensures (λ none. omega (arith, few, none))
    (inr ((λ first last. false≢true (sym c.if-is_alone.false ∙ c.is_alone.ensures.1 (first, ap length others ∙ last))), refl)))

pub read_entry-returns-in_default : goal.read_entry-returns-in_default
read_entry-returns-in_default t c =
    let text = c.args.text.now in
    stopped_there c.stopped.result (suc c.args.room) (123 ∷ text) text Unclosed c.stopped.ensures
    (no_key c.args.room text (nil_from_length text c.in_default.ensures.cases))

pub read_entry-returns-in_default-class_of_letter :
    goal.read_entry-returns-in_default-class_of_letter
read_entry-returns-in_default-class_of_letter t c =
    let text = c.args.text.now in
    let b = c.in-Some.letter.now in
    stopped_there c.stopped-in_default-class_of_letter.result (suc c.args.room) (123 ∷ text) text BadChar c.stopped-in_default-class_of_letter.ensures
    (key_bad c.args.room b text c.in-Some.rest.now (search (rules, c.in-Some.ensures.cases)) (begins_none b (sym c.in_default-class_of_letter.ensures)))

pub read_entry-returns-in_default-class : goal.read_entry-returns-in_default-class
read_entry-returns-in_default-class t c =
    let text = c.args.text.now in
    let b = c.in-Some.letter.now in
    let class = c.in-Some-class_of_letter.class in
    let e = sym c.in-Some-class_of_letter.ensures in
    stopped_there c.stopped-in_default-class.result (suc c.args.room) (123 ∷ text) text KeyNotBasic c.stopped-in_default-class.ensures
    (key_not_basic c.args.room b text c.in-Some.rest.now (search (rules, c.in-Some.ensures.cases)) (begins_some b class e) (is_no_key b class e c.in_default-class.not-Basic))

pub read_entry-returns-then-room-eq0 : goal.read_entry-returns-then-room-eq0
read_entry-returns-then-room-eq0 t c =
    let text = c.args.text.now in
    let b = c.in-Some.letter.now in
    let class = c.in-Some-class_of_letter.class in
    let e = sym c.in-Some-class_of_letter.ensures in
    stopped_there c.stopped-then-room-eq0.result (suc c.args.room) (123 ∷ text) text TooDeep c.stopped-then-room-eq0.ensures
    (key_too_deep c.args.room b text c.in-Some.rest.now (search (rules, c.in-Some.ensures.cases)) c.if-room-eq0.true (begins_some b class e) (is_key b class c.in-Basic.field-0 e c.in-Basic.is))

pub read_entry-returns-in_err-value : goal.read_entry-returns-in_err-value
read_entry-returns-in_err-value t c =
    let b = c.in-Some.letter.now in
    let key = is_key b c.in-Some-class_of_letter.class c.in-Basic.field-0 (sym c.in-Some-class_of_letter.ensures) c.in-Basic.is in
    let stop = c.in_err-value.field-0.0 in
    stopped_as _ c.from_residual.result (suc c.args.room) (123 ∷ c.args.text.now) stop c.from_residual.ensures.1
    (stops_at_value c.args.room b c.args.text.now c.in-Some.rest.now stop.rest.now stop.halt
    key (omega (arith, c.if-room-eq0.false)) (search (rules, c.in-Some.ensures.cases)) c.in_err-value.ensures)

pub read_entry-returns : goal.read_entry-returns
read_entry-returns t c =
    let b = c.in-Some.letter.now in
    let key = is_key b c.in-Some-class_of_letter.class c.in-Basic.field-0 (sym c.in-Some-class_of_letter.ensures) c.in-Basic.is in
    reading_close c.read_close.result c.args.room b c.args.text.now c.in-Some.rest.now c.in_ok-value.value.rest.now
    key (search (rules, c.in-Some.ensures.cases)) c.in_ok-value.ensures.begins c.read_close.ensures
