use Rattle.std.proofs.Common.{arith, ap₂, ◌∷◌, ◌∙◌, ap, sym, refl}
use Rattle.gv_types.specs.Members.{members_left}
use Rattle.gv_patterns.proofs.PatternLists.{before}
use Rattle.gv_patterns.proofs.ExactLaws.{entry_members, is_some_next, after_next, entry_nesting, exactly_entry, exactly_tuple, exactly_all, exactly_listed, tuple_nesting, all_exact, before_more}
use Rattle.gv_model.specs.Patterns.Pattern.{strict}
use Rattle.gv_model.specs.Patterns.Bare.{entry_of, tuple_with}
use Rattle.gv_model.proofs.ListLaws.{same_tail}
use Rattle.gv_types.specs.TypeStr.{ty}
use Rattle.gv_types.proofs.NestingLaws.{element_nesting, greatest_of, greatest_of-listed}
use Rattle.gv_patterns.proofs.pattern.Pattern.+exactly.Goals as goal

pub exactly-exactly-requires : goal.exactly-exactly-requires
exactly-exactly-requires t c = (omega (arith, element_nesting _ _ _ c.element.ensures c.unwrap.ensures), tt)

pub exactly-exactly-requires-in-Maybe : goal.exactly-exactly-requires-in-Maybe
exactly-exactly-requires-in-Maybe t c = (omega (arith, element_nesting _ _ _ c.element-in-Maybe.ensures c.unwrap-in-Maybe.ensures), tt)

pub exactly-exactly_each-requires : goal.exactly-exactly_each-requires
exactly-exactly_each-requires t c = (omega (arith, tuple_nesting _ _ c.class.ensures c.in-Tuple.is), tt)

pub exactly-returns-in_ok-exactly_each-in-Tuple : goal.exactly-returns-in_ok-exactly_each-in-Tuple
exactly-returns-in_ok-exactly_each-in-Tuple t c = c.strict-in-Tuple.ensures ∙ ap (λ qs. strict (tuple_with qs)) c.in_ok-exactly_each-in-Tuple.ensures ∙ exactly_tuple _ _ c.class.ensures c.in-Tuple.is

pub exactly-exactly_entry-requires : goal.exactly-exactly_entry-requires
exactly-exactly_entry-requires t c = (omega arith, sym c.class.ensures ∙ c.in-Entry.is)

pub exactly_each-loop-member-init : goal.exactly_each-loop-member-init
exactly_each-loop-member-init t c =
    let left = ap members_left c.into_iter-member-iterator.ensures.into_iter_gives ∙ c.members-member-items.ensures in record {
      next = tt;
      finite = tt;
      deepest = omega (arith, ap greatest_of left ∙ greatest_of-listed _);
      whole = rw c.new-sets.ensures.items (ap exactly_all left ∙ exactly_listed _);
    }

pub exactly_each-exactly-requires : goal.exactly_each-exactly-requires
exactly_each-exactly-requires t c = (omega (arith, ap greatest_of c.in-Some.ensures.steps, c.loop-member.invariant.deepest), tt)

pub exactly_each-loop-member-preserved : goal.exactly_each-loop-member-preserved
exactly_each-loop-member-preserved t c = record {
  next = tt;
  finite = tt;
  deepest = omega (arith, ap greatest_of c.in-Some.ensures.steps, c.loop-member.invariant.deepest);
  whole = rw c.in_ok-push.ensures.items (rw c.in_ok-exactly.ensures (before_more c.loop-member.sets.items _ _ ∙ ap (λ l. before c.loop-member.sets.items (exactly_all l)) (sym c.in-Some.ensures.steps) ∙ c.loop-member.invariant.whole));
}

pub exactly_each-returns : goal.exactly_each-returns
exactly_each-returns t c = all_exact _ c.loop-member.sets.items _ c.in-None.ensures.steps.0 c.loop-member.invariant.whole

pub exactly_entry-unwrap-requires : goal.exactly_entry-unwrap-requires
exactly_entry-unwrap-requires t c =
    let m = entry_members _ _ refl c.requires in
    is_some_next c.next.result _ _ _ m.0 _ c.next.ensures.steps (c.members-members.ensures ∙ m.1.1)

pub exactly_entry-unwrap-requires-2 : goal.exactly_entry-unwrap-requires-2
exactly_entry-unwrap-requires-2 t c =
    let m = entry_members _ _ refl c.requires in
    let one = after_next c.next.result _ _ _ _ c.next.ensures.steps c.unwrap.ensures in
    is_some_next c.next-2.result _ _ _ m.1.0 _ c.next-2.ensures.steps (same_tail (sym one ∙ c.members-members.ensures ∙ m.1.1))

pub exactly_entry-exactly-requires : goal.exactly_entry-exactly-requires
exactly_entry-exactly-requires t c =
    let one = after_next c.next.result _ _ _ _ c.next.ensures.steps c.unwrap.ensures in
    let two = after_next c.next-2.result _ _ _ _ c.next-2.ensures.steps c.unwrap-2.ensures in
    let both = sym c.members-members.ensures ∙ one ∙ ap (λ l. ty c.unwrap.result ∷ l) two in
    (omega (arith, entry_nesting _ _ _ _ _ refl c.requires both), tt)

pub exactly_entry-returns : goal.exactly_entry-returns
exactly_entry-returns t c =
    let one = after_next c.next.result _ _ _ _ c.next.ensures.steps c.unwrap.ensures in
    let two = after_next c.next-2.result _ _ _ _ c.next-2.ensures.steps c.unwrap-2.ensures in
    let both = sym c.members-members.ensures ∙ one ∙ ap (λ l. ty c.unwrap.result ∷ l) two in
    c.strict.ensures ∙ ap₂ (λ s p. strict (entry_of s p)) c.key_basics-key.ensures (c.in_ok-new.ensures.ok ∙ c.in_ok-value.ensures) ∙ exactly_entry _ _ _ _ _ refl c.requires both
