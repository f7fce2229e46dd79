use Rattle.std.proofs.Common.{arith, subst, add-one, length, ◌≡◌, [], ◌∷◌, ◌++◌, refl, sym, ap, ◌∙◌}
use Rattle.std.proofs.lemmas.Result.{err_from_is_err_and}
use Rattle.gv_model.specs.GrammarFaults.{begun_wants}
use Rattle.gv_model.specs.GrammarFaults.Want.{inside, a_value}
use Rattle.gv_model.specs.GrammarFaults.Stage.{list_start, list_more, tuple_start, tuple_one, tuple_two, tuple_more, brace_start, brace_first, pair_more, pair_colon, lone_end}
use Rattle.gv_model.specs.Tokens.Mark.{close_list, close_tuple, close_brace, colon, comma}
use Rattle.gv_model.specs.Tokens.Token.{mark}
use Rattle.gv_model.specs.Grammar.{tokens_of}
use Rattle.gv_syntax.specs.ModelTokens.{token_of, mark_of}
use Rattle.std.specs.Prelude.{IsSome}
use Rattle.gv_syntax.specs.Expectations.{left, more_stage, end_stage}
use Rattle.gv_syntax.proofs.ExpectationLaws.{Either, unclosed, missing, entered, carried, carried_in, carried_out, always, does_not_begin, begins, list_opens, tuple_opens, brace_opens, not_taken, pair_wants, wants_comma}
use Rattle.gv_syntax.proofs.ParseStepLaws.{
  whole_value,
  is_truth,
  is_text,
  is_bytes,
  is_integer,
  is_nothing,
  is_just,
  is_keyword,
  is_of_type,
  is_array,
  is_tuple,
  is_boxed,
  if_ok,
  if_err,
  no_elements,
  elements_of,
  no_members,
  took_comma,
  took_close,
  not_separated,
  separated,
  one_value,
  one_more,
  all_values,
}
use Rattle.gv_syntax.proofs.SequenceLaws.{no_longer}
use Rattle.gv_syntax.proofs.BracketLaws.{HoldsFirst, FirstMember, holds_first, stops_after, stops_in_value, first_member, one_member, second_reached, more_members, first_wants, no_pairs, pairs_reached, some_pairs, lone_reached, entry_after, is_entry, one_pair, key_reached, value_reached, shorter, pair_more_read, all_pairs, value_read, not_ended}
use Rattle.gv_syntax.proofs.parsing.+parsing.Goals as goal

pub braces::braces-returns-in_err-first-clause-fault : goal.braces::braces-returns-in_err-first-clause-fault
braces::braces-returns-in_err-first-clause-fault t c =
    let p = err_from_is_err_and c.from_residual.result c.from_residual.ensures.1 in
    rw (p.1, p.2) (unclosed brace_start _ _ [] _ _ c.in_err-first.ensures.0 (c.in_err-first.ensures.1 ∙ c.refused-ended.ensures))

pub braces::braces-returns-then-is_mark-clause-braced : goal.braces::braces-returns-then-is_mark-clause-braced
braces::braces-returns-then-is_mark-clause-braced t c = no_pairs _ _ _ _ _ c.requires c.new.ensures.items (record { first = c.in_ok-first.first; tokens = c.in_ok-first.ensures; kind = c.is_mark.ensures.0 c.if-is_mark.true })

pub braces::braces-value_from-requires : goal.braces::braces-value_from-requires
braces::braces-value_from-requires t c = (omega (arith, c.requires), omega (arith, c.requires))

pub braces::braces-returns-in_err-key-clause-fault : goal.braces::braces-returns-in_err-key-clause-fault
braces::braces-returns-in_err-key-clause-fault t c =
    let p = err_from_is_err_and c.from_residual-in_err-key.result c.from_residual-in_err-key.ensures.1 in
    rw (p.1, p.2) (carried_in _ _ (inside brace_start c.args.depth c.args.opened ∷ []) (a_value c.args.depth ∷ []) (left c.args.rest.now)
    (c.in_ok-first.first ∷ left c.next.new.rest) c.in_err-key.ensures.fault
    (λ e more. (
      inside brace_first c.args.depth c.args.opened ∷ more,
      entered brace_start brace_first close_brace c.args.depth c.args.opened _ _ _ brace_opens c.in_ok-first.ensures
          (λ h. cc (c.if-is_mark.false, c.is_mark.ensures.1 h)) e more,
      sym c.refused-ended.ensures,
    )))

pub braces::braces-returns-in_err-more_follow-clause-fault : goal.braces::braces-returns-in_err-more_follow-clause-fault
braces::braces-returns-in_err-more_follow-clause-fault t c =
    let p = err_from_is_err_and c.from_residual-in_err-more_follow.result c.from_residual-in_err-more_follow.ensures.1 in
    rw (p.1, p.2) (stops_after (inside brace_start c.args.depth c.args.opened ∷ []) (inside brace_first c.args.depth c.args.opened ∷ []) (left c.args.rest.now)
    (left c.value_from.new.rest) _ (HoldsFirst.reaches (holds_first brace_start brace_first close_brace c.args.depth c.args.opened _ _ _ _ _ brace_opens c.in_ok-first.ensures
    (λ h. cc (c.if-is_mark.false, c.is_mark.ensures.1 h)) c.in_ok-key.ensures.value))
    (not_taken brace_first (Either colon) c.args.depth c.args.opened [] _ _ first_wants c.in_err-more_follow.ensures))

pub braces::braces-entry_of-requires : goal.braces::braces-entry_of-requires
braces::braces-entry_of-requires t c = (omega (arith, c.requires), omega (arith, c.requires))

pub braces::braces-returns-then-branch-clause-braced : goal.braces::braces-returns-then-branch-clause-braced
braces::braces-returns-then-branch-clause-braced t c = if_ok c.entry_of.result (λ k h. is_entry _ _ _ _ _ _ _ _
    (holds_first brace_start brace_first close_brace c.args.depth c.args.opened _ _ _ _ _ brace_opens c.in_ok-first.ensures
    (λ h. cc (c.if-is_mark.false, c.is_mark.ensures.1 h)) c.in_ok-key.ensures.value)
    (took_comma colon c.args.opened (left c.value_from.new.rest) (left c.more_follow.new.rest) _ c.if-branch.true c.in_ok-more_follow.ensures) h) c.entry_of.ensures.entry

pub braces::braces-returns-then-branch-clause-fault : goal.braces::braces-returns-then-branch-clause-fault
braces::braces-returns-then-branch-clause-fault t c = if_err c.entry_of.result (λ f h. stops_after (inside brace_start c.args.depth c.args.opened ∷ [])
    (a_value c.args.depth ∷ inside lone_end c.args.depth c.args.opened ∷ []) (left c.args.rest.now) (left c.more_follow.new.rest) f
    (lone_reached c.args.depth c.args.opened _ _ _ _ (holds_first brace_start brace_first close_brace c.args.depth c.args.opened _ _ _ _ _ brace_opens c.in_ok-first.ensures
    (λ h. cc (c.if-is_mark.false, c.is_mark.ensures.1 h)) c.in_ok-key.ensures.value)
    (took_comma colon c.args.opened (left c.value_from.new.rest) (left c.more_follow.new.rest) _ c.if-branch.true c.in_ok-more_follow.ensures)) h) c.entry_of.ensures.fault

pub braces::braces-returns-in_err-pairs-clause-fault : goal.braces::braces-returns-in_err-pairs-clause-fault
braces::braces-returns-in_err-pairs-clause-fault t c =
    let p = err_from_is_err_and c.from_residual-in_err-pairs.result c.from_residual-in_err-pairs.ensures.1 in
    rw (p.1, p.2) (stops_after (inside brace_start c.args.depth c.args.opened ∷ []) (a_value c.args.depth ∷ inside pair_more c.args.depth c.args.opened ∷ [])
    (left c.args.rest.now) (left c.more_follow.new.rest) _ (pairs_reached c.args.depth c.args.opened _ _ _ _
    (holds_first brace_start brace_first close_brace c.args.depth c.args.opened _ _ _ _ _ brace_opens c.in_ok-first.ensures
    (λ h. cc (c.if-is_mark.false, c.is_mark.ensures.1 h)) c.in_ok-key.ensures.value)
    (took_close colon c.args.opened (left c.value_from.new.rest) (left c.more_follow.new.rest) _ c.if-branch.false c.in_ok-more_follow.ensures)) c.in_err-pairs.ensures.fault)

pub braces::braces-returns-clause-braced : goal.braces::braces-returns-clause-braced
braces::braces-returns-clause-braced t c = some_pairs _ _ _ _ _ _ _ _
    (holds_first brace_start brace_first close_brace c.args.depth c.args.opened _ _ _ _ _ brace_opens c.in_ok-first.ensures
    (λ h. cc (c.if-is_mark.false, c.is_mark.ensures.1 h)) c.in_ok-key.ensures.value)
    (took_close colon c.args.opened (left c.value_from.new.rest) (left c.more_follow.new.rest) _ c.if-branch.false c.in_ok-more_follow.ensures) c.in_ok-pairs.ensures.pairs

pub braces::entry_of-value_before-requires : goal.braces::entry_of-value_before-requires
braces::entry_of-value_before-requires t c = (omega (arith, c.requires), (c.requires, tt))

pub braces::entry_of-returns-in_err-value-clause-fault : goal.braces::entry_of-returns-in_err-value-clause-fault
braces::entry_of-returns-in_err-value-clause-fault t c =
    let p = err_from_is_err_and c.from_residual-in_err-value.result c.from_residual-in_err-value.ensures.1 in
    rw (p.1, p.2) c.in_err-value.ensures.fault

pub braces::entry_of-returns-clause-entry : goal.braces::entry_of-returns-clause-entry
braces::entry_of-returns-clause-entry t c = rw (← c.in_ok-key.ensures.ok) (entry_after _ _ _ _ c.in_ok-key.key c.in_ok-new.field-0 (rw c.in_ok-new.ensures.ok c.in_ok-value.ensures.value))

pub braces::braces-pairs-requires : goal.braces::braces-pairs-requires
braces::braces-pairs-requires t c = (omega (arith, c.requires), omega (arith, c.requires))

pub braces::pairs-push_pair-requires : goal.braces::pairs-push_pair-requires
braces::pairs-push_pair-requires t c = (omega (arith, c.requires), omega (arith, c.requires))

pub braces::pairs-loop-pairs-init : goal.braces::pairs-loop-pairs-init
braces::pairs-loop-pairs-init t c = let h = c.in_ok-push_pair.ensures.pair in one_pair _ h.value _ _ _ _ _ (h.joined ∙ ap (λ ps. ps ++ (c.args.first, h.value) ∷ []) c.new-pairs.ensures.items) h.read

pub braces::pairs-returns-in_err-more_follow-clause-fault : goal.braces::pairs-returns-in_err-more_follow-clause-fault
braces::pairs-returns-in_err-more_follow-clause-fault t c =
    let p = err_from_is_err_and c.from_residual-in_err-more_follow.result c.from_residual-in_err-more_follow.ensures.1 in
    rw (p.1, p.2) (stops_after (a_value c.args.depth ∷ inside pair_more c.args.depth c.args.opened ∷ []) (inside pair_more c.args.depth c.args.opened ∷ [])
    (left c.args.rest.now) (left c.loop-pairs.rest) _ c.loop-pairs.invariant.passes
    (not_taken pair_more (Either close_brace) c.args.depth c.args.opened [] _ _ pair_wants c.in_err-more_follow.ensures))

pub braces::pairs-value_before-requires : goal.braces::pairs-value_before-requires
braces::pairs-value_before-requires t c = (omega (arith, c.requires), (c.requires, tt))

pub braces::pairs-returns-in_err-key-clause-fault : goal.braces::pairs-returns-in_err-key-clause-fault
braces::pairs-returns-in_err-key-clause-fault t c =
    let p = err_from_is_err_and c.from_residual-in_err-key.result c.from_residual-in_err-key.ensures.1 in
    rw (p.1, p.2) (stops_after (a_value c.args.depth ∷ inside pair_more c.args.depth c.args.opened ∷ [])
    (a_value c.args.depth ∷ inside pair_colon c.args.depth c.args.opened ∷ []) (left c.args.rest.now) (left c.more_follow.new.rest) _
    (key_reached c.args.first c.args.depth c.args.opened _ _ _ _ c.loop-pairs.invariant (took_comma close_brace c.args.opened (left c.loop-pairs.rest) (left c.more_follow.new.rest) _ c.if-branch.true c.in_ok-more_follow.ensures))
    c.in_err-key.ensures.fault)

pub braces::pairs-push_pair-requires-in-loop-pairs : goal.braces::pairs-push_pair-requires-in-loop-pairs
braces::pairs-push_pair-requires-in-loop-pairs t c = (omega (arith, c.requires), omega (arith, c.requires))

pub braces::pairs-returns-in_err-push_pair-2-clause-fault : goal.braces::pairs-returns-in_err-push_pair-2-clause-fault
braces::pairs-returns-in_err-push_pair-2-clause-fault t c =
    let p = err_from_is_err_and c.from_residual-in_err-push_pair-2.result c.from_residual-in_err-push_pair-2.ensures.1 in
    let k = c.in_ok-key.ensures.value in
    rw (p.1, p.2) (stops_after (a_value c.args.depth ∷ inside pair_more c.args.depth c.args.opened ∷ [])
    (a_value c.args.depth ∷ inside pair_more c.args.depth c.args.opened ∷ []) (left c.args.rest.now) (left c.value_before.new.rest) _
    (value_reached c.args.first _ c.args.depth c.args.opened _ _ _ _ _ _ c.loop-pairs.invariant (took_comma close_brace c.args.opened (left c.loop-pairs.rest) (left c.more_follow.new.rest) _ c.if-branch.true c.in_ok-more_follow.ensures) k.value k.taken)
    c.in_err-push_pair-2.ensures.fault)

pub braces::pairs-loop-pairs-smaller : goal.braces::pairs-loop-pairs-smaller
braces::pairs-loop-pairs-smaller t c =
    let k = c.in_ok-key.ensures.value in
    let h = c.in_ok-push_pair-2.ensures.pair in
    shorter _ _ _ _ _ _ _ c.args.depth (took_comma close_brace c.args.opened (left c.loop-pairs.rest) (left c.more_follow.new.rest) _ c.if-branch.true c.in_ok-more_follow.ensures) k.value k.taken h.read

pub braces::pairs-loop-pairs-preserved : goal.braces::pairs-loop-pairs-preserved
braces::pairs-loop-pairs-preserved t c =
    let k = c.in_ok-key.ensures.value in
    let h = c.in_ok-push_pair-2.ensures.pair in
    pair_more_read _ _ _ _ _ _ _ _ _ _ _ _ _ c.loop-pairs.invariant (took_comma close_brace c.args.opened (left c.loop-pairs.rest) (left c.more_follow.new.rest) _ c.if-branch.true c.in_ok-more_follow.ensures) k.value k.taken h.read h.joined

pub braces::pairs-returns-clause-pairs : goal.braces::pairs-returns-clause-pairs
braces::pairs-returns-clause-pairs t c = all_pairs _ _ _ _ _ _ _ c.loop-pairs.invariant (took_close close_brace c.args.opened (left c.loop-pairs.rest) (left c.more_follow.new.rest) _ c.if-branch.false c.in_ok-more_follow.ensures)

pub braces::push_pair-value-requires : goal.braces::push_pair-value-requires
braces::push_pair-value-requires t c = (omega (arith, c.requires), omega (arith, c.requires))

pub braces::push_pair-returns-in_err-value-clause-fault : goal.braces::push_pair-returns-in_err-value-clause-fault
braces::push_pair-returns-in_err-value-clause-fault t c =
    let p = err_from_is_err_and c.from_residual.result c.from_residual.ensures.1 in
    rw (p.1, p.2) (carried_in _ _ (a_value c.args.depth ∷ inside pair_more c.args.depth c.args.opened ∷ []) (a_value c.args.depth ∷ []) (left c.args.rest.now)
    (left c.args.rest.now) c.in_err-value.ensures.fault (λ e more. (inside pair_more c.args.depth c.args.opened ∷ more, refl, sym c.refused.ensures)))

pub braces::push_pair-returns-clause-pair : goal.braces::push_pair-returns-clause-pair
braces::push_pair-returns-clause-pair t c = record { value = c.in_ok-value.value; joined = c.in_ok-push.ensures.items; read = c.in_ok-value.ensures.value }

pub sequence::elements-returns-in_err-first-clause-fault : goal.sequence::elements-returns-in_err-first-clause-fault
sequence::elements-returns-in_err-first-clause-fault t c =
    let p = err_from_is_err_and c.from_residual.result c.from_residual.ensures.1 in
    rw (p.1, p.2) (unclosed list_start _ _ [] _ _ c.in_err-first.ensures.0 (c.in_err-first.ensures.1 ∙ c.refused.ensures))

pub sequence::elements-returns-then-is_mark-clause-elements : goal.sequence::elements-returns-then-is_mark-clause-elements
sequence::elements-returns-then-is_mark-clause-elements t c = rw c.new-none.ensures.items (no_elements _ _ _ _ c.requires (record { first = c.in_ok-first.first; tokens = c.in_ok-first.ensures; kind = c.is_mark.ensures.0 c.if-is_mark.true }))

pub sequence::elements-values_until-requires : goal.sequence::elements-values_until-requires
sequence::elements-values_until-requires t c = (omega (arith, c.requires), (c.requires, tt))

pub sequence::elements-returns-clause-elements : goal.sequence::elements-returns-clause-elements
sequence::elements-returns-clause-elements t c = if_ok c.values_until.result
    (λ xs h. elements_of _ _ _ _ _ _ _ c.new-none.ensures.items c.in_ok-first.ensures
    (entered list_start list_more close_list c.args.depth c.args.opened _ _ _ list_opens c.in_ok-first.ensures (λ h. cc (c.if-is_mark.false, c.is_mark.ensures.1 h)))
    h) c.values_until.ensures.values

pub sequence::elements-returns-clause-fault : goal.sequence::elements-returns-clause-fault
sequence::elements-returns-clause-fault t c = if_err c.values_until.result
    (λ f h. carried_out f (inside list_start c.args.depth c.args.opened ∷ []) (a_value c.args.depth ∷ inside list_more c.args.depth c.args.opened ∷ [])
    (left c.args.rest.now) (c.in_ok-first.first ∷ left c.next.new.rest) h
    (λ e more. (
      more,
      (entered list_start list_more close_list c.args.depth c.args.opened _ _ _ list_opens c.in_ok-first.ensures
          (λ h. cc (c.if-is_mark.false, c.is_mark.ensures.1 h))) e more,
    ))) c.values_until.ensures.fault

pub sequence::members-returns-in_err-first-clause-fault : goal.sequence::members-returns-in_err-first-clause-fault
sequence::members-returns-in_err-first-clause-fault t c =
    let p = err_from_is_err_and c.from_residual.result c.from_residual.ensures.1 in
    rw (p.1, p.2) (unclosed tuple_start _ _ [] _ _ c.in_err-first.ensures.0 (c.in_err-first.ensures.1 ∙ c.refused-ended.ensures))

pub sequence::members-returns-then-is_mark-clause-members : goal.sequence::members-returns-then-is_mark-clause-members
sequence::members-returns-then-is_mark-clause-members t c = rw c.new.ensures.items (no_members _ _ _ _ c.requires (record { first = c.in_ok-first.first; tokens = c.in_ok-first.ensures; kind = c.is_mark.ensures.0 c.if-is_mark.true }))

pub sequence::members-value_from-requires : goal.sequence::members-value_from-requires
sequence::members-value_from-requires t c = (omega (arith, c.requires), omega (arith, c.requires))

pub sequence::members-returns-in_err-value_from-clause-fault : goal.sequence::members-returns-in_err-value_from-clause-fault
sequence::members-returns-in_err-value_from-clause-fault t c =
    let p = err_from_is_err_and c.from_residual-in_err-value_from.result c.from_residual-in_err-value_from.ensures.1 in
    rw (p.1, p.2) (stops_in_value (inside tuple_start c.args.depth c.args.opened ∷ []) tuple_one c.args.depth c.args.opened (left c.args.rest.now)
    (c.in_ok-first.first ∷ left c.next.new.rest) _ _ c.refused-ended.ensures
    (entered tuple_start tuple_one close_tuple c.args.depth c.args.opened _ _ _ tuple_opens c.in_ok-first.ensures
    (λ h. cc (c.if-is_mark.false, c.is_mark.ensures.1 h))) c.in_err-value_from.ensures.fault)

pub sequence::members-returns-in_err-expect-clause-fault : goal.sequence::members-returns-in_err-expect-clause-fault
sequence::members-returns-in_err-expect-clause-fault t c =
    let p = err_from_is_err_and c.from_residual-in_err-expect.result c.from_residual-in_err-expect.ensures.1 in
    rw (p.1, p.2) (stops_after (inside tuple_start c.args.depth c.args.opened ∷ []) (inside tuple_one c.args.depth c.args.opened ∷ []) (left c.args.rest.now)
    (left c.value_from.new.rest) _ (HoldsFirst.reaches (holds_first tuple_start tuple_one close_tuple c.args.depth c.args.opened _ _ _ _ _ tuple_opens
    c.in_ok-first.ensures (λ h. cc (c.if-is_mark.false, c.is_mark.ensures.1 h)) c.in_ok-value_from.ensures.value))
    (not_taken tuple_one (λ t. t ≡ mark comma) c.args.depth c.args.opened [] _ _ wants_comma c.in_err-expect.ensures))

pub sequence::members-returns-in_err-second-clause-fault : goal.sequence::members-returns-in_err-second-clause-fault
sequence::members-returns-in_err-second-clause-fault t c =
    let p = err_from_is_err_and c.from_residual-in_err-second.result c.from_residual-in_err-second.ensures.1 in
    rw (p.1, p.2) (stops_after (inside tuple_start c.args.depth c.args.opened ∷ []) (inside tuple_two c.args.depth c.args.opened ∷ []) (left c.args.rest.now)
    (left c.expect.new.rest) _ (FirstMember.reaches (first_member c.args.depth c.args.opened _ _ _ _
    (holds_first tuple_start tuple_one close_tuple c.args.depth c.args.opened _ _ _ _ _ tuple_opens c.in_ok-first.ensures
    (λ h. cc (c.if-is_mark.false, c.is_mark.ensures.1 h)) c.in_ok-value_from.ensures.value) c.in_ok-expect.ensures))
    (unclosed tuple_two _ _ [] _ _ c.in_err-second.ensures.0 (c.in_err-second.ensures.1 ∙ c.refused-ended.ensures)))

pub sequence::members-returns-then-is_mark-2-clause-members : goal.sequence::members-returns-then-is_mark-2-clause-members
sequence::members-returns-then-is_mark-2-clause-members t c = one_member _ _ _ _ _ _ _
    (first_member c.args.depth c.args.opened _ _ _ _ (holds_first tuple_start tuple_one close_tuple c.args.depth c.args.opened _ _ _ _ _ tuple_opens
    c.in_ok-first.ensures (λ h. cc (c.if-is_mark.false, c.is_mark.ensures.1 h)) c.in_ok-value_from.ensures.value) c.in_ok-expect.ensures)
    (record { first = c.in_ok-second.second; tokens = c.in_ok-second.ensures; kind = c.is_mark-2.ensures.0 c.if-is_mark-2.true })
    (c.in_ok-push.ensures.items ∙ ap (λ xs. xs ++ c.in_ok-value_from.field-0 ∷ []) c.new-members.ensures.items)

pub sequence::members-values_until-requires : goal.sequence::members-values_until-requires
sequence::members-values_until-requires t c = (omega (arith, c.requires), (c.requires, tt))

pub sequence::members-returns-clause-members : goal.sequence::members-returns-clause-members
sequence::members-returns-clause-members t c = if_ok c.values_until.result
    (λ xs h. more_members _ _ _ _ _ _ _ _ _ _ (first_member c.args.depth c.args.opened _ _ _ _
    (holds_first tuple_start tuple_one close_tuple c.args.depth c.args.opened _ _ _ _ _ tuple_opens c.in_ok-first.ensures
    (λ h. cc (c.if-is_mark.false, c.is_mark.ensures.1 h)) c.in_ok-value_from.ensures.value) c.in_ok-expect.ensures) c.in_ok-second.ensures
    (λ h. cc (c.if-is_mark-2.false, c.is_mark-2.ensures.1 h)) (c.in_ok-push.ensures.items
    ∙ ap (λ xs. xs ++ c.in_ok-value_from.field-0 ∷ []) c.new-members.ensures.items) h) c.values_until.ensures.values

pub sequence::members-returns-clause-fault : goal.sequence::members-returns-clause-fault
sequence::members-returns-clause-fault t c = if_err c.values_until.result
    (λ f h. stops_after (inside tuple_start c.args.depth c.args.opened ∷ []) (a_value c.args.depth ∷ inside tuple_more c.args.depth c.args.opened ∷ [])
    (left c.args.rest.now) (c.in_ok-second.second ∷ left c.next-2.new.rest) f
    (second_reached c.args.depth c.args.opened _ _ _ _ _ (first_member c.args.depth c.args.opened _ _ _ _
    (holds_first tuple_start tuple_one close_tuple c.args.depth c.args.opened _ _ _ _ _ tuple_opens c.in_ok-first.ensures
    (λ h. cc (c.if-is_mark.false, c.is_mark.ensures.1 h)) c.in_ok-value_from.ensures.value) c.in_ok-expect.ensures) c.in_ok-second.ensures
    (λ h. cc (c.if-is_mark-2.false, c.is_mark-2.ensures.1 h))) h) c.values_until.ensures.fault

pub sequence::values_until-value_from-requires : goal.sequence::values_until-value_from-requires
sequence::values_until-value_from-requires t c = (omega (arith, c.requires.depth), omega (arith, c.requires.depth))

pub sequence::values_until-loop-values-init : goal.sequence::values_until-loop-values-init
sequence::values_until-loop-values-init t c = one_value _ _ _ _ _ _ _ _ c.in_ok-push.ensures.items c.in_ok-value_from.ensures.value

pub sequence::values_until-returns-in_err-more_follow-clause-fault : goal.sequence::values_until-returns-in_err-more_follow-clause-fault
sequence::values_until-returns-in_err-more_follow-clause-fault t c =
    let p = err_from_is_err_and c.from_residual-in_err-more_follow.result c.from_residual-in_err-more_follow.ensures.1 in
    rw (p.1, p.2) (carried_out _ (a_value c.args.depth ∷ inside (more_stage c.args.close) c.args.depth c.args.opened ∷ [])
    (inside (more_stage c.args.close) c.args.depth c.args.opened ∷ []) (c.args.first ∷ left c.args.rest.now) (left c.loop-values.rest)
    (not_separated c.args.close c.args.depth c.args.opened _ _ c.requires.closes c.in_err-more_follow.ensures)
    (λ e more. (more, c.loop-values.invariant.passes e more)))

pub sequence::values_until-value-requires : goal.sequence::values_until-value-requires
sequence::values_until-value-requires t c = (omega (arith, c.requires.depth), omega (arith, c.requires.depth))

pub sequence::values_until-returns-in_err-value-clause-fault : goal.sequence::values_until-returns-in_err-value-clause-fault
sequence::values_until-returns-in_err-value-clause-fault t c =
    let p = err_from_is_err_and c.from_residual-in_err-value.result c.from_residual-in_err-value.ensures.1 in
    rw (p.1, p.2) (carried_in _ _ (a_value c.args.depth ∷ inside (more_stage c.args.close) c.args.depth c.args.opened ∷ []) (a_value c.args.depth ∷ [])
    (c.args.first ∷ left c.args.rest.now) (left c.more_follow.new.rest) c.in_err-value.ensures.fault
    (λ e more. (
      inside (more_stage c.args.close) c.args.depth c.args.opened ∷ more,
      c.loop-values.invariant.passes e more
          ∙ separated c.args.close c.args.depth c.args.opened _ _ c.requires.closes
          (took_comma (mark_of c.args.close) c.args.opened (left c.loop-values.rest) (left c.more_follow.new.rest) _ c.if-branch.true c.in_ok-more_follow.ensures) e
          more,
      sym c.refused-ended.ensures,
    )))

pub sequence::values_until-loop-values-smaller : goal.sequence::values_until-loop-values-smaller
sequence::values_until-loop-values-smaller t c =
    let t = (took_comma (mark_of c.args.close) c.args.opened (left c.loop-values.rest) (left c.more_follow.new.rest) _ c.if-branch.true c.in_ok-more_follow.ensures) in
    omega (arith, ap length t.tokens, no_longer (tokens_of c.in_ok-value.field-0) (left c.more_follow.new.rest) (left c.value.new.rest) c.in_ok-value.ensures.value.tokens)

pub sequence::values_until-loop-values-preserved : goal.sequence::values_until-loop-values-preserved
sequence::values_until-loop-values-preserved t c = one_more _ _ _ _ _ _ _ _ _ _ _ c.requires.closes c.loop-values.invariant
    (took_comma (mark_of c.args.close) c.args.opened (left c.loop-values.rest) (left c.more_follow.new.rest) _ c.if-branch.true c.in_ok-more_follow.ensures)
    c.in_ok-value.ensures.value c.in_ok-push-2.ensures.items

pub sequence::values_until-returns-clause-values : goal.sequence::values_until-returns-clause-values
sequence::values_until-returns-clause-values t c = all_values _ _ _ _ _ _ _ _ c.requires.closes c.loop-values.invariant (took_close (mark_of c.args.close) c.args.opened (left c.loop-values.rest) (left c.more_follow.new.rest) _ c.if-branch.false c.in_ok-more_follow.ensures)

pub value::after_first-after_word-requires : goal.value::after_first-after_word-requires
value::after_first-after_word-requires t c = (omega (arith, c.requires.depth), omega (arith, c.requires.depth))

pub value::after_first-after_mark-requires : goal.value::after_first-after_mark-requires
value::after_first-after_mark-requires t c = (omega (arith, c.requires.depth), (c.requires.depth, subst (λ k. IsSome (begun_wants c.args.depth c.args.first.span (token_of k))) c.in-Mark.is c.requires.begins))

pub value::after_first-returns-in-Text-clause-value : goal.value::after_first-returns-in-Text-clause-value
value::after_first-returns-in-Text-clause-value t c = rw c.in-Text.is (is_text _ _ _ _ c.requires.depth)

pub value::after_first-returns-in-ByteString-clause-value : goal.value::after_first-returns-in-ByteString-clause-value
value::after_first-returns-in-ByteString-clause-value t c = rw c.in-ByteString.is (is_bytes _ _ _ _ c.requires.depth)

pub value::after_first-returns-in-Integer-clause-value : goal.value::after_first-returns-in-Integer-clause-value
value::after_first-returns-in-Integer-clause-value t c = rw c.in-Integer.is (is_integer _ _ _ _ _ c.requires.depth)

pub value::after_first-returns-in-Word-clause-fault : goal.value::after_first-returns-in-Word-clause-fault
value::after_first-returns-in-Word-clause-fault t c = rw c.in-Word.is (c.after_word.ensures.fault c.args.first.span)

pub value::after_mark-elements-requires : goal.value::after_mark-elements-requires
value::after_mark-elements-requires t c = (omega (arith, c.requires.depth), omega (arith, c.requires.depth))

pub value::after_mark-returns-in_err-elements-in-OpenArray-clause-fault : goal.value::after_mark-returns-in_err-elements-in-OpenArray-clause-fault
value::after_mark-returns-in_err-elements-in-OpenArray-clause-fault t c =
    let p = err_from_is_err_and c.from_residual.result c.from_residual.ensures.1 in
    rw (p.1, p.2) (rw c.in-OpenArray.is (rw add-one at c.in_err-elements-in-OpenArray.ensures.fault))

pub value::after_mark-members-requires : goal.value::after_mark-members-requires
value::after_mark-members-requires t c = (omega (arith, c.requires.depth), omega (arith, c.requires.depth))

pub value::after_mark-returns-in_err-members-in-OpenTuple-clause-fault : goal.value::after_mark-returns-in_err-members-in-OpenTuple-clause-fault
value::after_mark-returns-in_err-members-in-OpenTuple-clause-fault t c =
    let p = err_from_is_err_and c.from_residual-in_err-members-in-OpenTuple.result c.from_residual-in_err-members-in-OpenTuple.ensures.1 in
    rw (p.1, p.2) (rw c.in-OpenTuple.is (rw add-one at c.in_err-members-in-OpenTuple.ensures.fault))

pub value::after_mark-braces-requires : goal.value::after_mark-braces-requires
value::after_mark-braces-requires t c = (omega (arith, c.requires.depth), omega (arith, c.requires.depth))

pub value::after_mark-returns-in_ok-elements-in-OpenArray-clause-value : goal.value::after_mark-returns-in_ok-elements-in-OpenArray-clause-value
value::after_mark-returns-in_ok-elements-in-OpenArray-clause-value t c = rw c.in-OpenArray.is (is_array _ _ _ _ _ c.in_ok-elements-in-OpenArray.ensures.elements)

pub value::after_mark-returns-in_ok-members-in-OpenTuple-clause-value : goal.value::after_mark-returns-in_ok-members-in-OpenTuple-clause-value
value::after_mark-returns-in_ok-members-in-OpenTuple-clause-value t c = rw c.in-OpenTuple.is (is_tuple _ _ _ _ _ c.in_ok-members-in-OpenTuple.ensures.members)

pub value::after_mark-returns-in-OpenBrace-clause-fault : goal.value::after_mark-returns-in-OpenBrace-clause-fault
value::after_mark-returns-in-OpenBrace-clause-fault t c = rw c.in-OpenBrace.is (rw add-one at c.braces.ensures.fault)

pub value::after_word-returns-in-Truth-clause-value : goal.value::after_word-returns-in-Truth-clause-value
value::after_word-returns-in-Truth-clause-value t c = λ s. rw c.in-Truth.is (is_truth _ _ s _ c.requires)

pub value::after_word-returns-in-Nothing-clause-value : goal.value::after_word-returns-in-Nothing-clause-value
value::after_word-returns-in-Nothing-clause-value t c = λ s. rw c.in-Nothing.is (is_nothing _ s _ c.requires)

pub value::value-returns-in_err-first-clause-fault : goal.value::value-returns-in_err-first-clause-fault
value::value-returns-in_err-first-clause-fault t c =
    let p = err_from_is_err_and c.from_residual.result c.from_residual.ensures.1 in
    rw (p.1, p.2) (missing _ _ _ _ c.in_err-first.ensures.0 c.in_err-first.ensures.1)

pub value::value-value_from-requires : goal.value::value-value_from-requires
value::value-value_from-requires t c = (omega (arith, c.requires), omega (arith, c.requires))

pub value::value_from-returns-in_err-check_begin-clause-fault : goal.value::value_from-returns-in_err-check_begin-clause-fault
value::value_from-returns-in_err-check_begin-clause-fault t c =
    let p = err_from_is_err_and c.from_residual.result c.from_residual.ensures.1 in
    rw (p.1, p.2) (always _ _ (a_value c.args.depth ∷ []) (c.args.first ∷ left c.args.rest.now) (does_not_begin c.args.depth c.args.first (left c.args.rest.now) _ c.in_err-check_begin.ensures))

pub value::value_from-after_first-requires : goal.value::value_from-after_first-requires
value::value_from-after_first-requires t c =
    let b = c.in_ok-check_begin.ensures in
    (omega (arith, c.requires, b.1), (b.1, b.0))

pub value::value_from-returns-in_err-kind-clause-fault : goal.value::value_from-returns-in_err-kind-clause-fault
value::value_from-returns-in_err-kind-clause-fault t c =
    let p = err_from_is_err_and c.from_residual-in_err-kind.result c.from_residual-in_err-kind.ensures.1 in
    rw (p.1, p.2) (carried _ _ _ (a_value c.args.depth ∷ []) _ _ _ c.in_err-kind.ensures.fault (λ e more q. (more, begins _ _ _ c.in_ok-check_begin.ensures.0 c.in_ok-check_begin.ensures.1 e more, q)))

pub value::value_from-returns-clause-value : goal.value::value_from-returns-clause-value
value::value_from-returns-clause-value t c = whole_value _ _ _ _ _ c.in_ok-check_begin.ensures.0 c.in_ok-check_begin.ensures.1 c.in_ok-kind.ensures.value

pub value::after_first-value-requires : goal.value::after_first-value-requires
value::after_first-value-requires t c = (omega (arith, c.requires.depth), omega (arith, c.requires.depth))

pub value::after_first-returns-in_ok-new-in-Type-clause-value : goal.value::after_first-returns-in_ok-new-in-Type-clause-value
value::after_first-returns-in_ok-new-in-Type-clause-value t c = rw c.in-Type.is (is_of_type _ _ _ _ _ c.in_ok-new-in-Type.field-0 (rw c.in_ok-new-in-Type.ensures.ok c.in_ok-inner-in-Type.ensures.value))

pub value::after_mark-value_before-requires : goal.value::after_mark-value_before-requires
value::after_mark-value_before-requires t c = (omega (arith, c.requires.depth), (omega (arith, c.requires.depth), tt))

pub value::after_mark-returns-in_err-inner-in-OpenVariant-clause-fault : goal.value::after_mark-returns-in_err-inner-in-OpenVariant-clause-fault
value::after_mark-returns-in_err-inner-in-OpenVariant-clause-fault t c =
    let p = err_from_is_err_and c.from_residual-in_err-inner-in-OpenVariant.result c.from_residual-in_err-inner-in-OpenVariant.ensures.1 in
    rw (p.1, p.2) (rw c.in-OpenVariant.is (rw add-one at c.in_err-inner-in-OpenVariant.ensures.fault))

pub value::after_mark-returns-in_ok-new-in-OpenVariant-clause-value : goal.value::after_mark-returns-in_ok-new-in-OpenVariant-clause-value
value::after_mark-returns-in_ok-new-in-OpenVariant-clause-value t c =
    let h = c.in_ok-inner-in-OpenVariant.ensures.value in
    rw c.in-OpenVariant.is (is_boxed _ _ _ _ _ c.in_ok-new-in-OpenVariant.field-0 (rw c.in_ok-new-in-OpenVariant.ensures.ok h.value) h.taken)

pub value::after_word-value-requires : goal.value::after_word-value-requires
value::after_word-value-requires t c = (omega (arith, c.requires), omega (arith, c.requires))

pub value::after_word-value-requires-in-Type : goal.value::after_word-value-requires-in-Type
value::after_word-value-requires-in-Type t c = (omega (arith, c.requires), omega (arith, c.requires))

pub value::after_word-returns-in_ok-new-in-Just-clause-value : goal.value::after_word-returns-in_ok-new-in-Just-clause-value
value::after_word-returns-in_ok-new-in-Just-clause-value t c = λ s. rw c.in-Just.is (is_just _ s _ _ c.in_ok-new-in-Just.field-0 (rw c.in_ok-new-in-Just.ensures.ok c.in_ok-inner-in-Just.ensures.value))

pub value::after_word-returns-in_ok-new-in-Type-clause-value : goal.value::after_word-returns-in_ok-new-in-Type-clause-value
value::after_word-returns-in_ok-new-in-Type-clause-value t c = λ s. rw c.in-Type.is (is_keyword _ _ s _ _ c.in_ok-new-in-Type.field-0 (rw c.in_ok-new-in-Type.ensures.ok c.in_ok-inner-in-Type.ensures.value))

pub value::value_before-value-requires : goal.value::value_before-value-requires
value::value_before-value-requires t c = (omega (arith, c.requires.depth), omega (arith, c.requires.depth))

pub value::value_before-returns-in_err-value-clause-fault : goal.value::value_before-returns-in_err-value-clause-fault
value::value_before-returns-in_err-value-clause-fault t c =
    let p = err_from_is_err_and c.from_residual.result c.from_residual.ensures.1 in
    rw (p.1, p.2) (carried_in _ _ (a_value c.args.depth ∷ inside (end_stage c.args.mark) c.args.depth c.args.opened ∷ []) (a_value c.args.depth ∷ []) (left c.args.rest.now)
    (left c.args.rest.now) c.in_err-value.ensures.fault (λ e more. (inside (end_stage c.args.mark) c.args.depth c.args.opened ∷ more, refl, sym c.refused.ensures)))

pub value::value_before-returns-clause-value : goal.value::value_before-returns-clause-value
value::value_before-returns-clause-value t c = rw c.and.ensures (value_read _ _ _ _ _ _ c.expect.result _ c.in_ok-value.ensures.value c.expect.ensures)

pub value::value_before-returns-clause-fault : goal.value::value_before-returns-clause-fault
value::value_before-returns-clause-fault t c = rw c.and.ensures (not_ended _ _ _ _ _ _ c.expect.result _ c.requires.ends c.in_ok-value.ensures.value c.expect.ensures)
