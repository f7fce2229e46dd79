use Rattle.std.proofs.Common.{rules, ℕ, ◌≡◌, ◌+◌, ◌*◌, ◌≤◌, List, length, refl, sym, ap, ap₂, ◌∙◌, subst, arith}
use Rattle.gv_model.proofs.NumberBytes.{le-round_up}
use Rattle.gv_model.specs.Layout.{round_up}
use Rattle.gv_model.specs.Limits.{limit}
use Rattle.dconf_model.specs.Plans.{length_of, root_end, locks_end, values_end}
use Rattle.gvdb_maps.specs.declared.names.Named.{Named}
use Rattle.gvdb_maps.specs.PlanWords.{plan_of, entries_of}
use Rattle.gvdb_maps.specs.LayoutParts.{HavePlaces, all_keys_end, table_end, laid_end}
use Rattle.gvdb_values.specs.WrittenValues.{bytes_of_each}
use Rattle.gvdb_maps.proofs.KnownContents.{lists_end_there}
use Rattle.gvdb_maps.proofs.LayoutEnds.{header_end, root_keys, locks_within, root_within, whole_is}
use Rattle.gvdb_maps.proofs.PastEnds.{past_is_over, still_over}
use Rattle.gvdb_maps.proofs.PlanValues.{placed_once}
use Rattle.gvdb_maps.proofs.layout.Layout.new.Goals as goal

pub returns-in_err-root_at-clause-fault : goal.returns-in_err-root_at-clause-fault
returns-in_err-root_at-clause-fault c =
    let root = c.args.root.now in
    let locks = c.args.locks.now in
    let items : List Named = c.deref.result.now in
    let ends = lists_end_there root locks items (laid_end 24 items) (length root.children.items) c.requires.root c.requires.entries c.requires.children c.requires.top c.deref.ensures.value refl refl in
    let up = le-round_up 4 (laid_end 24 items) (omega arith) in
    let within = root_within root locks in
    past_is_over c.from_residual.result (laid_end 24 items) (length_of (plan_of root locks)) (λ past. omega (arith, ends, up, within, past)) (search rules)

pub returns-in_err-lists-clause-fault : goal.returns-in_err-lists-clause-fault
returns-in_err-lists-clause-fault c =
    let root = c.args.root.now in
    let locks = c.args.locks.now in
    let ends = lists_end_there root locks c.deref.result.now c.lay_items.new.cursor.at c.len.result c.requires.root c.requires.entries c.requires.children c.requires.top
    c.deref.ensures.value c.in_ok-root_at.ensures.at (c.len.ensures ∙ root.children.ok.0) in
    let within = root_within root locks in
    past_is_over c.from_residual-in_err-lists.result (round_up 4 c.lay_items.new.cursor.at + 4 * c.len.result) (length_of (plan_of root locks)) (λ past. omega (arith, ends, within, past)) (search rules)

pub returns-in_err-locks_at-clause-fault : goal.returns-in_err-locks_at-clause-fault
returns-in_err-locks_at-clause-fault c =
    let root = c.args.root.now in
    let locks = c.args.locks.now in
    let ends = lists_end_there root locks c.deref.result.now c.lay_items.new.cursor.at c.len.result c.requires.root c.requires.entries c.requires.children c.requires.top
    c.deref.ensures.value c.in_ok-root_at.ensures.at (c.len.ensures ∙ root.children.ok.0) in
    let at : locks_end (entries_of c.deref-2.result.now) c.lay_lists.new.cursor.at ≡ locks_end (entries_of locks.items.items) (root_end (plan_of root locks)) =
    ap (λ (n : ℕ). locks_end (entries_of c.deref-2.result.now) n) (c.in_ok-lists.ensures.at ∙ ends)
    ∙ ap (λ (items : List Named). locks_end (entries_of items) (root_end (plan_of root locks))) c.deref-2.ensures.value in
    let within = locks_within root locks in
    past_is_over c.from_residual-in_err-locks_at.result (locks_end (entries_of c.deref-2.result.now) c.lay_lists.new.cursor.at) (length_of (plan_of root locks)) (λ past. omega (arith, at, within, past))
    (search rules)

pub returns-in_err-pointers-clause-fault : goal.returns-in_err-pointers-clause-fault
returns-in_err-pointers-clause-fault c =
    let root = c.args.root.now in
    let locks = c.args.locks.now in
    let at = c.in_ok-lists.ensures.at
    ∙ lists_end_there root locks c.deref.result.now c.lay_items.new.cursor.at c.len.result c.requires.root c.requires.entries c.requires.children c.requires.top
    c.deref.ensures.value c.in_ok-root_at.ensures.at (c.len.ensures ∙ root.children.ok.0) in
    let lock_at = c.in_ok-locks_at.ensures.at ∙ ap (λ (items : List Named). locks_end (entries_of items) c.lay_lists.new.cursor.at) c.deref-2.ensures.value in
    let all : List (List ℕ) = bytes_of_each c.deref-5.result.now in
    let once = ap bytes_of_each c.deref-5.ensures.value ∙ placed_once root locks _ _ _ c.requires.nothing c.deref-3.ensures.value c.deref-4.ensures.value c.in_ok-values.ensures.distinct in
    let ends = whole_is root locks c.lay_lists.new.cursor.at c.lay_locks.new.cursor.at (values_end c.lay_locks.new.cursor.at all) all at lock_at once refl in
    still_over c.from_residual-in_err-pointers.result (values_end c.lay_locks.new.cursor.at all) (length_of (plan_of root locks)) (λ past. omega (arith, ends, past)) (search rules)

pub returns-clause-layout : goal.returns-clause-layout
returns-clause-layout c =
    let root = c.args.root.now in
    let locks = c.args.locks.now in
    let values = c.in_ok-values.values in
    let at = c.lay_locks.new.cursor.at in
    let all : List (List ℕ) = bytes_of_each values.distinct.items in
    let same = ap bytes_of_each c.deref-5.ensures.value in
    let root_at = c.in_ok-lists.ensures.at
    ∙ lists_end_there root locks c.deref.result.now c.lay_items.new.cursor.at c.len.result c.requires.root c.requires.entries c.requires.children c.requires.top
    c.deref.ensures.value c.in_ok-root_at.ensures.at (c.len.ensures ∙ root.children.ok.0) in
    let lock_at = c.in_ok-locks_at.ensures.at ∙ ap (λ (items : List Named). locks_end (entries_of items) c.lay_lists.new.cursor.at) c.deref-2.ensures.value in
    let once = placed_once root locks _ _ _ c.requires.nothing c.deref-3.ensures.value c.deref-4.ensures.value c.in_ok-values.ensures.distinct in
    let some : length c.deref-2.result.now ≡ length locks.items.items = ap length c.deref-2.ensures.value in
    let whole = whole_is root locks c.lay_lists.new.cursor.at at c.lay_values.new.cursor.at all root_at lock_at once (c.in_ok-pointers.ensures.at ∙ ap (values_end at) same) in
    let within = c.lay_values.new.cursor.within in
    record {
      start_is = c.in_ok-root_at.ensures.start ∙ header_end;
      end_is = c.in_ok-root_at.ensures.end ∙ (ap (λ (items : List Named). table_end 24 (length items)) c.deref.ensures.value ∙ root_keys root locks);
      lists_is = c.in_ok-lists.ensures.start
          ∙ (ap (round_up 4) (c.in_ok-root_at.ensures.at ∙ ap (laid_end 24) c.deref.ensures.value)
          ∙ ap (λ (n : ℕ). round_up 4 (all_keys_end n root.items.items)) (root_keys root locks));
      locks_start_is = λ h. c.in_ok-locks_at.ensures.start (omega (arith, h, some)) ∙ ap (round_up 4) root_at;
      locks_end_is = λ h. c.in_ok-locks_at.ensures.end (omega (arith, h, some)) ∙ ap₂ table_end root_at some;
      locks_short = c.in_ok-locks_at.ensures.short;
      lock_keys = subst (λ (items : List Named). all_keys_end c.in_ok-locks_at.locks_at.end items ≤ limit) c.deref-2.ensures.value c.in_ok-locks_at.ensures.keys;
      values = once;
      root_places = subst (λ (items : List Named). HavePlaces items all values.root.items) c.deref-3.ensures.value c.in_ok-values.ensures.root;
      lock_places = subst (λ (items : List Named). HavePlaces items all values.locks.items) c.deref-4.ensures.value c.in_ok-values.ensures.locks;
      pointers = rw (sym same, sym (lock_at ∙ ap (locks_end (entries_of locks.items.items)) root_at)) c.in_ok-pointers.ensures.pointers;
      whole = whole;
      within = omega (arith, whole, within);
    }
