use Rattle.std.proofs.Common.{◌∙◌, ◌+◌, ap, sym, subst, arith, drop}
use Rattle.std.specs.Prelude.{string_bytes}
use Rattle.std.proofs.lemmas.List.{drop_all}
use Rattle.gv_model.specs.LeastTypes.{least_in, leasts_in}
use Rattle.gv_patterns.proofs.PatternLists.{drop_item}
use Rattle.gv_patterns.specs.Forms.{bare_of, form_of, patterns_of}
use Rattle.gv_patterns.specs.Parts.{parts, all_parts}
use Rattle.gv_patterns.proofs.FoundLaws.{bare_basics, bare_variant, bare_array, bare_tuple, bare_entry, bare_none, pattern_any, pattern_none, pattern_maybe, pattern_strict, pattern_loose, goes_on, gone_on, GoesOn}
use Rattle.gv_patterns.proofs.+least.Goals as goal

pub least::write_least_bare-returns-in-Basic : goal.least::write_least_bare-returns-in-Basic
least::write_least_bare-returns-in-Basic t c = bare_basics _ _ c.write_least_basic.result _ _ (ap bare_of c.in-Basic.is) c.write_least_basic.ensures

pub least::write_least_bare-returns-in_ok-push_str-in-Variant : goal.least::write_least_bare-returns-in_ok-push_str-in-Variant
least::write_least_bare-returns-in_ok-push_str-in-Variant t c = bare_variant _ _ _ (ap bare_of c.in-Variant.is) c.in_ok-push_str-in-Variant.ensures.bytes

pub least::write_least_bare-returns-in_ok-push_str-in-Array : goal.least::write_least_bare-returns-in_ok-push_str-in-Array
least::write_least_bare-returns-in_ok-push_str-in-Array t c = bare_array _ _ _ c.write_least.result _ _ _ (ap bare_of c.in-Array.is) c.deref.ensures c.in_ok-push_str-in-Array.ensures.bytes c.write_least.ensures

pub least::write_least_bare-returns-in_ok-push_str-in-Tuple-2 : goal.least::write_least_bare-returns-in_ok-push_str-in-Tuple-2
least::write_least_bare-returns-in_ok-push_str-in-Tuple-2 t c = bare_tuple _ c.in-Tuple.ps.items c.as_slice.result.now _ _ _ _ _ (ap bare_of c.in-Tuple.is) c.as_slice.ensures.value c.in_ok-push_str-in-Tuple.ensures.bytes c.in_ok-push_str-in-Tuple-2.ensures.bytes c.in_ok-found-in-Tuple.ensures

pub least::write_least_bare-returns-in_ok-push_str-in-Entry-2 : goal.least::write_least_bare-returns-in_ok-push_str-in-Entry-2
least::write_least_bare-returns-in_ok-push_str-in-Entry-2 t c = rw c.and.ensures
    (bare_entry _ _ _ _ _ _ _ _ _ _ _ (ap bare_of c.in-Entry.is) c.deref-in-Entry.ensures c.in_ok-push_str-in-Entry.ensures.bytes
    c.in_ok-push_str-in-Entry-2.ensures.bytes c.in_ok-key-in-Entry.ensures c.in_ok-value-in-Entry.ensures)

pub least::write_least_bare-returns-in-Empty : goal.least::write_least_bare-returns-in-Empty
least::write_least_bare-returns-in-Empty t c = bare_none _ _ _ (ap bare_of c.in-Empty.is)

pub pattern::Pattern::write_least-returns-in_ok-push_str-in-Anything : goal.pattern::Pattern::write_least-returns-in_ok-push_str-in-Anything
pattern::Pattern::write_least-returns-in_ok-push_str-in-Anything t c = pattern_any _ _ _ (sym c.self.view_is ∙ ap form_of c.in-Anything.is) c.in_ok-push_str-in-Anything.ensures.bytes

pub pattern::Pattern::write_least-returns-in-Never : goal.pattern::Pattern::write_least-returns-in-Never
pattern::Pattern::write_least-returns-in-Never t c = pattern_none _ _ _ (sym c.self.view_is ∙ ap form_of c.in-Never.is)

pub pattern::Pattern::write_least-returns-in_ok-push_str-in-MaybeOf : goal.pattern::Pattern::write_least-returns-in_ok-push_str-in-MaybeOf
pattern::Pattern::write_least-returns-in_ok-push_str-in-MaybeOf t c = pattern_maybe _ _ _ c.write_least.result _ _ _ (sym c.self.view_is ∙ ap form_of c.in-MaybeOf.is) c.deref.ensures c.in_ok-push_str-in-MaybeOf.ensures.bytes c.write_least.ensures

pub pattern::Pattern::write_least-returns-in-Strict : goal.pattern::Pattern::write_least-returns-in-Strict
pattern::Pattern::write_least-returns-in-Strict t c = pattern_strict _ _ c.write_least_bare.result _ _ (sym c.self.view_is ∙ ap form_of c.in-Strict.is) c.write_least_bare.ensures

pub pattern::Pattern::write_least-returns-in-Loose : goal.pattern::Pattern::write_least-returns-in-Loose
pattern::Pattern::write_least-returns-in-Loose t c = pattern_loose _ _ c.write_least_bare-in-Loose.result _ _ (sym c.self.view_is ∙ ap form_of c.in-Loose.is) c.write_least_bare-in-Loose.ensures

pub least::write_leasts-loop-p-preserved : goal.least::write_leasts-loop-p-preserved
unfolding parts least_in
least::write_leasts-loop-p-preserved t c =
    let here = drop_item c.args.ps.now c.loop-p.p-index c.p-item.result c.loop-p-test.true c.p-item.is in record {
      small = omega (arith, ap (λ l. all_parts (patterns_of l)) here, c.loop-p.invariant.small);
      goes_on = rw c.and-found.ensures (goes_on (least_in c.p-item.result)
          (leasts_in (patterns_of (drop (c.loop-p.p-index + 1) c.args.ps.now))) _ _ _ _ _ _ c.in_ok-write_least.ensures
          (subst (λ l. GoesOn (leasts_in (patterns_of l)) (leasts_in (patterns_of c.args.ps.now)) (string_bytes c.args.text.now)
          (string_bytes c.loop-p.text) c.loop-p.found) here c.loop-p.invariant.goes_on));
    }

pub least::write_leasts-returns : goal.least::write_leasts-returns
unfolding least_in
least::write_leasts-returns t c =
    let all = drop_all c.loop-p.p-index c.args.ps.now c.loop-p-test.false in
    gone_on _ _ _ _ (subst (λ l. GoesOn (leasts_in (patterns_of l)) (leasts_in (patterns_of c.args.ps.now)) (string_bytes c.args.text.now) (string_bytes c.loop-p.text) c.loop-p.found) all c.loop-p.invariant.goes_on)
