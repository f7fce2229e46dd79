use Rattle.std.proofs.Common.{◌≡◌, ◌+◌, refl, arith, false, length, take, sym, ap, ◌∙◌, [], ◌∷◌}
use Rattle.std.proofs.lemmas.Iterator.Consumers.{YieldsList-turn, YieldsList-end}
use Rattle.std.proofs.lemmas.List.{length_push, length-take-le, map-append}
use Rattle.std.proofs.lemmas.List.FromFn.{length-enumerate_from}
use Rattle.std.proofs.lemmas.Str.Pattern.{starts_text}
use Rattle.dconf_model.specs.Causes.SettingsCause.{lock_not_key}
use Rattle.dconf_model.specs.Locks.{lock_line}
use Rattle.dconf_model.specs.Paths.{is_path}
use Rattle.dconf_path.proofs.LineSteps.{parts_of, numbered_parts, part_yielded, read_none, read_nothing, read_found, read_wrong, read_all, read_parts}
use Rattle.dconf_path.proofs.LockLines.{empty_line, no_lock, no_path, a_lock, refuted}
use Rattle.dconf_path.proofs.locks.read_locks.Goals as goal

pub loop-before-init : goal.loop-before-init
loop-before-init c = rw c.new-locks.ensures.items (read_none lock_line (parts_of c.args.text.now))

pub loop-before-preserved-then-not-starts_with : goal.loop-before-preserved-then-not-starts_with
loop-before-preserved-then-not-starts_with c =
    let road = numbered_parts c.args.text.now c.split.result c.enumerate-before-items.result c.into_iter-before-iterator.result
    c.split.ensures.text c.split.ensures.has_more c.split.ensures.pattern c.enumerate-before-items.ensures.source
    c.enumerate-before-items.ensures.count c.into_iter-before-iterator.ensures.into_iter_gives in
    let part = part_yielded (parts_of c.args.text.now) (length c.loop-before.yielded) c.in-Some.before c.in-Some.line.now
    (YieldsList-turn road c.loop-before.yielded _ c.loop-before.yielded_by _ _ (c.in-Some.before, c.in-Some.line) c.in-Some.is c.next.ensures.steps) in
    let starts = sym (starts_text c.starts_with.result (47 ∷ []) c.in-Some.line.now c.starts_with.ensures.cases) ∙ c.if-not-starts_with.true in
    let earlier = take (length c.loop-before.yielded) (parts_of c.args.text.now) in
    rw length_push (read_nothing lock_line (parts_of c.args.text.now) _ _ part.inside c.loop-before.invariant
    (ap (lock_line earlier) part.is ∙ no_lock earlier c.in-Some.line.now starts))

pub loop-before-preserved : goal.loop-before-preserved
loop-before-preserved c =
    let road = numbered_parts c.args.text.now c.split.result c.enumerate-before-items.result c.into_iter-before-iterator.result
    c.split.ensures.text c.split.ensures.has_more c.split.ensures.pattern c.enumerate-before-items.ensures.source
    c.enumerate-before-items.ensures.count c.into_iter-before-iterator.ensures.into_iter_gives in
    let part = part_yielded (parts_of c.args.text.now) (length c.loop-before.yielded) c.in-Some.before c.in-Some.line.now
    (YieldsList-turn road c.loop-before.yielded _ c.loop-before.yielded_by _ _ (c.in-Some.before, c.in-Some.line) c.in-Some.is c.next.ensures.steps) in
    let starts = sym (starts_text c.starts_with.result (47 ∷ []) c.in-Some.line.now c.starts_with.ensures.cases) ∙ c.if-not-starts_with.false in
    let earlier = take (length c.loop-before.yielded) (parts_of c.args.text.now) in
    let count : length earlier ≡ length c.loop-before.yielded = length-take-le (length c.loop-before.yielded) (parts_of c.args.text.now) (omega (arith, part.inside)) in
    let lock = a_lock earlier c.in-Some.line.now _ (c.in-Some.before + 1) starts (c.in-Ok.ensures.accepts.0 refl) c.in-Ok.ensures.found (rw (count, part.numbered) refl) in
    rw (length_push, c.in_ok-push-in-Ok.ensures.items, map-append) (read_found lock_line (parts_of c.args.text.now) _ _ part.inside c.loop-before.invariant _
    (ap (lock_line earlier) part.is ∙ lock))

pub returns-in-Err-clause-fault : goal.returns-in-Err-clause-fault
returns-in-Err-clause-fault c =
    let road = numbered_parts c.args.text.now c.split.result c.enumerate-before-items.result c.into_iter-before-iterator.result
    c.split.ensures.text c.split.ensures.has_more c.split.ensures.pattern c.enumerate-before-items.ensures.source
    c.enumerate-before-items.ensures.count c.into_iter-before-iterator.ensures.into_iter_gives in
    let part = part_yielded (parts_of c.args.text.now) (length c.loop-before.yielded) c.in-Some.before c.in-Some.line.now
    (YieldsList-turn road c.loop-before.yielded _ c.loop-before.yielded_by _ _ (c.in-Some.before, c.in-Some.line) c.in-Some.is c.next.ensures.steps) in
    let starts = sym (starts_text c.starts_with.result (47 ∷ []) c.in-Some.line.now c.starts_with.ensures.cases) ∙ c.if-not-starts_with.false in
    let earlier = take (length c.loop-before.yielded) (parts_of c.args.text.now) in
    let none : is_path c.in-Some.line.now ≡ false = refuted (is_path c.in-Some.line.now) c.in-Err.ensures.accepts.1 in
    rw part.numbered (read_parts lock_line empty_line c.args.text.now ∙ read_wrong lock_line (parts_of c.args.text.now) _ _ part.inside c.loop-before.invariant lock_not_key
    (ap (lock_line earlier) part.is ∙ no_path earlier c.in-Some.line.now starts none))

pub returns-clause-found : goal.returns-clause-found
returns-clause-found c =
    let road = numbered_parts c.args.text.now c.split.result c.enumerate-before-items.result c.into_iter-before-iterator.result
    c.split.ensures.text c.split.ensures.has_more c.split.ensures.pattern c.enumerate-before-items.ensures.source
    c.enumerate-before-items.ensures.count c.into_iter-before-iterator.ensures.into_iter_gives in
    let end = YieldsList-end road c.loop-before.yielded _ c.loop-before.yielded_by _ _ c.in-None.is c.next.ensures.steps in
    let all : length c.loop-before.yielded ≡ length (parts_of c.args.text.now) = end.1 ∙ length-enumerate_from 0 (parts_of c.args.text.now) in
    read_parts lock_line empty_line c.args.text.now ∙ read_all lock_line (parts_of c.args.text.now) _ _ all c.loop-before.invariant
