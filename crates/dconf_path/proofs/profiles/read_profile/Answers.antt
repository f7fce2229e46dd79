use Rattle.std.proofs.Common.{◌≡◌, ◌+◌, length, take, get_or, sym, ap, ◌∙◌, []}
use Rattle.std.proofs.lemmas.Iterator.Consumers.{YieldsList-turn, YieldsList-end}
use Rattle.std.proofs.lemmas.List.{length_push, map-append}
use Rattle.std.proofs.lemmas.List.FromFn.{length-enumerate_from}
use Rattle.dconf_path.proofs.LineSteps.{parts_of, numbered_parts, part_yielded, read_none, read_nothing, read_found, read_wrong, read_all, read_parts}
use Rattle.dconf_path.proofs.ProfileLines.{profile_line, empty_profile_line, line_is, says_more, says_nothing}
use Rattle.dconf_path.proofs.profiles.read_profile.Goals as goal

pub loop-before-init : goal.loop-before-init
loop-before-init c = (rw c.new-databases.ensures.items (read_none profile_line (parts_of c.args.text.now)), sym c.new-databases.ensures.len)

pub returns-in-Err-clause-fault : goal.returns-in-Err-clause-fault
returns-in-Err-clause-fault c =
    let fault = c.in-Err.ensures.fault in
    let road = numbered_parts c.args.text.now c.split.result c.enumerate-before-items.result c.into_iter-before-iterator.result
    c.split.ensures.text c.split.ensures.has_more c.split.ensures.pattern c.enumerate-before-items.ensures.source
    c.enumerate-before-items.ensures.count c.into_iter-before-iterator.ensures.into_iter_gives in
    let part = part_yielded (parts_of c.args.text.now) (length c.loop-before.yielded) c.in-Some.before c.in-Some.line.now
    (YieldsList-turn road c.loop-before.yielded _ c.loop-before.yielded_by _ _ (c.in-Some.before, c.in-Some.line) c.in-Some.is c.next.ensures.steps) in
    let earlier = take (length c.loop-before.yielded) (parts_of c.args.text.now) in
    let same = line_is earlier (get_or (parts_of c.args.text.now) (length c.loop-before.yielded) []) c.in-Some.line.now c.entry_of.result.now c.len.result part.is c.entry_of.ensures (c.len.ensures ∙ sym c.loop-before.invariant.1) in
    rw (fault.same, part.numbered) (read_parts profile_line empty_profile_line c.args.text.now
    ∙ read_wrong profile_line (parts_of c.args.text.now) _ _ part.inside c.loop-before.invariant.0 fault.cause (same ∙ fault.is))

pub loop-before-preserved-in-Continue-1 : goal.loop-before-preserved-in-Continue-1
loop-before-preserved-in-Continue-1 c =
    let road = numbered_parts c.args.text.now c.split.result c.enumerate-before-items.result c.into_iter-before-iterator.result
    c.split.ensures.text c.split.ensures.has_more c.split.ensures.pattern c.enumerate-before-items.ensures.source
    c.enumerate-before-items.ensures.count c.into_iter-before-iterator.ensures.into_iter_gives in
    let part = part_yielded (parts_of c.args.text.now) (length c.loop-before.yielded) c.in-Some.before c.in-Some.line.now
    (YieldsList-turn road c.loop-before.yielded _ c.loop-before.yielded_by _ _ (c.in-Some.before, c.in-Some.line) c.in-Some.is c.next.ensures.steps) in
    let earlier = take (length c.loop-before.yielded) (parts_of c.args.text.now) in
    let same = line_is earlier (get_or (parts_of c.args.text.now) (length c.loop-before.yielded) []) c.in-Some.line.now c.entry_of.result.now c.len.result part.is c.entry_of.ensures (c.len.ensures ∙ sym c.loop-before.invariant.1) in
    let says = says_more (parts_of c.args.text.now) (length c.loop-before.yielded) c.in-Some.line.now c.entry_of.result.now part.inside part.is c.entry_of.ensures (rw c.in-Ok-Some.field-0-is at c.in-Ok-Some.ensures.says) in
    let gives = rw c.in-Ok-Some.field-0-is at c.in-Ok-Some.ensures.found in (
      rw (length_push, c.in_ok-push-in-Ok-Some.ensures.items, map-append) (read_found profile_line (parts_of c.args.text.now) _ _ part.inside c.loop-before.invariant.0 _ (same ∙ gives)),
      rw (length_push, c.in_ok-push-in-Ok-Some.ensures.len) (says ∙ ap (λ n. n + 1) c.loop-before.invariant.1),
    )

pub loop-before-preserved : goal.loop-before-preserved
loop-before-preserved c =
    let road = numbered_parts c.args.text.now c.split.result c.enumerate-before-items.result c.into_iter-before-iterator.result
    c.split.ensures.text c.split.ensures.has_more c.split.ensures.pattern c.enumerate-before-items.ensures.source
    c.enumerate-before-items.ensures.count c.into_iter-before-iterator.ensures.into_iter_gives in
    let part = part_yielded (parts_of c.args.text.now) (length c.loop-before.yielded) c.in-Some.before c.in-Some.line.now
    (YieldsList-turn road c.loop-before.yielded _ c.loop-before.yielded_by _ _ (c.in-Some.before, c.in-Some.line) c.in-Some.is c.next.ensures.steps) in
    let earlier = take (length c.loop-before.yielded) (parts_of c.args.text.now) in
    let same = line_is earlier (get_or (parts_of c.args.text.now) (length c.loop-before.yielded) []) c.in-Some.line.now c.entry_of.result.now c.len.result part.is c.entry_of.ensures (c.len.ensures ∙ sym c.loop-before.invariant.1) in
    let tells = rw c.in-Ok-None.field-0-is at c.in-Ok-None.ensures.says in
    let gives = rw c.in-Ok-None.field-0-is at c.in-Ok-None.ensures.found in
    let says = says_nothing (parts_of c.args.text.now) (length c.loop-before.yielded) c.in-Some.line.now c.entry_of.result.now part.inside part.is c.entry_of.ensures tells in (
      rw length_push (read_nothing profile_line (parts_of c.args.text.now) _ _ part.inside c.loop-before.invariant.0 (same ∙ gives)),
      rw length_push (says ∙ c.loop-before.invariant.1),
    )

pub returns-clause-found : goal.returns-clause-found
returns-clause-found c =
    let road = numbered_parts c.args.text.now c.split.result c.enumerate-before-items.result c.into_iter-before-iterator.result
    c.split.ensures.text c.split.ensures.has_more c.split.ensures.pattern c.enumerate-before-items.ensures.source
    c.enumerate-before-items.ensures.count c.into_iter-before-iterator.ensures.into_iter_gives in
    let end = YieldsList-end road c.loop-before.yielded _ c.loop-before.yielded_by _ _ c.in-None.is c.next.ensures.steps in
    let all : length c.loop-before.yielded ≡ length (parts_of c.args.text.now) = end.1 ∙ length-enumerate_from 0 (parts_of c.args.text.now) in
    read_parts profile_line empty_profile_line c.args.text.now ∙ read_all profile_line (parts_of c.args.text.now) _ _ all c.loop-before.invariant.0
