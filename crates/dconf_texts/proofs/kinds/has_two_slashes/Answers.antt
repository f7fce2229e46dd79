use Rattle.std.proofs.Common.{rules, ◌≡◌, ◌<◌, ◌+◌, ◌∙◌, ap, drop, length, sym, [], slice_index_or}
use Rattle.std.proofs.lemmas.List.{drop_all, drop_more}
use Rattle.dconf_texts.proofs.KindLaws.{after_none, after_one, at_the_end, found_here, goes_on}
use Rattle.dconf_texts.proofs.kinds.has_two_slashes.Goals as goal

pub loop-byte-init : goal.loop-byte-init
loop-byte-init c = after_none c.args.text.now

pub returns-then-is_second : goal.returns-then-is_second
returns-then-is_second c =
    let text = c.args.text.now in
    let i = c.loop-byte.byte-index in
    let less : i < length text = search rules in
    let here = drop_more text i 0 less in
    let is = sym c.is_second.ensures ∙ c.if-is_second.true in
    sym (found_here c.loop-byte.after_slash (slice_index_or text i 0) (drop (i + 1) text) is) ∙ (sym (ap (after_one c.loop-byte.after_slash) here) ∙ c.loop-byte.invariant)

pub loop-byte-preserved : goal.loop-byte-preserved
loop-byte-preserved c =
    let text = c.args.text.now in
    let i = c.loop-byte.byte-index in
    let less : i < length text = search rules in
    let here = drop_more text i 0 less in
    let other = sym c.is_second.ensures ∙ c.if-is_second.false in
    sym (goes_on c.loop-byte.after_slash (slice_index_or text i 0) (drop (i + 1) text) other) ∙ (sym (ap (after_one c.loop-byte.after_slash) here) ∙ c.loop-byte.invariant)

pub returns : goal.returns
returns c =
    let text = c.args.text.now in
    let past : drop c.loop-byte.byte-index text ≡ [] = drop_all c.loop-byte.byte-index text c.loop-byte-test.false in
    sym (at_the_end c.loop-byte.after_slash) ∙ (sym (ap (after_one c.loop-byte.after_slash) past) ∙ c.loop-byte.invariant)
