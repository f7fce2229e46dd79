use Rattle.std.proofs.Common.{rules, ◌≡◌, ◌∷◌, [], sym, ap, ◌∙◌}
use Rattle.std.proofs.lemmas.List.{nil_from_length}
use Rattle.gv_types.specs.TypePrefix.{after_letters}
use Rattle.gv_types.proofs.LetterRuns.{after_none, after_single, after_other}
use Rattle.gv_types.proofs.grammar.after_letters.Goals as goal

pub loop-letter-preserved : goal.loop-letter-preserved
loop-letter-preserved c =
    let at : c.loop-letter.rest.now ≡ c.in-Some.letter.now ∷ c.in-Some.others.now = search (rules, c.in-Some.ensures.cases) in
    c.loop-letter.invariant ∙ (ap after_letters at ∙ after_single c.in-Some.letter.now c.in-Some.others.now (sym c.is_single.ensures ∙ c.if-is_single.true))

pub returns-in_default : goal.returns-in_default
returns-in_default c =
    let at : c.loop-letter.rest.now ≡ c.in-Some.letter.now ∷ c.in-Some.others.now = search (rules, c.in-Some.ensures.cases) in
    sym (c.loop-letter.invariant ∙ (ap after_letters at ∙ (after_other c.in-Some.letter.now c.in-Some.others.now (sym c.is_single.ensures ∙ c.if-is_single.false) ∙ sym at)))

pub returns-in_default-2 : goal.returns-in_default-2
returns-in_default-2 c =
    let none : c.loop-letter.rest.now ≡ [] = search (rules, nil_from_length c.loop-letter.rest.now, c.split_first.ensures.cases, c.in_default.is) in
    sym (c.loop-letter.invariant ∙ (ap after_letters none ∙ (after_none ∙ sym none)))
