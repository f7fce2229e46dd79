use Rattle.std.proofs.Common.{rules, sym, ◌∙◌, arith}
use Rattle.gv_model.specs.TypeText.{mark}
use Rattle.gv_types.proofs.LetterRuns.{single_class}
use Rattle.gv_types.proofs.TypeSteps.{reads_single}
use Rattle.gv_types.proofs.grammar.read_member.Goals as goal

pub returns-in-Some : goal.returns-in-Some
returns-in-Some c =
    let b = c.in-Some.letter.now in
    let single = single_class (mark b) (sym c.is_single.ensures ∙ c.if-is_single.true) in
    reads_single 128 b single.class c.args.text.now c.in-Some.rest.now single.is single.one (λ e. omega (arith, e)) (search (rules, c.in-Some.ensures.cases))
