use Rattle.std.proofs.Common.{◌∷◌, get_or, sym, subst}
use Rattle.gv_syntax.specs.LexSteps.{TakesFrom, EndsInAscii, text_part_of}
use Rattle.gv_syntax.proofs.Lists.{split_first}
use Rattle.gv_syntax.proofs.lexing.part.text_escape.Goals as goal

pub returns-in-117-clause-within : goal.returns-in-117-clause-within
returns-in-117-clause-within c =
    let text = c.args.text.now in
    subst (λ s. TakesFrom (92 ∷ s) (text_part_of c.number_escape.result)) (sym (split_first text c.in-117.len_at_least)) (c.number_escape.ensures.within (get_or text 0 0))

pub returns-in-117-clause-ascii : goal.returns-in-117-clause-ascii
returns-in-117-clause-ascii c =
    let text = c.args.text.now in
    subst (λ s. EndsInAscii (92 ∷ s) (text_part_of c.number_escape.result)) (sym (split_first text c.in-117.len_at_least)) (c.number_escape.ensures.ascii (get_or text 0 0))

pub returns-in-85-clause-within : goal.returns-in-85-clause-within
returns-in-85-clause-within c =
    let text = c.args.text.now in
    subst (λ s. TakesFrom (92 ∷ s) (text_part_of c.number_escape-in-85.result)) (sym (split_first text c.in-85.len_at_least)) (c.number_escape-in-85.ensures.within (get_or text 0 0))

pub returns-in-85-clause-ascii : goal.returns-in-85-clause-ascii
returns-in-85-clause-ascii c =
    let text = c.args.text.now in
    subst (λ s. EndsInAscii (92 ∷ s) (text_part_of c.number_escape-in-85.result)) (sym (split_first text c.in-85.len_at_least)) (c.number_escape-in-85.ensures.ascii (get_or text 0 0))
