use Rattle.std.proofs.Common.{sym, ap, ◌∙◌, take}
use Rattle.std.proofs.lemmas.List.{take_min}
use Rattle.gv_model.specs.Characters.{prefix_of, is_digit_of}
use Rattle.gv_syntax.proofs.Lists.{prefix_taken}
use Rattle.gv_syntax.proofs.EscapeLaws.{at_most_is_take}
use Rattle.gv_syntax.proofs.lexing.part.leading_digits.Goals as goal

pub returns : goal.returns
returns c =
    let f = is_digit_of c.args.base in
    let text = c.args.text.now in
    ap (λ n. take n (take c.min.result text)) c.prefix_len.ensures.len
    ∙ (prefix_taken f (take c.min.result text) ∙ ap (prefix_of f) (ap (λ n. take n text) c.min.ensures ∙ (take_min c.args.most text ∙ sym (at_most_is_take c.args.most text))))
