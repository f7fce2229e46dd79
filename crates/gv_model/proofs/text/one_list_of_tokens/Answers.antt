use Rattle.gv_model.specs.Lexed.{lexed}
use Rattle.gv_model.proofs.TokenLaws.{one_lexing, lexed_right}
use Rattle.gv_model.proofs.text.one_list_of_tokens.Goals as goal

pub returns : goal.returns
returns c = record {
  some = λ text. ((lexed 0 0 text).0, (lexed 0 0 text).1, lexed_right 0 0 text);
  alone = λ text ts us f g. one_lexing 0 text ts us f g;
}
