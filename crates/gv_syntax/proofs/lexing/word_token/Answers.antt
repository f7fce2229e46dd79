use Rattle.gv_syntax.proofs.TokenKinds.{word_placed}
use Rattle.gv_syntax.proofs.lexing.word_token.Goals as goal

pub returns-clause-found : goal.returns-clause-found
returns-clause-found c =
    word_placed c.args.rest.now c.args.at c.prefix_len-len.result c.word.result c.placed.result c.prefix_len-len.ensures.len c.word.ensures c.placed.ensures.found
