use Rattle.gv_syntax.proofs.TokenKinds.{number_placed}
use Rattle.gv_syntax.proofs.lexing.number_token.Goals as goal

pub returns-clause-found : goal.returns-clause-found
returns-clause-found c = λ b bs e.
    number_placed c.args.rest.now c.args.at c.run_len-len.result c.number.result c.placed.result b bs e (c.run_len-len.ensures.len b bs e) c.number.ensures c.placed.ensures.found
