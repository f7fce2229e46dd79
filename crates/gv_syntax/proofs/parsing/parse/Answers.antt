use Rattle.std.proofs.lemmas.Result.{err_from_is_err_and}
use Rattle.gv_syntax.proofs.NumberedFaults.{token_fault, grammar_fault_of, tree_of_text, tree_within}
use Rattle.gv_syntax.proofs.parsing.parse.Goals as goal

pub returns-in_err-tokens-clause-fault : goal.returns-in_err-tokens-clause-fault
returns-in_err-tokens-clause-fault c =
    let p = err_from_is_err_and c.from_residual.result c.from_residual.ensures.1 in
    rw (p.1, p.2) (token_fault c.args.text.now _ c.in_err-tokens.ensures.fault)

pub returns-in_err-root-clause-fault : goal.returns-in_err-root-clause-fault
returns-in_err-root-clause-fault c =
    let p = err_from_is_err_and c.from_residual-in_err-root.result c.from_residual-in_err-root.ensures.1 in
    rw (p.1, p.2) (grammar_fault_of c.args.text.now c.in_ok-tokens.tokens.items _ c.in_ok-tokens.ensures.tokens c.in_err-root.ensures.fault)

pub of-requires : goal.of-requires
of-requires c = tree_within c.args.text.now c.in_ok-tokens.tokens.items _ c.in_ok-tokens.ensures.tokens c.requires c.in_ok-root.ensures.tree

pub returns-clause-tree : goal.returns-clause-tree
returns-clause-tree c = rw c.of.ensures (tree_of_text c.args.text.now c.in_ok-tokens.tokens.items _ c.in_ok-tokens.ensures.tokens c.in_ok-root.ensures.tree)
