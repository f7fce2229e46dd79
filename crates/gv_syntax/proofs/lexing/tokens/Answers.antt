use Rattle.std.proofs.Common.{ap, sym, subst, ◌∙◌, ◌+◌, ◌-◌, ◌<◌, arith, length, map}
use Rattle.std.proofs.lemmas.Result.{err_from_is_err_and}
use Rattle.std.proofs.lemmas.List.{map_push, take_rest}
use Rattle.gv_model.proofs.TokenLoops.{TokensSoFar}
use Rattle.gv_syntax.specs.ModelTokens.{placed_of}
use Rattle.gv_syntax.proofs.TokenSteps.{blanks_fit, text_last, goes_ahead, token_more, fault_found}
use Rattle.gv_syntax.proofs.lexing.tokens.Goals as goal

pub returns-then-at-bytes-clause-tokens : goal.returns-then-at-bytes-clause-tokens
returns-then-at-bytes-clause-tokens c =
    let text = c.args.text.now in
    let n = rw (c.as_bytes-bytes.ensures.value, take_rest text c.loop-at.at) at c.prefix_len-at.ensures.len in
    text_last text c.loop-at.at c.prefix_len-at.result _ n (c.if-at-bytes.true ∙ ap length c.as_bytes-bytes.ensures.value) c.loop-at.invariant.so_far

pub returns-in_err-token-clause-fault : goal.returns-in_err-token-clause-fault
returns-in_err-token-clause-fault c =
    let text = c.args.text.now in
    let n = rw (c.as_bytes-bytes.ensures.value, take_rest text c.loop-at.at) at c.prefix_len-at.ensures.len in
    let less : c.loop-at.at + c.prefix_len-at.result < length text = omega (arith, blanks_fit text c.loop-at.at c.prefix_len-at.result n c.loop-at.invariant.within, c.if-at-bytes.false, ap length c.as_bytes-bytes.ensures.value) in
    let p = err_from_is_err_and c.from_residual.result c.from_residual.ensures.1 in
    rw (p.1, p.2) (fault_found text c.loop-at.at c.prefix_len-at.result _ c.in_err-token.field-0.0 n less c.loop-at.invariant.so_far c.in_err-token.ensures.found)

pub loop-at-smaller : goal.loop-at-smaller
loop-at-smaller c =
    let text = c.args.text.now in
    let n = rw (c.as_bytes-bytes.ensures.value, take_rest text c.loop-at.at) at c.prefix_len-at.ensures.len in
    let less : c.loop-at.at + c.prefix_len-at.result < length text = omega (arith, blanks_fit text c.loop-at.at c.prefix_len-at.result n c.loop-at.invariant.within, c.if-at-bytes.false, ap length c.as_bytes-bytes.ensures.value) in
    let ahead = goes_ahead text _ (placed_of c.in_ok-token.token) less c.in_ok-token.ensures.found in
    let smaller : length text - c.in_ok-token.token.span.end < length text - c.loop-at.at = omega (arith, ahead, less, c.in_ok-token.ensures.within) in
    smaller

pub loop-at-preserved : goal.loop-at-preserved
loop-at-preserved c =
    let text = c.args.text.now in
    let n = rw (c.as_bytes-bytes.ensures.value, take_rest text c.loop-at.at) at c.prefix_len-at.ensures.len in
    let less : c.loop-at.at + c.prefix_len-at.result < length text = omega (arith, blanks_fit text c.loop-at.at c.prefix_len-at.result n c.loop-at.invariant.within, c.if-at-bytes.false, ap length c.as_bytes-bytes.ensures.value) in
    let more = token_more text c.loop-at.at c.prefix_len-at.result _ (placed_of c.in_ok-token.token) n less c.loop-at.invariant.so_far c.in_ok-token.ensures.found in
    record {
      within = c.in_ok-token.ensures.within;
      so_far = subst (λ l. TokensSoFar text c.in_ok-token.token.span.end l) (sym (ap (map placed_of) c.in_ok-push.ensures.items ∙ map_push placed_of c.loop-at.found.items c.in_ok-token.token)) more;
    }
