use Rattle.std.proofs.Common.{[], ◌∷◌, sym, ap, ◌∙◌, rules}
use Rattle.std.proofs.lemmas.Result.{err_from_is_err_and}
use Rattle.std.proofs.lemmas.Str.Pattern.{ends_text}
use Rattle.dconf_model.specs.Paths.{questions_of_bytes, is_key_path}
use Rattle.dconf_path.proofs.Faults.{stops, no_key, a_key, ends_as_no_key, is_too_long_for_key, is_faultless_key}
use Rattle.dconf_path.proofs.path.KeyPath.parse.Goals as goal

pub returns-in_err-check_bytes-clause-accepts : goal.returns-in_err-check_bytes-clause-accepts
returns-in_err-check_bytes-clause-accepts c =
    let p = err_from_is_err_and c.from_residual.result c.from_residual.ensures.1 in
    let fault = stops (questions_of_bytes c.args.text.now) _ _ c.in_err-check_bytes.ensures.fault in
    let none = no_key c.args.text.now _ fault in
    rw (p.1, none) search rules

pub returns-in_err-check_bytes-clause-fault : goal.returns-in_err-check_bytes-clause-fault
returns-in_err-check_bytes-clause-fault c =
    let p = err_from_is_err_and c.from_residual.result c.from_residual.ensures.1 in
    rw (p.1, p.2) (stops (questions_of_bytes c.args.text.now) _ _ c.in_err-check_bytes.ensures.fault)

pub returns-then-ends_with-clause-fault : goal.returns-then-ends_with-clause-fault
returns-then-ends_with-clause-fault c =
    ends_as_no_key c.args.text.now c.in_ok-check_bytes.ensures.passes (sym (ends_text c.ends_with.result (47 ∷ []) c.args.text.now c.ends_with.ensures.cases) ∙ c.if-ends_with.true)

pub returns-then-text-gt-MAX_PATH_LEN-clause-fault : goal.returns-then-text-gt-MAX_PATH_LEN-clause-fault
returns-then-text-gt-MAX_PATH_LEN-clause-fault c =
    let ends = sym (ends_text c.ends_with.result (47 ∷ []) c.args.text.now c.ends_with.ensures.cases) ∙ c.if-ends_with.false in
    is_too_long_for_key c.args.text.now c.in_ok-check_bytes.ensures.passes ends (search rules)

pub invariant_of-result : goal.invariant_of-result
invariant_of-result c = record { is_of_key = ap is_key_path (sym c.as_bytes.ensures.value) ∙ c.is_plain_key.ensures.key c.if-is_plain_key.true }

pub invariant_of-result-2 : goal.invariant_of-result-2
invariant_of-result-2 c =
    let ends = sym (ends_text c.ends_with.result (47 ∷ []) c.args.text.now c.ends_with.ensures.cases) ∙ c.if-ends_with.false in
    record { is_of_key = a_key c.args.text.now (is_faultless_key c.args.text.now c.in_ok-check_bytes.ensures.passes ends (search rules)) }
