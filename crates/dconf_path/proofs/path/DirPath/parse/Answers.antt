use Rattle.std.proofs.Common.{rules, [], ◌∷◌, sym, ◌∙◌}
use Rattle.std.proofs.lemmas.Result.{err_from_is_err_and}
use Rattle.std.proofs.lemmas.Str.Pattern.{ends_text}
use Rattle.dconf_model.specs.Paths.{questions_of_bytes}
use Rattle.dconf_path.proofs.Faults.{stops, no_directory, a_directory, ends_as_no_directory, is_too_long_for_directory, is_faultless_directory}
use Rattle.dconf_path.proofs.path.DirPath.parse.Goals as goal

pub returns-in_err-check_bytes-clause-accepts : goal.returns-in_err-check_bytes-clause-accepts
returns-in_err-check_bytes-clause-accepts c =
    let p = err_from_is_err_and c.from_residual.result c.from_residual.ensures.1 in
    let fault = stops (questions_of_bytes c.args.text.now) _ _ c.in_err-check_bytes.ensures.fault in
    let none = no_directory c.args.text.now _ fault in
    rw (p.1, none) search rules

pub returns-in_err-check_bytes-clause-fault : goal.returns-in_err-check_bytes-clause-fault
returns-in_err-check_bytes-clause-fault c =
    let p = err_from_is_err_and c.from_residual.result c.from_residual.ensures.1 in
    rw (p.1, p.2) (stops (questions_of_bytes c.args.text.now) _ _ c.in_err-check_bytes.ensures.fault)

pub returns-then-not-ends_with-clause-accepts : goal.returns-then-not-ends_with-clause-accepts
returns-then-not-ends_with-clause-accepts c =
    let ends = sym (ends_text c.ends_with.result (47 ∷ []) c.args.text.now c.ends_with.ensures.cases) ∙ c.if-not-ends_with.true in
    let none = no_directory c.args.text.now _ (ends_as_no_directory c.args.text.now c.in_ok-check_bytes.ensures.passes ends) in
    rw none search rules

pub returns-then-not-ends_with-clause-fault : goal.returns-then-not-ends_with-clause-fault
returns-then-not-ends_with-clause-fault c =
    ends_as_no_directory c.args.text.now c.in_ok-check_bytes.ensures.passes (sym (ends_text c.ends_with.result (47 ∷ []) c.args.text.now c.ends_with.ensures.cases) ∙ c.if-not-ends_with.true)

pub returns-then-text-gt-MAX_PATH_LEN-clause-fault : goal.returns-then-text-gt-MAX_PATH_LEN-clause-fault
returns-then-text-gt-MAX_PATH_LEN-clause-fault c =
    let ends = sym (ends_text c.ends_with.result (47 ∷ []) c.args.text.now c.ends_with.ensures.cases) ∙ c.if-not-ends_with.false in
    is_too_long_for_directory c.args.text.now c.in_ok-check_bytes.ensures.passes ends (search rules)

pub invariant_of-result : goal.invariant_of-result
invariant_of-result c =
    let ends = sym (ends_text c.ends_with.result (47 ∷ []) c.args.text.now c.ends_with.ensures.cases) ∙ c.if-not-ends_with.false in
    record { is_of_directory = a_directory c.args.text.now (is_faultless_directory c.args.text.now c.in_ok-check_bytes.ensures.passes ends (search rules)) }
