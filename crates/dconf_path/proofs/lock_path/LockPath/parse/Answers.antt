use Rattle.std.proofs.Common.{rules, [], ◌∷◌, sym, ◌∙◌}
use Rattle.std.proofs.lemmas.Result.{err_from_is_err_and}
use Rattle.std.proofs.lemmas.Str.Pattern.{ends_text}
use Rattle.dconf_path.proofs.Faults.{is_faulty_as_key, is_faulty_as_directory, is_path_of_key, no_key}
use Rattle.dconf_path.proofs.lock_path.LockPath.parse.Goals as goal

pub returns-in_err-parse-clause-fault : goal.returns-in_err-parse-clause-fault
returns-in_err-parse-clause-fault c =
    let p = err_from_is_err_and c.from_residual.result c.from_residual.ensures.1 in
    let ends = sym (ends_text c.ends_with.result (47 ∷ []) c.args.text.now c.ends_with.ensures.cases) ∙ c.if-ends_with.true in
    rw (p.1, p.2) (is_faulty_as_directory c.args.text.now ends ∙ c.in_err-parse.ensures.fault)

pub returns-in_err-parse-2-clause-accepts : goal.returns-in_err-parse-2-clause-accepts
returns-in_err-parse-2-clause-accepts c =
    let p = err_from_is_err_and c.from_residual-in_err-parse-2.result c.from_residual-in_err-parse-2.ensures.1 in
    let ends = sym (ends_text c.ends_with.result (47 ∷ []) c.args.text.now c.ends_with.ensures.cases) ∙ c.if-ends_with.false in
    let none = is_path_of_key c.args.text.now ends ∙ no_key c.args.text.now _ c.in_err-parse-2.ensures.fault in
    rw (p.1, none) search rules

pub returns-in_err-parse-2-clause-fault : goal.returns-in_err-parse-2-clause-fault
returns-in_err-parse-2-clause-fault c =
    let p = err_from_is_err_and c.from_residual-in_err-parse-2.result c.from_residual-in_err-parse-2.ensures.1 in
    let ends = sym (ends_text c.ends_with.result (47 ∷ []) c.args.text.now c.ends_with.ensures.cases) ∙ c.if-ends_with.false in
    rw (p.1, p.2) (is_faulty_as_key c.args.text.now ends ∙ c.in_err-parse-2.ensures.fault)

pub returns-in_ok-parse-2-clause-accepts : goal.returns-in_ok-parse-2-clause-accepts
returns-in_ok-parse-2-clause-accepts c = search rules

pub returns-in_ok-parse-2-clause-found : goal.returns-in_ok-parse-2-clause-found
returns-in_ok-parse-2-clause-found c = search rules
