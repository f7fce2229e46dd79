use Rattle.std.proofs.Common.{◌≡◌, ◌∙◌, inr, refl, ap, sym, subst, Option}
use Rattle.std.specs.Prelude.{option_map}
use Rattle.std.proofs.lemmas.Result.{err_from_is_err_and, IfErr-weaker, IfOk-weaker}
use Rattle.std.proofs.lemmas.Str.{is_utf8-from_IsUtf8}
use Rattle.dconf_model.specs.Causes.SettingsCause.{not_utf8}
use Rattle.dconfdb_calls.specs.declared.profiles.DconfdbName.{DconfdbName}
use Rattle.dconfdb_calls.specs.GoodLines.{IsLineFault, Reading, line_says, own_line, place_said, placed, reading_of}
use Rattle.dconfdb_calls.specs.Named.{told}
use Rattle.dconfdb_calls.proofs.LineLaws.{own_fault, says_no_text, says_own}
use Rattle.dconfdb_calls.proofs.lines.line_name.Goals as goal

pub returns-in_default-clause-fault : goal.returns-in_default-clause-fault
returns-in_default-clause-fault c = inr (not_utf8, says_no_text c.args.before c.args.line.now c.in_default.ensures.cases.0, refl)

pub returns-in_err-name-clause-fault : goal.returns-in_err-name-clause-fault
returns-in_err-name-clause-fault c =
    let line = c.args.line.now in
    let fault = c.in_err-name.field-0.0 in
    let p = err_from_is_err_and c.from_residual.result c.from_residual.ensures.1 in
    rw (p.1, p.2) (own_fault c.args.before line fault (is_utf8-from_IsUtf8 line c.in-Ok.ensures.cases.1)
    (subst (λ t. IsLineFault (own_line t) fault) c.in-Ok.ensures.cases.0 c.in_err-name.ensures.fault))

pub returns-in-Some-clause-found : goal.returns-in-Some-clause-found
returns-in-Some-clause-found c =
    let line = c.args.line.now in
    let name = told c.in-Some.name in
    let own = ap own_line (sym c.in-Ok.ensures.cases.0) ∙ (c.in_ok-name.ensures.found ∙ ap (λ (o : Option DconfdbName). reading_of (option_map told o)) c.in-Some.is) in
    let says : line_says c.args.before line ≡ place_said c.args.before name =
    says_own c.args.before line (is_utf8-from_IsUtf8 line c.in-Ok.ensures.cases.1) ∙ ap (placed c.args.before) own in
    IfOk-weaker c.placed.result (λ (it : Option DconfdbName). place_said c.args.before name ≡ reading_of (option_map told it))
    (λ (it : Option DconfdbName). line_says c.args.before line ≡ reading_of (option_map told it)) (λ it e. says ∙ e) c.placed.ensures.found

pub returns-in-Some-clause-fault : goal.returns-in-Some-clause-fault
returns-in-Some-clause-fault c =
    let line = c.args.line.now in
    let name = told c.in-Some.name in
    let own = ap own_line (sym c.in-Ok.ensures.cases.0) ∙ (c.in_ok-name.ensures.found ∙ ap (λ (o : Option DconfdbName). reading_of (option_map told o)) c.in-Some.is) in
    let says : line_says c.args.before line ≡ place_said c.args.before name =
    says_own c.args.before line (is_utf8-from_IsUtf8 line c.in-Ok.ensures.cases.1) ∙ ap (placed c.args.before) own in
    IfErr-weaker c.placed.result (IsLineFault (place_said c.args.before name)) (IsLineFault (line_says c.args.before line))
    (λ e why. subst (λ (r : Reading). IsLineFault r e) (sym says) why) c.placed.ensures.fault

pub returns-in-None-clause-found : goal.returns-in-None-clause-found
returns-in-None-clause-found c =
    let line = c.args.line.now in
    says_own c.args.before line (is_utf8-from_IsUtf8 line c.in-Ok.ensures.cases.1)
    ∙ ap (placed c.args.before) (ap own_line (sym c.in-Ok.ensures.cases.0) ∙ (c.in_ok-name.ensures.found ∙ ap (λ (o : Option DconfdbName). reading_of (option_map told o)) c.in-None.is))
