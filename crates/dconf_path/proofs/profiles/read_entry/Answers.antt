use Rattle.std.proofs.Common.{refl, sym, ap, subst, ◌∙◌}
use Rattle.std.specs.Prelude.{codes}
use Rattle.std.proofs.lemmas.Result.{err_from_is_err_and}
use Rattle.std.proofs.lemmas.Str.Pattern.{starts_text}
use Rattle.dconf_model.specs.Causes.SettingsCause.{bad_line}
use Rattle.dconf_path.specs.Profiles.{IsFaultAt}
use Rattle.dconf_path.proofs.EntryLines.{names, after_kind}
use Rattle.dconf_path.proofs.profiles.read_entry.Goals as goal

pub returns-in_err-placed-in-Some-clause-fault : goal.returns-in_err-placed-in-Some-clause-fault
returns-in_err-placed-in-Some-clause-fault c =
    let p = err_from_is_err_and c.from_residual.result c.from_residual.ensures.1 in
    let other = sym (starts_text c.starts_with.result (codes "service-db:") c.args.entry.now c.starts_with.ensures.cases) ∙ c.if-starts_with.false in
    let is = names c.args.others c.args.entry.now (sym c.is_empty.ensures ∙ c.if-is_empty.false) other ∙ ap (after_kind c.args.others) (sym c.in-Some.ensures) in
    rw (p.1, p.2) (subst (λ r. IsFaultAt c.args.line r c.in_err-placed-in-Some.field-0.0) (sym is) c.in_err-placed-in-Some.ensures.fault)

pub returns-in_ok-placed-in-Some-clause-found : goal.returns-in_ok-placed-in-Some-clause-found
returns-in_ok-placed-in-Some-clause-found c =
    let other = sym (starts_text c.starts_with.result (codes "service-db:") c.args.entry.now c.starts_with.ensures.cases) ∙ c.if-starts_with.false in
    names c.args.others c.args.entry.now (sym c.is_empty.ensures ∙ c.if-is_empty.false) other
    ∙ (ap (after_kind c.args.others) (sym c.in-Some.ensures) ∙ c.in_ok-placed-in-Some.ensures.found)

pub returns-in-None-clause-fault : goal.returns-in-None-clause-fault
returns-in-None-clause-fault c =
    let other = sym (starts_text c.starts_with.result (codes "service-db:") c.args.entry.now c.starts_with.ensures.cases) ∙ c.if-starts_with.false in
    record {
      cause = bad_line;
      is = names c.args.others c.args.entry.now (sym c.is_empty.ensures ∙ c.if-is_empty.false) other ∙ ap (after_kind c.args.others) (sym c.in-None.ensures);
      same = refl;
    }
