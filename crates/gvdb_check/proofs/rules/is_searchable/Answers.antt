use Rattle.std.proofs.Common.{sym, ◌∙◌}
use Rattle.gvdb_format.specs.Tables.{region}
use Rattle.gvdb_check.proofs.RuleOrder.{searchable_where_ok}
use Rattle.gvdb_check.proofs.rules.is_searchable.Goals as goal

pub returns : goal.returns
returns c = let known = searchable_where_ok (region c.args.table) c.check_names.result c.check_names.ensures.kept c.check_names.ensures.not_searchable in
    let same = c.is_ok.ensures.value in
    (λ h. known.0 (sym same ∙ h), λ s. same ∙ known.1 s)
