use Rattle.dconf_model.proofs.RowLaws.{one_item, rows_are_found}
use Rattle.dconf_model.proofs.each_row_is_found.Goals as goal

pub returns-clause-one : goal.returns-clause-one
returns-clause-one c = one_item

pub returns-clause-found : goal.returns-clause-found
returns-clause-found c = rows_are_found
