use Rattle.dconf_model.proofs.RowLaws.{found_row, one_found}
use Rattle.dconf_model.proofs.a_search_finds_a_row.Goals as goal

pub returns-clause-row : goal.returns-clause-row
returns-clause-row c = found_row

pub returns-clause-one : goal.returns-clause-one
returns-clause-one c = one_found
