use Rattle.gv_model.proofs.GrammarLaws.{no_fault}
use Rattle.gv_model.proofs.FaultlessTokens.{whole}
use Rattle.gv_model.proofs.text.faultless_where_tree.Goals as goal

pub returns : goal.returns
returns c = record { faultless = no_fault; whole = whole }
