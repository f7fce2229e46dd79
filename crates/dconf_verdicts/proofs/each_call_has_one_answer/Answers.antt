use Rattle.dconf_verdicts.proofs.AnswerLaws.{each_has_one}
use Rattle.dconf_verdicts.proofs.each_call_has_one_answer.Goals as goal

pub returns : goal.returns
returns c = each_has_one
