use Rattle.std.proofs.Common.{Err, Option, refl, subst, sym}
use Rattle.dconf_model.specs.Outcomes.{UnlessFault}
use Rattle.dconf_model.specs.Paths.{PathFault}
use Rattle.dconf_streams.specs.Answers.{GivesOutcome, NoOutcome}
use Rattle.dconf_commands.proofs.PathArguments.{key_faultless}
use Rattle.dconf_commands.proofs.arguments.key_argument.Goals as goal

pub returns-in-Ok-clause-faultless : goal.returns-in-Ok-clause-faultless
returns-in-Ok-clause-faultless c = key_faultless c.args.word.now (c.in-Ok.ensures.accepts.0 refl)

pub returns-in-Err-clause-err : goal.returns-in-Err-clause-err
returns-in-Err-clause-err c =
    subst (λ (f : Option PathFault). GivesOutcome (Err c.refused.result) (UnlessFault f NoOutcome)) (sym c.in-Err.ensures.fault) c.refused.ensures
