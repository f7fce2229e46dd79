use Rattle.std.proofs.Common.{subst, rules}
use Rattle.dconf_model.specs.Outcomes.{Output}
use Rattle.dconf_model.specs.Runs.{RanCalmly}
use Rattle.dconf_runs.specs.Programs.{asked_of}
use Rattle.dconf_runs.proofs.request.run_to_end.Goals as goal

pub returns-clause-calm : goal.returns-clause-calm
returns-clause-calm g c = λ honest none old past.
    let r = c.in_ok-status.ensures.calm honest none old past in
    (r.0, r.1, subst (λ (o : Output). RanCalmly (asked_of c.args.request).0 (asked_of c.args.request).1 old r.0 o) (search rules) r.2.1)
