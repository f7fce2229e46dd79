use Rattle.dconf_times.proofs.notes.replaces.Goals as goal

pub returns-then-raise-clause-added : goal.returns-then-raise-clause-added
returns-then-raise-clause-added c = λ is. c.raise.ensures.raised c.if-raise.true c.args.most
