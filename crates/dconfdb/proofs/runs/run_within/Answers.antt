use Rattle.dconfdb.proofs.runs.run_within.Goals as goal

pub returns-clause-calm : goal.returns-clause-calm
returns-clause-calm g c = λ honest none old past. c.run_in.ensures.calm honest none old past

pub returns-clause-ran : goal.returns-clause-ran
returns-clause-ran g c = λ honest old past. c.run_in.ensures.ran honest old past

pub returns-clause-untouched : goal.returns-clause-untouched
returns-clause-untouched g c = λ no_turn old past. c.run_in.ensures.untouched no_turn old past
