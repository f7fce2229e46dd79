-- What is said of a line, as the code says it.
use Rattle.dconf_places.specs.Told.{text_of}
use Rattle.keyfile_lines.specs.Answers.{Answer}
use Rattle.keyfile_lines.specs.Answers.Answer.{silent, sets, locks, idle, refused}
use Rattle.keyfile_lines.specs.Words.{cause_of}
use Rattle.keyfile_lines.specs.declared.said.Said.{Said}
use Rattle.keyfile_lines.specs.declared.said.Said.TheVariants.{Nothing, Sets, Locks, LocksNothing, Fault}

abbrev pub answer_said : Said → Answer
answer_said Nothing = silent
answer_said (Sets path text) = sets (record { path = text_of path; text = text.now })
answer_said (Locks path) = locks path.now
answer_said LocksNothing = idle
answer_said (Fault fault) = refused (cause_of fault)
