use Rattle.std.proofs.Common.{arith}
use Rattle.dconf_notes.specs.Records.{noted_of}
use Rattle.dconf_notes.proofs.RoomLaws.{record_length}
use Rattle.dconf_notes.proofs.writing.len_with.Goals as goal

pub returns-in-Some : goal.returns-in-Some
returns-in-Some c = let is = c.in-Some.ensures in omega (arith, is.1, record_length (noted_of c.args.note.now))
