use Rattle.std.proofs.Common.{map}
use Rattle.dconf_times.specs.Times.{note_of}
use Rattle.dconf_times.proofs.PutLaws.{oldest_put}
use Rattle.dconf_times.proofs.notes.replace_oldest.Goals as goal

pub returns-in-Some-clause-added : goal.returns-in-Some-clause-added
returns-in-Some-clause-added c = λ most full. oldest_put most c.args.kept.now c.in-Some.at c.args.time (map note_of c.put_later.new.kept) c.put_later.ensures.put c.in-Some.ensures.some full
