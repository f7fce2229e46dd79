use Rattle.dconfdb_calls.specs.Seen.{layers_of}
use Rattle.dconf_made.proofs.MadeLaws.{MadeBefore}
use Rattle.dconf_made.proofs.made.are_made.Given as goal

-- the user's database has what each before this one asks for
abbrev pub invariant-loop-at : goal.invariant-loop-at
invariant-loop-at l = MadeBefore (layers_of l.layers l.writable) l.changes l.at
