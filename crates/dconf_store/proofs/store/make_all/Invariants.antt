use Rattle.std.proofs.Common.{take}
use Rattle.dconf_store.specs.Changes.{asked_of}
use Rattle.dconf_store.specs.Seen.{HaveChanged}
use Rattle.dconf_store.proofs.store.make_all.Given as goal

-- the changes so far were made
abbrev pub invariant-loop-i : goal.invariant-loop-i
invariant-loop-i l = HaveChanged l.initial.engine (take l.i (asked_of l.changes)) l.engine
