use Rattle.std.proofs.Common.{◌≡◌}
use Rattle.dconf_steps.specs.QueueRecords.{last_set}
use Rattle.dconf_steps.proofs.queue_record.newest_set.Given as goal

-- of the edits before this one it is the last
abbrev pub invariant-loop-at : goal.invariant-loop-at
invariant-loop-at l = l.found ≡ last_set l.edits l.at
