use Rattle.std.proofs.Common.{◌≡◌, List, length}
use Rattle.dconf_model.specs.Folders.{Event}
use Rattle.dconf_folders.specs.MemoryFolders.{IsPast}
use Rattle.dconf_runs.specs.Programs.{HaveComeInTurn}
use Rattle.dconf_runs.proofs.attempt.run_through_crashes.Given as goal

abbrev pub invariant-loop-attempt : goal.invariant-loop-attempt
invariant-loop-attempt l =
    ((old : List Event) → IsPast l.fn.folder old → (new : List Event) × IsPast l.folder new × HaveComeInTurn old l.yielded l.all.items new)
    × (length l.all.items ≡ length l.yielded)
