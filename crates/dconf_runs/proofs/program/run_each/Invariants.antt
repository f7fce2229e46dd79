use Rattle.std.proofs.Common.{◌≡◌, IsTrue, List, length, map}
use Rattle.dconf_model.specs.Folders.{Event}
use Rattle.dconf_runs.specs.Programs.{asked_of, HasRunInTurn}
use Rattle.dconf_runs.proofs.program.run_each.Given as goal

abbrev pub invariant-loop-request : goal.invariant-loop-request
invariant-loop-request g l =
    (IsTrue (g.F.Folder.honest l.folder) → (old : List Event) → g.F.Folder.past l.fn.folder old →
    (new : List Event) × g.F.Folder.past l.folder new × HasRunInTurn old (map asked_of l.yielded) l.lefts.items new)
    × (length l.lefts.items ≡ length l.yielded)
    × (IsTrue (g.F.Folder.honest l.folder) → IsTrue (g.F.Folder.honest l.fn.folder))
