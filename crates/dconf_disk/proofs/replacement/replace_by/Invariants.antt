use Rattle.std.proofs.Common.{◌≡◌, true, false, List, [], length}
use Rattle.std.specs.Prelude.{IsTrue}
use Rattle.dconf_model.specs.Folders.{Event}
use Rattle.dconf_turn.specs.Steps.{step_of, steps_left}
use Rattle.dconf_turn.specs.Progress.{Stands}
use Rattle.dconf_disk.specs.Driving.{IsIdle, IsOnWay, IsRoomy, IsStraight, CountsSo, job_of}
use Rattle.dconf_disk.proofs.replacement.replace_by.Given as goal

-- What was done to the folder is known, where its past is; and the turn stands at some folder in any case.
abbrev pub invariant-steps : goal.invariant-steps
invariant-steps g l = record {
  hides : IsTrue l.turn.keeps → g.F.Folder.hides ≡ true;
  some : (es : List Event) × Stands l.turn (job_of l.name l.bytes) [] es × IsRoomy (step_of l.turn) l.name es;
  known : (es : List Event) → g.F.Folder.past l.fn.folder es → (now : List Event) × g.F.Folder.past l.folder now
      × IsStraight (step_of l.turn) l.turn.outcome es now l.name l.bytes × IsOnWay g.F.Folder.hides l.turn l.name l.bytes es now;
  turn : g.F.Folder.holds_turn l.folder ≡ g.F.Folder.holds_turn l.fn.folder;
  honest : IsTrue (g.F.Folder.honest l.folder) → IsTrue (g.F.Folder.honest l.fn.folder);
  idle : g.F.Folder.holds_turn l.fn.folder ≡ false → IsIdle (step_of l.turn) l.turn.outcome × ((es : List Event) → g.F.Folder.past l.fn.folder es → g.F.Folder.past l.folder es);
  counts : CountsSo (step_of l.turn) l.turn.outcome (g.F.Folder.failed l.fn.folder) (g.F.Folder.failed l.folder);
}

abbrev pub decreases-steps : goal.decreases-steps
decreases-steps g l = steps_left l.turn (length l.bytes)
