use Rattle.std.proofs.Common.{◌+◌, ◌-◌, ◌≡◌, ◌≤◌, length}
use Rattle.dconf_path.specs.PlainBytes.{ArePlain}
use Rattle.dconf_path.proofs.plain.has_plain_blocks.Given as goal

abbrev pub invariant-loop-i : goal.invariant-loop-i
invariant-loop-i l = ((l.last + 1 ≡ length l.bytes) × (l.i ≤ l.last)) × ArePlain l.bytes l.i

abbrev pub decreases-loop-i : goal.decreases-loop-i
decreases-loop-i l = l.last + 1 - l.i
