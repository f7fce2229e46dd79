use Rattle.std.proofs.Common.{length, ◌-◌, ◌≡◌, ◌≤◌, ◌+◌, drop, get_or}
use Rattle.gv_model.specs.Numerals.{run_after}
use Rattle.gv_syntax.proofs.lexing.numeral.run_len.Given as goal

abbrev pub invariant-loop-end : goal.invariant-loop-end
invariant-loop-end l = record {
  begun : 1 ≤ l.end;
  within : l.end ≤ length l.text;
  same : l.end + length (run_after l.is_hex (get_or l.text (l.end - 1) 0) (drop l.end l.text)) ≡ 1 + length (run_after l.is_hex (get_or l.text 0 0) (drop 1 l.text));
}

abbrev pub decreases-loop-end : goal.decreases-loop-end
decreases-loop-end l = length l.text - l.end
