use Rattle.std.proofs.Common.{◌≡◌, ◌≤◌, ◌+◌, length, map, ℕ, List}
use Rattle.std.specs.Prelude.{option_map}
use Rattle.keyfile_core.specs.Feeds.{lines_in}
use Rattle.dconfdb_calls.specs.GoodLines.{fault_from, first_fault, good_names, line_fault, names_from}
use Rattle.dconfdb_calls.specs.Named.{told}
use Rattle.keyfile_core.proofs.LineParts.{left, text_of}
use Rattle.dconfdb_calls.proofs.lines.good_lines.Given as goal

-- what is known so far and what is left are the whole text
abbrev pub invariant-loop-rest : goal.invariant-loop-rest
invariant-loop-rest l = record {
  names : names_from (map {B = ℕ × List ℕ} told l.lines.names.items) (lines_in (text_of l.rest)) ≡ good_names l.text;
  fault : fault_from (option_map line_fault l.lines.fault) l.number (map {B = ℕ × List ℕ} told l.lines.names.items) (lines_in (text_of l.rest)) ≡ first_fault l.text;
  room : l.number + left (text_of l.rest) ≤ length l.text + 1;
}

abbrev pub decreases-loop-rest : goal.decreases-loop-rest
decreases-loop-rest l = left (text_of l.rest)
