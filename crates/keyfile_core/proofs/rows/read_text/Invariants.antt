use Rattle.std.proofs.Common.{◌≡◌, ◌≤◌, ◌+◌, None, length, map}
use Rattle.std.specs.Prelude.{option_map}
use Rattle.std.specs.List.{slice_split}
use Rattle.keyfile_core.specs.Feeds.{is_feed, lines_in}
use Rattle.keyfile_core.specs.Readings.{read_below}
use Rattle.keyfile_core.specs.Rows.{row_meant}
use Rattle.keyfile_core.proofs.LineParts.{left}
use Rattle.keyfile_core.proofs.ReadingLaws.{with_rows}
use Rattle.keyfile_core.proofs.rows.read_text.Given as goal

abbrev pub invariant-loop-rest : goal.invariant-loop-rest
invariant-loop-rest l = record {
  reads : with_rows (map row_meant l.rows.items) (read_below (option_map (λ text. text.now) l.reader.group) l.reader.line (lines_in (option_map (λ rest. rest.now) l.rest)))
      ≡ read_below None 0 (slice_split is_feed l.text);
  room : l.reader.line + left (option_map (λ rest. rest.now) l.rest) ≤ length l.text + 1;
}

abbrev pub decreases-loop-rest : goal.decreases-loop-rest
decreases-loop-rest l = left (option_map (λ rest. rest.now) l.rest)
