-- How long somebody waits until what waits is written, in microseconds.
use Rattle.std.specs.Prelude.{ℕ, ◌+◌, min, not, ◌&&◌, if◌then◌else◌, ◌==◌}
use Rattle.dconf_files.specs.Stamps.{is_same_time}
use Rattle.dconf_files.specs.declared.stamp.FileTime.{FileTime}
use Rattle.dconf_waiting.specs.declared.patience.Patience.{Patience}

-- the moment so long after that one, on a clock of 64 bits
abbrev pub later_by : ℕ → ℕ → ℕ
later_by now time = min (now + time) 18446744073709551615

-- who sets or syncs, the program's end, and who wants a lock there that is held for moments; and between two questions whether others had turns, and two
-- of the end whether what it waits for is over
abbrev pub patience_for : ℕ → ℕ
patience_for who = if who == 0 then 10000000 else if who == 1 then 5000000 else if who == 3 then 500000 else if who == 4 then 5000 else 2000000

-- for a minute at most, from when it began
abbrev pub latest_of : Patience → ℕ → ℕ
latest_of p now = if p.latest == 0 then later_by now 60000000 else p.latest

-- it begins now, or another program had a turn: so long, but not beyond that minute
abbrev pub renewed : Patience → FileTime → ℕ → Patience
renewed p changed now = record p { end = min (later_by now p.each) (latest_of p now); latest = latest_of p now; changed = changed }

-- nobody had a turn if it has begun and the folder is as it was
abbrev pub renewed_by : Patience → FileTime → ℕ → Patience
renewed_by p changed now = if not (p.latest == 0) && is_same_time p.changed changed then p else renewed p changed now

abbrev pub never : FileTime
never = record { seconds = 0; nanoseconds = 0 }

-- it has not begun
abbrev pub unbegun : ℕ → Patience
unbegun each = record { end = 0; each = each; latest = 0; changed = never }
