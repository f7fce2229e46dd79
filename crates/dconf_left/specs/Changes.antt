-- When a file was changed that nobody noted.
use Rattle.std.specs.Prelude.{ℕ, ◌+◌, ◌*◌, min, nat_lt, if◌then◌else◌}
use Rattle.dconf_files.specs.declared.stamp.FileStamp.{FileStamp}
use Rattle.dconf_files.specs.declared.stamp.FileTime.{FileTime}
use Rattle.dconf_times.specs.Moments.{time_of_file}

-- Nanoseconds since 1970. A time before it, which is a negative number of seconds, is the first that is noted; and the last one is that which 64
-- bits hold.
abbrev pub nanoseconds : FileTime → ℕ
nanoseconds t = if nat_lt 9223372036854775807 t.seconds then 0 else min (min (t.seconds * 1000000000) 18446744073709551615 + t.nanoseconds) 18446744073709551615

-- the file says when it was changed, or, where that is gone, the folder in which its name went
abbrev pub who_says : FileStamp → FileStamp → FileStamp
who_says file folder = if file.is_there then file else folder

abbrev pub said_at : FileStamp → ℕ
said_at stamp = time_of_file (nanoseconds stamp.written) (nanoseconds stamp.touched)

abbrev pub changed_at : FileStamp → FileStamp → ℕ
changed_at file folder = said_at (who_says file folder)
