-- What the host says of a file without reading it, and whether that is the file that was read.
use Rattle.std.specs.Prelude.{ℕ, ◌+◌, ◌*◌, Bool, not, ◌&&◌, ◌||◌, if◌then◌else◌, ◌==◌, nat_le}
use Rattle.dconf_files.specs.declared.stamp.FileTime.{FileTime}
use Rattle.dconf_files.specs.declared.stamp.FileStamp.{FileStamp}
use Rattle.dconf_files.specs.declared.stamp.Sameness.{Sameness}
use Rattle.dconf_files.specs.declared.stamp.Sameness.TheVariants.{Same, Other, Unsure}

abbrev pub is_same_time : FileTime → FileTime → Bool
is_same_time old now = (old.nanoseconds == now.nanoseconds) && (old.seconds == now.seconds)

-- the same number, size and time of writing
abbrev pub is_written_alike : FileStamp → FileStamp → Bool
is_written_alike old now = (old.inode == now.inode) && is_same_time old.written now.written && (old.size == now.size) && (old.device == now.device)

-- How far a time may lie before the clock's at which it was noted: two seconds if it has no part of a second, as with hosts that keep
-- none, and else ten milliseconds.
abbrev pub grain_of : FileTime → ℕ
grain_of t = if t.nanoseconds == 0 then 2000000000 else 10000000

-- the first moment at which a change gets a later time
abbrev pub settled_at : FileTime → ℕ
settled_at t = t.seconds * 1000000000 + t.nanoseconds + grain_of t

abbrev pub is_settled : FileTime → ℕ → Bool
is_settled t opened = nat_le (settled_at t) opened

abbrev pub missing : Bool → Bool → Sameness
missing old now = if old || now then Other else Same

-- Of a file that was read from then on. One that has been held open since has no other's number; whose it is may change.
abbrev pub sameness_of : FileStamp → FileStamp → ℕ → Bool → Sameness
sameness_of old now opened held =
    if not old.is_there || not now.is_there then missing old.is_there now.is_there else
    if not (is_written_alike old now) then Other else if held then Same else
    if not (is_same_time old.touched now.touched) then Other else if is_settled old.touched opened then Same else Unsure

abbrev pub sameness_number : Sameness → ℕ
sameness_number Same = 0
sameness_number Other = 1
sameness_number Unsure = 2
