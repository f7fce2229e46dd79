-- The files that are asked for, in the order of their paths. docs/MANUAL.md, "lint [FILE]..".
use Rattle.std.specs.Prelude.{ℕ, Bool, ◌==◌, if◌then◌else◌}
use Rattle.dconf_roles.specs.declared.asked.FileBeside.{FileBeside}

-- each is looked at once, and those of a folder are those of one database
abbrev pub beside : Bool → Bool → FileBeside
beside same of_folder = if same then FileBeside.Again else if of_folder then FileBeside.Next else FileBeside.First

abbrev pub beside_number : FileBeside → ℕ
beside_number FileBeside.Again = 0
beside_number FileBeside.Next = 1
beside_number FileBeside.First = 2

-- NAME.d is the folder of one database; its `locks` are of the same
abbrev pub begins_sources : ℕ → Bool
begins_sources within = within == 2

-- what is too large for a text (EOVERFLOW) may be a database; whatever else fails fails for that, too
abbrev pub reads_on : ℕ → Bool
reads_on errno = errno == 75
