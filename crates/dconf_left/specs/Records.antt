-- A file as who noted left it, and its record: seven numbers of eight bytes each.
use Rattle.std.specs.Prelude.{ℕ, ◌+◌, Bool, ◌&&◌, ◌==◌, List, [], ◌∷◌, flat_map, slice_range}
use Rattle.gv_model.specs.BasicValue.{number_in, truth_bits}
use Rattle.gv_model.specs.Encode.{number_bytes}
use Rattle.dconf_files.specs.declared.stamp.FileStamp.{FileStamp}
use Rattle.dconf_left.specs.declared.files.LeftFile.{LeftFile}
use Rattle.dconf_left.specs.Numbers.{name_number}

-- a file is known by its name, its device, its number there, its size, and when it was written
abbrev pub left_file : List ℕ → FileStamp → LeftFile
left_file name file = record {
  name = name_number name;
  device = file.device;
  inode = file.inode;
  size = file.size;
  seconds = file.written.seconds;
  nanoseconds = file.written.nanoseconds;
}

abbrev pub is_one : LeftFile → LeftFile → Bool
is_one f g =
    (f.nanoseconds == g.nanoseconds) && (f.seconds == g.seconds) && (f.inode == g.inode) && (f.size == g.size)
    && (f.name == g.name) && (f.device == g.device)

-- the numbers of its record, of which the last is 1 if it was on the disk
abbrev pub numbers : LeftFile → Bool → List ℕ
numbers f synced = f.name ∷ f.device ∷ f.inode ∷ f.size ∷ f.seconds ∷ f.nanoseconds ∷ truth_bits synced ∷ []

-- each in eight bytes, the lowest first
abbrev pub record_bytes : LeftFile → Bool → List ℕ
record_bytes f synced = flat_map (number_bytes 8) (numbers f synced)

-- ---- what a record says

-- the number in the eight bytes at a place
abbrev pub number_at : List ℕ → ℕ → ℕ
number_at r at = number_in (slice_range r at (at + 8))

abbrev pub file_in : List ℕ → LeftFile
file_in r = record {
  name = number_at r 0;
  device = number_at r 8;
  inode = number_at r 16;
  size = number_at r 24;
  seconds = number_at r 32;
  nanoseconds = number_at r 40;
}

abbrev pub synced_in : List ℕ → Bool
synced_in r = number_at r 48 == 1
