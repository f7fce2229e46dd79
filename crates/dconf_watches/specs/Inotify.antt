-- What inotify tells and is asked for, <linux/inotify.h>, and what stands at a name, <sys/stat.h>: the system's numbers.
use Rattle.std.specs.Prelude.{ℕ, Bool, not, ◌+◌, ◌||◌, ◌==◌, if◌then◌else◌, bit_and}
use Rattle.dconf_watches.specs.declared.name.Found.{Found}
use Rattle.dconf_watches.specs.declared.name.NameWatch.{NameWatch}
use Rattle.dconf_watches.specs.declared.event.Event.{Event}
use Rattle.dconf_watches.specs.declared.event.Event.TheVariants.{Made, Came, Went, Written, Access, Gone, Lost, Other}

-- what inotify tells; the last three also of what nobody asked for
pub data Bit : Type 0 where
  in_access : Bit
  in_modify : Bit
  in_attrib : Bit
  in_close_write : Bit
  in_close_nowrite : Bit
  in_open : Bit
  in_moved_from : Bit
  in_moved_to : Bit
  in_create : Bit
  in_delete : Bit
  in_delete_self : Bit
  in_move_self : Bit
  in_unmount : Bit
  in_q_overflow : Bit
  in_ignored : Bit

abbrev pub number : Bit → ℕ
number in_access = 1
number in_modify = 2
number in_attrib = 4
number in_close_write = 8
number in_close_nowrite = 16
number in_open = 32
number in_moved_from = 64
number in_moved_to = 128
number in_create = 256
number in_delete = 512
number in_delete_self = 1024
number in_move_self = 2048
number in_unmount = 8192
number in_q_overflow = 16384
number in_ignored = 32768

-- IN_ISDIR, which may stand beside one
abbrev pub of_a_folder : ℕ
of_a_folder = 1073741824

-- whether a mask has one of these
abbrev pub has : ℕ → ℕ → Bool
has mask bits = not (bit_and mask bits == 0)

-- What a mask says that happened. Each has one of the bits above.
abbrev pub event_in : ℕ → Event
event_in mask =
    if has mask (number in_unmount + number in_q_overflow) then Lost
    else if has mask (number in_moved_from + number in_delete) then Went
    else if has mask (number in_create) then Made
    else if has mask (number in_moved_to) then Came
    else if has mask (number in_close_write) then Written
    else if has mask (number in_attrib) then Access
    else if has mask (number in_delete_self + number in_move_self) then Gone
    else Other

-- What is asked for of a folder, of a name in it or of the folder itself. Of a file that is there who writes it is asked for at the file itself: what others
-- write and close in its folder, as NAME.new, wakes nobody.
abbrev pub asked_of : NameWatch → ℕ
asked_of NameWatch.Nothing = 0
asked_of NameWatch.Itself = number in_delete_self + number in_move_self
asked_of NameWatch.Passage = number in_moved_from + number in_moved_to + number in_create + number in_delete
asked_of NameWatch.Own = number in_attrib + number in_moved_from + number in_moved_to + number in_delete
asked_of NameWatch.Awaited = number in_attrib + number in_close_write + number in_moved_from + number in_moved_to + number in_create + number in_delete

-- what is asked for of what stands there itself: of a folder nothing, since inotify would tell of what is in it
abbrev pub asked_of_file : NameWatch → Found → ℕ
asked_of_file NameWatch.Own Found.File = number in_close_write
asked_of_file NameWatch.Own Found.Other = number in_close_write
asked_of_file watch found = 0

-- ---- where it can't be watched, <errno.h>

abbrev pub enoent : ℕ
enoent = 2

abbrev pub eacces : ℕ
eacces = 13

-- Whether something is missed then; 0 is no fault. What went is told of by its folder. What we may not read no look could read, and its folder tells when
-- who may read it changes.
abbrev pub is_file_missed : ℕ → Bool
is_file_missed fault = not ((fault == 0) || (fault == enoent) || (fault == eacces))

-- ---- what stands at a name, by st_mode and st_nlink

-- S_IFMT, and what it takes of a folder, a regular file and a link
abbrev pub kind_in : ℕ → ℕ
kind_in mode = bit_and mode 61440

abbrev pub a_folder : ℕ
a_folder = 16384

abbrev pub a_regular_file : ℕ
a_regular_file = 32768

abbrev pub a_link : ℕ
a_link = 40960

-- without a kind nothing stands there
abbrev pub found_by : ℕ → ℕ → Found
found_by mode links =
    if kind_in mode == 0 then Found.Missing
    else if kind_in mode == a_link then Found.Link
    else if kind_in mode == a_folder then Found.Folder
    else if kind_in mode == a_regular_file then if links == 1 then Found.File else Found.Other
    else Found.Other

-- the same where it may be that it can't be seen, or not where a link leads
abbrev pub seen_by : Bool → ℕ → ℕ → Found
seen_by is_unseen mode links = if is_unseen then Found.Unseen else found_by mode links
