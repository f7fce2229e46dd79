-- What watches are for: where a path ends, what comes is heard; and what others write beside a file wakes nobody.
use Rattle.std.specs.Prelude.{ℕ, ◌+◌, ◌≡◌, ◌≢◌, ◌⊎◌, Bool, true, false}
use Rattle.dconf_watches.specs.declared.name.Found.{Found}
use Rattle.dconf_watches.specs.declared.name.NameWatch.{NameWatch}
use Rattle.dconf_watches.specs.declared.name.Way.TheVariants as Way
use Rattle.dconf_watches.specs.declared.event.Event.{Event}
use Rattle.dconf_watches.specs.declared.event.Of.{Of}
use Rattle.dconf_watches.specs.declared.event.Heard.{Heard}
use Rattle.dconf_watches.specs.Names.{heard_as, watch_of, way_of}
use Rattle.dconf_watches.specs.Events.{asked_anew, meaning}
use Rattle.dconf_watches.specs.Inotify.{Bit, number, of_a_folder, has, event_in, asked_of, asked_of_file}

-- ---- where a path ends

-- a link, or something else that is whole at once, comes to a name
abbrev pub is_whole : Found → Bool
is_whole Found.Missing = false
is_whole Found.File = false
is_whole found = true

-- What is made, moved there, or goes, at a name where a path ends, or at a link, is heard. A file that is made is heard when it has been
-- written, or of a name on the way not at all: no path leads through a file.
abbrev pub TheEndIsWatched : Type 0
TheEndIsWatched =
    (found : Found) (last busy : Bool) (role : Heard) → role ≢ Heard.Nothing →
    (way_of found last ≡ Way.Ends) ⊎ (found ≡ Found.Link) →
    (by : Found) →
    (meaning (watch_of found last false busy) (heard_as found last role) Event.Came Of.Name by ≢ Heard.Nothing)
    × (meaning (watch_of found last false busy) (heard_as found last role) Event.Went Of.Name by ≡ Heard.Path)

-- ---- what counts

-- to the file's own name
abbrev pub Counts : Event → Found → Type 0
Counts Event.Made by = is_whole by ≡ true
Counts Event.Gone by = ⊥
Counts Event.Other by = ⊥
Counts event by = Unit {0}

-- who tells of what happens to a file that is there: the file itself, if it is written, and else its folder, by its name
abbrev pub told_of : Event → Of
told_of Event.Written = Of.File
told_of event = Of.Name

-- Whatever counts at a name that is awaited is heard; and where the name goes, or a link comes, another path may lead to the file.
pub record IsHeardOf (comes : Heard) (event : Event) (by : Found) : Type 0 where
  pub counts : Counts event by → meaning NameWatch.Awaited comes event Of.Name by ≢ Heard.Nothing
  -- the same of a file that is there, but that nothing is made where something has the name
  pub own : (event ≢ Event.Made) → meaning NameWatch.Own comes event (told_of event) by ≡ meaning NameWatch.Awaited comes event Of.Name by
  pub goes : meaning NameWatch.Awaited comes Event.Went Of.Name by ≡ Heard.Path
  pub link : meaning NameWatch.Awaited comes Event.Made Of.Name Found.Link ≡ Heard.Path

abbrev pub AllThatCountsIsHeard : Type 0
AllThatCountsIsHeard = (comes : Heard) (event : Event) (by : Found) → comes ≢ Heard.Nothing → IsHeardOf comes event by

-- ---- what doesn't

abbrev pub NobodyElseIsHeard : Type 0
NobodyElseIsHeard =
    (watch : NameWatch) (comes : Heard) (event : Event) (by : Found) → event ≢ Event.Lost →
    meaning watch comes event Of.AnotherName by ≡ Heard.Nothing

-- ---- what inotify tells

-- each bit of its header alone, and beside IN_ISDIR
abbrev pub meant_by : Bit → Event
meant_by Bit.in_attrib = Event.Access
meant_by Bit.in_close_write = Event.Written
meant_by Bit.in_moved_from = Event.Went
meant_by Bit.in_moved_to = Event.Came
meant_by Bit.in_create = Event.Made
meant_by Bit.in_delete = Event.Went
meant_by Bit.in_delete_self = Event.Gone
meant_by Bit.in_move_self = Event.Gone
meant_by Bit.in_unmount = Event.Lost
meant_by Bit.in_q_overflow = Event.Lost
meant_by bit = Event.Other

pub record IsReadSo (bit : Bit) : Type 0 where
  pub alone : event_in (number bit) ≡ meant_by bit
  pub folders : event_in (number bit + of_a_folder) ≡ meant_by bit

abbrev pub EachBitIsRead : Type 0
EachBitIsRead = (bit : Bit) → IsReadSo bit

-- whoever has it is a file, which is written
abbrev pub is_file : Found → Bool
is_file Found.File = true
is_file Found.Other = true
is_file found = false

-- a mask has that bit; or it is one that is told to all, as it isn't known what happened
abbrev pub IsIn : ℕ → Bit → Type 0
IsIn mask bit = (event_in (number bit) ≡ Event.Lost) ⊎ (has mask (number bit) ≡ true)

-- What would be heard is asked for by whoever tells it.
pub record IsAskedFor (bit : Bit) (watch : NameWatch) (comes : Heard) (by : Found) : Type 0 where
  -- a name in a folder, or the folder
  pub folder : (of : Of) → of ≢ Of.File → (meaning watch comes (event_in (number bit)) of by ≡ Heard.Nothing) ⊎ IsIn (asked_of watch) bit
  -- a file, which had the name when it was watched
  pub file : (had : Found) → is_file had ≡ true → (meaning watch comes (event_in (number bit)) Of.File by ≡ Heard.Nothing) ⊎ IsIn (asked_of_file watch had) bit

abbrev pub AllThatIsHeardIsAskedFor : Type 0
AllThatIsHeardIsAskedFor = (bit : Bit) (watch : NameWatch) (comes : Heard) (by : Found) → IsAskedFor bit watch comes by

-- And so is all that counts.
pub record CountsAndIsAskedFor (bit : Bit) : Type 0 where
  -- of the folder, where something may be made
  pub awaited : IsIn (asked_of NameWatch.Awaited) bit
  -- of the folder or of the file, where one is: then nothing is made there
  pub own : event_in (number bit) ≢ Event.Made → (had : Found) → is_file had ≡ true → IsIn (asked_of NameWatch.Own) bit ⊎ IsIn (asked_of_file NameWatch.Own had) bit

abbrev pub AllThatCountsIsAskedFor : Type 0
AllThatCountsIsAskedFor = (bit : Bit) (by : Found) → Counts (event_in (number bit)) by → CountsAndIsAskedFor bit

-- ---- who writes beside a file

-- What inotify tells of a folder in which somebody makes a file, opens one, reads or writes it, and closes it.
abbrev pub is_of_writer : Bit → Bool
is_of_writer Bit.in_create = true
is_of_writer Bit.in_open = true
is_of_writer Bit.in_access = true
is_of_writer Bit.in_modify = true
is_of_writer Bit.in_close_nowrite = true
is_of_writer Bit.in_close_write = true
is_of_writer bit = false

-- something is at the name, and it is no link
abbrev pub is_there : Found → Bool
is_there Found.Missing = false
is_there Found.Link = false
is_there Found.Unseen = false
is_there found = true

-- None of that is asked for where a path ends at what is there. So whoever writes a file beside it, and then closes that and its lock, wakes nobody.
abbrev pub WritersBesideWakeNobody : Type 0
WritersBesideWakeNobody =
    (bit : Bit) (found : Found) (above busy : Bool) → is_of_writer bit ≡ true → is_there found ≡ true →
    has (asked_of (watch_of found true above busy)) (number bit) ≡ false

-- ---- another file

-- after these, another file than the one that is watched may have the name
abbrev pub Replaces : Event → Type 0
Replaces Event.Came = Unit {0}
Replaces Event.Went = Unit {0}
Replaces Event.Lost = Unit {0}
Replaces event = ⊥

-- By what has the name then. What is no file is told of by its folder alone.
pub record IsFollowed (comes : Heard) (event : Event) (by : Found) : Type 0 where
  -- all names are watched anew, or the file is that has the name now
  pub another : Replaces event → (meaning NameWatch.Own comes event Of.Name by ≡ Heard.Path) ⊎ (asked_anew NameWatch.Own event Of.Name by ≡ asked_of_file NameWatch.Own by)
  -- so is one that could not be read, and thus not be watched, and maybe can be now
  pub opened : asked_anew NameWatch.Own Event.Access Of.Name by ≡ asked_of_file NameWatch.Own by
  -- who writes a file that is watched so is told of
  pub written : is_file by ≡ true → has (asked_of_file NameWatch.Own by) (number Bit.in_close_write) ≡ true
  -- whatever comes to a name at which no file was, all names are watched anew: then it is one that is there
  pub awaited : (had : Found) (role : Heard) → is_there had ≡ false →
      (meaning NameWatch.Awaited (heard_as had true role) event Of.Name by ≡ Heard.Nothing) ⊎ (meaning NameWatch.Awaited (heard_as had true role) event Of.Name by ≡ Heard.Path)

abbrev pub EachFileIsFollowed : Type 0
EachFileIsFollowed = (comes : Heard) (event : Event) (by : Found) → IsFollowed comes event by
