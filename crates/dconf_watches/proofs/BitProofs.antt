-- What inotify tells and is asked for, bit by bit.
use Rattle.std.proofs.Common.{◌≡◌, ◌≢◌, ◌⊎◌, true, false, refl, inl, inr}
use Rattle.dconf_watches.specs.declared.name.Found.{Found}
use Rattle.dconf_watches.specs.declared.name.NameWatch.{NameWatch}
use Rattle.dconf_watches.specs.declared.event.Event.{Event}
use Rattle.dconf_watches.specs.declared.event.Of.{Of}
use Rattle.dconf_watches.specs.declared.event.Heard.{Heard}
use Rattle.dconf_watches.specs.Events.{meaning}
use Rattle.dconf_watches.specs.Inotify.{Bit, asked_of, asked_of_file, event_in, number}
use Rattle.dconf_watches.specs.WatchLaws.{AllThatCountsIsAskedFor, AllThatIsHeardIsAskedFor, EachBitIsRead, IsIn, WritersBesideWakeNobody, is_file}

pub each_bit_is_read : EachBitIsRead
each_bit_is_read Bit.in_access = record { alone = refl; folders = refl }
each_bit_is_read Bit.in_modify = record { alone = refl; folders = refl }
each_bit_is_read Bit.in_attrib = record { alone = refl; folders = refl }
each_bit_is_read Bit.in_close_write = record { alone = refl; folders = refl }
each_bit_is_read Bit.in_close_nowrite = record { alone = refl; folders = refl }
each_bit_is_read Bit.in_open = record { alone = refl; folders = refl }
each_bit_is_read Bit.in_moved_from = record { alone = refl; folders = refl }
each_bit_is_read Bit.in_moved_to = record { alone = refl; folders = refl }
each_bit_is_read Bit.in_create = record { alone = refl; folders = refl }
each_bit_is_read Bit.in_delete = record { alone = refl; folders = refl }
each_bit_is_read Bit.in_delete_self = record { alone = refl; folders = refl }
each_bit_is_read Bit.in_move_self = record { alone = refl; folders = refl }
each_bit_is_read Bit.in_unmount = record { alone = refl; folders = refl }
each_bit_is_read Bit.in_q_overflow = record { alone = refl; folders = refl }
each_bit_is_read Bit.in_ignored = record { alone = refl; folders = refl }

-- ---- where nothing is heard

silent_nothing : (comes : Heard) (event : Event) (of : Of) (by : Found) → event ≢ Event.Lost → meaning NameWatch.Nothing comes event of by ≡ Heard.Nothing
silent_nothing comes Event.Made Of.Name by e = refl
silent_nothing comes Event.Made Of.Folder by e = refl
silent_nothing comes Event.Made Of.AnotherName by e = refl
silent_nothing comes Event.Made Of.File by e = refl
silent_nothing comes Event.Came Of.Name by e = refl
silent_nothing comes Event.Came Of.Folder by e = refl
silent_nothing comes Event.Came Of.AnotherName by e = refl
silent_nothing comes Event.Came Of.File by e = refl
silent_nothing comes Event.Went Of.Name by e = refl
silent_nothing comes Event.Went Of.Folder by e = refl
silent_nothing comes Event.Went Of.AnotherName by e = refl
silent_nothing comes Event.Went Of.File by e = refl
silent_nothing comes Event.Written Of.Name by e = refl
silent_nothing comes Event.Written Of.Folder by e = refl
silent_nothing comes Event.Written Of.AnotherName by e = refl
silent_nothing comes Event.Written Of.File by e = refl
silent_nothing comes Event.Access Of.Name by e = refl
silent_nothing comes Event.Access Of.Folder by e = refl
silent_nothing comes Event.Access Of.AnotherName by e = refl
silent_nothing comes Event.Access Of.File by e = refl
silent_nothing comes Event.Gone Of.Name by e = refl
silent_nothing comes Event.Gone Of.Folder by e = refl
silent_nothing comes Event.Gone Of.AnotherName by e = refl
silent_nothing comes Event.Gone Of.File by e = refl
silent_nothing comes Event.Lost of by e = absurd (e refl)
silent_nothing comes Event.Other of by e = refl

-- ---- what is asked for

folder_tells : (bit : Bit) (watch : NameWatch) (comes : Heard) (of : Of) (by : Found) → of ≢ Of.File →
    (meaning watch comes (event_in (number bit)) of by ≡ Heard.Nothing) ⊎ IsIn (asked_of watch) bit
folder_tells Bit.in_access watch comes of by n = inl refl
folder_tells Bit.in_modify watch comes of by n = inl refl
folder_tells Bit.in_attrib NameWatch.Nothing comes of by n = inl (silent_nothing comes Event.Access of by (λ e. cc))
folder_tells Bit.in_attrib NameWatch.Itself comes Of.Name by n = inl refl
folder_tells Bit.in_attrib NameWatch.Itself comes Of.Folder by n = inl refl
folder_tells Bit.in_attrib NameWatch.Itself comes Of.AnotherName by n = inl refl
folder_tells Bit.in_attrib NameWatch.Itself comes Of.File by n = inl refl
folder_tells Bit.in_attrib NameWatch.Passage comes Of.Name by n = inl refl
folder_tells Bit.in_attrib NameWatch.Passage comes Of.Folder by n = inl refl
folder_tells Bit.in_attrib NameWatch.Passage comes Of.AnotherName by n = inl refl
folder_tells Bit.in_attrib NameWatch.Passage comes Of.File by n = inl refl
folder_tells Bit.in_attrib NameWatch.Own comes of by n = inr (inr refl)
folder_tells Bit.in_attrib NameWatch.Awaited comes of by n = inr (inr refl)
folder_tells Bit.in_close_write NameWatch.Nothing comes of by n = inl (silent_nothing comes Event.Written of by (λ e. cc))
folder_tells Bit.in_close_write NameWatch.Itself comes Of.Name by n = inl refl
folder_tells Bit.in_close_write NameWatch.Itself comes Of.Folder by n = inl refl
folder_tells Bit.in_close_write NameWatch.Itself comes Of.AnotherName by n = inl refl
folder_tells Bit.in_close_write NameWatch.Itself comes Of.File by n = inl refl
folder_tells Bit.in_close_write NameWatch.Passage comes Of.Name by n = inl refl
folder_tells Bit.in_close_write NameWatch.Passage comes Of.Folder by n = inl refl
folder_tells Bit.in_close_write NameWatch.Passage comes Of.AnotherName by n = inl refl
folder_tells Bit.in_close_write NameWatch.Passage comes Of.File by n = inl refl
folder_tells Bit.in_close_write NameWatch.Own comes Of.Name by n = inl refl
folder_tells Bit.in_close_write NameWatch.Own comes Of.Folder by n = inl refl
folder_tells Bit.in_close_write NameWatch.Own comes Of.AnotherName by n = inl refl
folder_tells Bit.in_close_write NameWatch.Own comes Of.File by n = absurd (n refl)
folder_tells Bit.in_close_write NameWatch.Awaited comes of by n = inr (inr refl)
folder_tells Bit.in_close_nowrite watch comes of by n = inl refl
folder_tells Bit.in_open watch comes of by n = inl refl
folder_tells Bit.in_moved_from NameWatch.Nothing comes of by n = inl (silent_nothing comes Event.Went of by (λ e. cc))
folder_tells Bit.in_moved_from NameWatch.Itself comes Of.Name by n = inl refl
folder_tells Bit.in_moved_from NameWatch.Itself comes Of.Folder by n = inl refl
folder_tells Bit.in_moved_from NameWatch.Itself comes Of.AnotherName by n = inl refl
folder_tells Bit.in_moved_from NameWatch.Itself comes Of.File by n = inl refl
folder_tells Bit.in_moved_from NameWatch.Passage comes of by n = inr (inr refl)
folder_tells Bit.in_moved_from NameWatch.Own comes of by n = inr (inr refl)
folder_tells Bit.in_moved_from NameWatch.Awaited comes of by n = inr (inr refl)
folder_tells Bit.in_moved_to NameWatch.Nothing comes of by n = inl (silent_nothing comes Event.Came of by (λ e. cc))
folder_tells Bit.in_moved_to NameWatch.Itself comes Of.Name by n = inl refl
folder_tells Bit.in_moved_to NameWatch.Itself comes Of.Folder by n = inl refl
folder_tells Bit.in_moved_to NameWatch.Itself comes Of.AnotherName by n = inl refl
folder_tells Bit.in_moved_to NameWatch.Itself comes Of.File by n = inl refl
folder_tells Bit.in_moved_to NameWatch.Passage comes of by n = inr (inr refl)
folder_tells Bit.in_moved_to NameWatch.Own comes of by n = inr (inr refl)
folder_tells Bit.in_moved_to NameWatch.Awaited comes of by n = inr (inr refl)
folder_tells Bit.in_create NameWatch.Nothing comes of by n = inl (silent_nothing comes Event.Made of by (λ e. cc))
folder_tells Bit.in_create NameWatch.Itself comes Of.Name by n = inl refl
folder_tells Bit.in_create NameWatch.Itself comes Of.Folder by n = inl refl
folder_tells Bit.in_create NameWatch.Itself comes Of.AnotherName by n = inl refl
folder_tells Bit.in_create NameWatch.Itself comes Of.File by n = inl refl
folder_tells Bit.in_create NameWatch.Passage comes of by n = inr (inr refl)
folder_tells Bit.in_create NameWatch.Own comes Of.Name by n = inl refl
folder_tells Bit.in_create NameWatch.Own comes Of.Folder by n = inl refl
folder_tells Bit.in_create NameWatch.Own comes Of.AnotherName by n = inl refl
folder_tells Bit.in_create NameWatch.Own comes Of.File by n = inl refl
folder_tells Bit.in_create NameWatch.Awaited comes of by n = inr (inr refl)
folder_tells Bit.in_delete NameWatch.Nothing comes of by n = inl (silent_nothing comes Event.Went of by (λ e. cc))
folder_tells Bit.in_delete NameWatch.Itself comes Of.Name by n = inl refl
folder_tells Bit.in_delete NameWatch.Itself comes Of.Folder by n = inl refl
folder_tells Bit.in_delete NameWatch.Itself comes Of.AnotherName by n = inl refl
folder_tells Bit.in_delete NameWatch.Itself comes Of.File by n = inl refl
folder_tells Bit.in_delete NameWatch.Passage comes of by n = inr (inr refl)
folder_tells Bit.in_delete NameWatch.Own comes of by n = inr (inr refl)
folder_tells Bit.in_delete NameWatch.Awaited comes of by n = inr (inr refl)
folder_tells Bit.in_delete_self NameWatch.Nothing comes of by n = inl (silent_nothing comes Event.Gone of by (λ e. cc))
folder_tells Bit.in_delete_self NameWatch.Itself comes of by n = inr (inr refl)
folder_tells Bit.in_delete_self NameWatch.Passage comes Of.Name by n = inl refl
folder_tells Bit.in_delete_self NameWatch.Passage comes Of.Folder by n = inl refl
folder_tells Bit.in_delete_self NameWatch.Passage comes Of.AnotherName by n = inl refl
folder_tells Bit.in_delete_self NameWatch.Passage comes Of.File by n = inl refl
folder_tells Bit.in_delete_self NameWatch.Own comes Of.Name by n = inl refl
folder_tells Bit.in_delete_self NameWatch.Own comes Of.Folder by n = inl refl
folder_tells Bit.in_delete_self NameWatch.Own comes Of.AnotherName by n = inl refl
folder_tells Bit.in_delete_self NameWatch.Own comes Of.File by n = inl refl
folder_tells Bit.in_delete_self NameWatch.Awaited comes Of.Name by n = inl refl
folder_tells Bit.in_delete_self NameWatch.Awaited comes Of.Folder by n = inl refl
folder_tells Bit.in_delete_self NameWatch.Awaited comes Of.AnotherName by n = inl refl
folder_tells Bit.in_delete_self NameWatch.Awaited comes Of.File by n = inl refl
folder_tells Bit.in_move_self NameWatch.Nothing comes of by n = inl (silent_nothing comes Event.Gone of by (λ e. cc))
folder_tells Bit.in_move_self NameWatch.Itself comes of by n = inr (inr refl)
folder_tells Bit.in_move_self NameWatch.Passage comes Of.Name by n = inl refl
folder_tells Bit.in_move_self NameWatch.Passage comes Of.Folder by n = inl refl
folder_tells Bit.in_move_self NameWatch.Passage comes Of.AnotherName by n = inl refl
folder_tells Bit.in_move_self NameWatch.Passage comes Of.File by n = inl refl
folder_tells Bit.in_move_self NameWatch.Own comes Of.Name by n = inl refl
folder_tells Bit.in_move_self NameWatch.Own comes Of.Folder by n = inl refl
folder_tells Bit.in_move_self NameWatch.Own comes Of.AnotherName by n = inl refl
folder_tells Bit.in_move_self NameWatch.Own comes Of.File by n = inl refl
folder_tells Bit.in_move_self NameWatch.Awaited comes Of.Name by n = inl refl
folder_tells Bit.in_move_self NameWatch.Awaited comes Of.Folder by n = inl refl
folder_tells Bit.in_move_self NameWatch.Awaited comes Of.AnotherName by n = inl refl
folder_tells Bit.in_move_self NameWatch.Awaited comes Of.File by n = inl refl
folder_tells Bit.in_unmount watch comes of by n = inr (inl refl)
folder_tells Bit.in_q_overflow watch comes of by n = inr (inl refl)
folder_tells Bit.in_ignored watch comes of by n = inl refl

-- that the file is written, it tells itself
written_is_asked_for : (had : Found) → is_file had ≡ true → IsIn (asked_of_file NameWatch.Own had) Bit.in_close_write
written_is_asked_for Found.Missing is = absurd (let no : false ≡ true = is in cc)
written_is_asked_for Found.Link is = absurd (let no : false ≡ true = is in cc)
written_is_asked_for Found.Folder is = absurd (let no : false ≡ true = is in cc)
written_is_asked_for Found.File is = inr refl
written_is_asked_for Found.Other is = inr refl
written_is_asked_for Found.Unseen is = absurd (let no : false ≡ true = is in cc)

-- and nothing else
file_is_silent : (watch : NameWatch) (comes : Heard) (event : Event) (by : Found) → event ≢ Event.Lost → event ≢ Event.Written → meaning watch comes event Of.File by ≡ Heard.Nothing
file_is_silent NameWatch.Nothing comes event by l w = silent_nothing comes event Of.File by l
file_is_silent NameWatch.Itself comes Event.Made by l w = refl
file_is_silent NameWatch.Itself comes Event.Came by l w = refl
file_is_silent NameWatch.Itself comes Event.Went by l w = refl
file_is_silent NameWatch.Itself comes Event.Written by l w = refl
file_is_silent NameWatch.Itself comes Event.Access by l w = refl
file_is_silent NameWatch.Itself comes Event.Gone by l w = refl
file_is_silent NameWatch.Itself comes Event.Lost by l w = absurd (l refl)
file_is_silent NameWatch.Itself comes Event.Other by l w = refl
file_is_silent NameWatch.Passage comes Event.Made by l w = refl
file_is_silent NameWatch.Passage comes Event.Came by l w = refl
file_is_silent NameWatch.Passage comes Event.Went by l w = refl
file_is_silent NameWatch.Passage comes Event.Written by l w = refl
file_is_silent NameWatch.Passage comes Event.Access by l w = refl
file_is_silent NameWatch.Passage comes Event.Gone by l w = refl
file_is_silent NameWatch.Passage comes Event.Lost by l w = absurd (l refl)
file_is_silent NameWatch.Passage comes Event.Other by l w = refl
file_is_silent NameWatch.Own comes Event.Made by l w = refl
file_is_silent NameWatch.Own comes Event.Came by l w = refl
file_is_silent NameWatch.Own comes Event.Went by l w = refl
file_is_silent NameWatch.Own comes Event.Written by l w = absurd (w refl)
file_is_silent NameWatch.Own comes Event.Access by l w = refl
file_is_silent NameWatch.Own comes Event.Gone by l w = refl
file_is_silent NameWatch.Own comes Event.Lost by l w = absurd (l refl)
file_is_silent NameWatch.Own comes Event.Other by l w = refl
file_is_silent NameWatch.Awaited comes Event.Made by l w = refl
file_is_silent NameWatch.Awaited comes Event.Came by l w = refl
file_is_silent NameWatch.Awaited comes Event.Went by l w = refl
file_is_silent NameWatch.Awaited comes Event.Written by l w = refl
file_is_silent NameWatch.Awaited comes Event.Access by l w = refl
file_is_silent NameWatch.Awaited comes Event.Gone by l w = refl
file_is_silent NameWatch.Awaited comes Event.Lost by l w = absurd (l refl)
file_is_silent NameWatch.Awaited comes Event.Other by l w = refl

file_tells : (bit : Bit) (watch : NameWatch) (comes : Heard) (by had : Found) → is_file had ≡ true →
    (meaning watch comes (event_in (number bit)) Of.File by ≡ Heard.Nothing) ⊎ IsIn (asked_of_file watch had) bit
file_tells Bit.in_access watch comes by had is = inl (file_is_silent watch comes Event.Other by (λ e. cc) (λ e. cc))
file_tells Bit.in_modify watch comes by had is = inl (file_is_silent watch comes Event.Other by (λ e. cc) (λ e. cc))
file_tells Bit.in_attrib watch comes by had is = inl (file_is_silent watch comes Event.Access by (λ e. cc) (λ e. cc))
file_tells Bit.in_close_write NameWatch.Nothing comes by had is = inl refl
file_tells Bit.in_close_write NameWatch.Itself comes by had is = inl refl
file_tells Bit.in_close_write NameWatch.Passage comes by had is = inl refl
file_tells Bit.in_close_write NameWatch.Awaited comes by had is = inl refl
file_tells Bit.in_close_write NameWatch.Own comes by had is = inr (written_is_asked_for had is)
file_tells Bit.in_close_nowrite watch comes by had is = inl (file_is_silent watch comes Event.Other by (λ e. cc) (λ e. cc))
file_tells Bit.in_open watch comes by had is = inl (file_is_silent watch comes Event.Other by (λ e. cc) (λ e. cc))
file_tells Bit.in_moved_from watch comes by had is = inl (file_is_silent watch comes Event.Went by (λ e. cc) (λ e. cc))
file_tells Bit.in_moved_to watch comes by had is = inl (file_is_silent watch comes Event.Came by (λ e. cc) (λ e. cc))
file_tells Bit.in_create watch comes by had is = inl (file_is_silent watch comes Event.Made by (λ e. cc) (λ e. cc))
file_tells Bit.in_delete watch comes by had is = inl (file_is_silent watch comes Event.Went by (λ e. cc) (λ e. cc))
file_tells Bit.in_delete_self watch comes by had is = inl (file_is_silent watch comes Event.Gone by (λ e. cc) (λ e. cc))
file_tells Bit.in_move_self watch comes by had is = inl (file_is_silent watch comes Event.Gone by (λ e. cc) (λ e. cc))
file_tells Bit.in_unmount watch comes by had is = inr (inl refl)
file_tells Bit.in_q_overflow watch comes by had is = inr (inl refl)
file_tells Bit.in_ignored watch comes by had is = inl (file_is_silent watch comes Event.Other by (λ e. cc) (λ e. cc))

pub all_that_is_heard_is_asked_for : AllThatIsHeardIsAskedFor
all_that_is_heard_is_asked_for bit watch comes by = record {
  folder = λ of no. folder_tells bit watch comes of by no;
  file = λ had is. file_tells bit watch comes by had is;
}

pub all_that_counts_is_asked_for : AllThatCountsIsAskedFor
all_that_counts_is_asked_for Bit.in_access by counts = absurd counts
all_that_counts_is_asked_for Bit.in_modify by counts = absurd counts
all_that_counts_is_asked_for Bit.in_attrib by counts = record { awaited = inr refl; own = λ no had is. inl (inr refl) }
all_that_counts_is_asked_for Bit.in_close_write by counts = record { awaited = inr refl; own = λ no had is. inr (written_is_asked_for had is) }
all_that_counts_is_asked_for Bit.in_close_nowrite by counts = absurd counts
all_that_counts_is_asked_for Bit.in_open by counts = absurd counts
all_that_counts_is_asked_for Bit.in_moved_from by counts = record { awaited = inr refl; own = λ no had is. inl (inr refl) }
all_that_counts_is_asked_for Bit.in_moved_to by counts = record { awaited = inr refl; own = λ no had is. inl (inr refl) }
all_that_counts_is_asked_for Bit.in_create by counts = record { awaited = inr refl; own = λ no. absurd (no refl) }
all_that_counts_is_asked_for Bit.in_delete by counts = record { awaited = inr refl; own = λ no had is. inl (inr refl) }
all_that_counts_is_asked_for Bit.in_delete_self by counts = absurd counts
all_that_counts_is_asked_for Bit.in_move_self by counts = absurd counts
all_that_counts_is_asked_for Bit.in_unmount by counts = record { awaited = inl refl; own = λ no had is. inl (inl refl) }
all_that_counts_is_asked_for Bit.in_q_overflow by counts = record { awaited = inl refl; own = λ no had is. inl (inl refl) }
all_that_counts_is_asked_for Bit.in_ignored by counts = absurd counts

-- ---- who writes beside a file

pub writers_beside_wake_nobody : WritersBesideWakeNobody
writers_beside_wake_nobody Bit.in_access Found.Missing above busy of is = absurd (let no : false ≡ true = is in cc)
writers_beside_wake_nobody Bit.in_access Found.Link above busy of is = absurd (let no : false ≡ true = is in cc)
writers_beside_wake_nobody Bit.in_access Found.Folder above busy of is = refl
writers_beside_wake_nobody Bit.in_access Found.File above busy of is = refl
writers_beside_wake_nobody Bit.in_access Found.Other above busy of is = refl
writers_beside_wake_nobody Bit.in_access Found.Unseen above busy of is = absurd (let no : false ≡ true = is in cc)
writers_beside_wake_nobody Bit.in_modify Found.Missing above busy of is = absurd (let no : false ≡ true = is in cc)
writers_beside_wake_nobody Bit.in_modify Found.Link above busy of is = absurd (let no : false ≡ true = is in cc)
writers_beside_wake_nobody Bit.in_modify Found.Folder above busy of is = refl
writers_beside_wake_nobody Bit.in_modify Found.File above busy of is = refl
writers_beside_wake_nobody Bit.in_modify Found.Other above busy of is = refl
writers_beside_wake_nobody Bit.in_modify Found.Unseen above busy of is = absurd (let no : false ≡ true = is in cc)
writers_beside_wake_nobody Bit.in_attrib found above busy of is = absurd (let no : false ≡ true = of in cc)
writers_beside_wake_nobody Bit.in_close_write Found.Missing above busy of is = absurd (let no : false ≡ true = is in cc)
writers_beside_wake_nobody Bit.in_close_write Found.Link above busy of is = absurd (let no : false ≡ true = is in cc)
writers_beside_wake_nobody Bit.in_close_write Found.Folder above busy of is = refl
writers_beside_wake_nobody Bit.in_close_write Found.File above busy of is = refl
writers_beside_wake_nobody Bit.in_close_write Found.Other above busy of is = refl
writers_beside_wake_nobody Bit.in_close_write Found.Unseen above busy of is = absurd (let no : false ≡ true = is in cc)
writers_beside_wake_nobody Bit.in_close_nowrite Found.Missing above busy of is = absurd (let no : false ≡ true = is in cc)
writers_beside_wake_nobody Bit.in_close_nowrite Found.Link above busy of is = absurd (let no : false ≡ true = is in cc)
writers_beside_wake_nobody Bit.in_close_nowrite Found.Folder above busy of is = refl
writers_beside_wake_nobody Bit.in_close_nowrite Found.File above busy of is = refl
writers_beside_wake_nobody Bit.in_close_nowrite Found.Other above busy of is = refl
writers_beside_wake_nobody Bit.in_close_nowrite Found.Unseen above busy of is = absurd (let no : false ≡ true = is in cc)
writers_beside_wake_nobody Bit.in_open Found.Missing above busy of is = absurd (let no : false ≡ true = is in cc)
writers_beside_wake_nobody Bit.in_open Found.Link above busy of is = absurd (let no : false ≡ true = is in cc)
writers_beside_wake_nobody Bit.in_open Found.Folder above busy of is = refl
writers_beside_wake_nobody Bit.in_open Found.File above busy of is = refl
writers_beside_wake_nobody Bit.in_open Found.Other above busy of is = refl
writers_beside_wake_nobody Bit.in_open Found.Unseen above busy of is = absurd (let no : false ≡ true = is in cc)
writers_beside_wake_nobody Bit.in_moved_from found above busy of is = absurd (let no : false ≡ true = of in cc)
writers_beside_wake_nobody Bit.in_moved_to found above busy of is = absurd (let no : false ≡ true = of in cc)
writers_beside_wake_nobody Bit.in_create Found.Missing above busy of is = absurd (let no : false ≡ true = is in cc)
writers_beside_wake_nobody Bit.in_create Found.Link above busy of is = absurd (let no : false ≡ true = is in cc)
writers_beside_wake_nobody Bit.in_create Found.Folder above busy of is = refl
writers_beside_wake_nobody Bit.in_create Found.File above busy of is = refl
writers_beside_wake_nobody Bit.in_create Found.Other above busy of is = refl
writers_beside_wake_nobody Bit.in_create Found.Unseen above busy of is = absurd (let no : false ≡ true = is in cc)
writers_beside_wake_nobody Bit.in_delete found above busy of is = absurd (let no : false ≡ true = of in cc)
writers_beside_wake_nobody Bit.in_delete_self found above busy of is = absurd (let no : false ≡ true = of in cc)
writers_beside_wake_nobody Bit.in_move_self found above busy of is = absurd (let no : false ≡ true = of in cc)
writers_beside_wake_nobody Bit.in_unmount found above busy of is = absurd (let no : false ≡ true = of in cc)
writers_beside_wake_nobody Bit.in_q_overflow found above busy of is = absurd (let no : false ≡ true = of in cc)
writers_beside_wake_nobody Bit.in_ignored found above busy of is = absurd (let no : false ≡ true = of in cc)
