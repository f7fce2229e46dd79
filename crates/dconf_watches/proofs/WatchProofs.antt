-- The laws of watches, case by case.
use Rattle.std.proofs.Common.{◌≡◌, ◌≢◌, ◌⊎◌, true, false, refl, inl, inr}
use Rattle.dconf_watches.specs.declared.name.Found.{Found}
use Rattle.dconf_watches.specs.declared.event.Event.{Event}
use Rattle.dconf_watches.specs.declared.event.Heard.{Heard}
use Rattle.dconf_watches.specs.Events.{came, meaning}
use Rattle.dconf_watches.specs.declared.event.Of.{Of}
use Rattle.dconf_watches.specs.declared.name.NameWatch.{NameWatch}
use Rattle.dconf_watches.specs.Inotify.{Bit, asked_of_file, has, number}
use Rattle.dconf_watches.specs.Names.{heard_as}
use Rattle.dconf_watches.specs.WatchLaws.{AllThatCountsIsHeard, EachFileIsFollowed, NobodyElseIsHeard, TheEndIsWatched, is_file, is_there}

path_is_some : Heard.Path ≢ Heard.Nothing
path_is_some e = cc

came_is_some : (comes : Heard) (by : Found) → comes ≢ Heard.Nothing → came comes by ≢ Heard.Nothing
came_is_some comes Found.Missing some = some
came_is_some comes Found.Link some = path_is_some
came_is_some comes Found.Folder some = some
came_is_some comes Found.File some = some
came_is_some comes Found.Other some = some
came_is_some comes Found.Unseen some = path_is_some

pub the_end_is_watched : TheEndIsWatched
the_end_is_watched Found.Missing true busy role some ends by = (came_is_some Heard.Path by path_is_some, refl)
the_end_is_watched Found.Link true busy role some ends by = (came_is_some Heard.Path by path_is_some, refl)
the_end_is_watched Found.Folder true busy role some ends by = (came_is_some role by some, refl)
the_end_is_watched Found.File true busy role some ends by = (came_is_some role by some, refl)
the_end_is_watched Found.Other true busy role some ends by = (came_is_some role by some, refl)
the_end_is_watched Found.Unseen true busy role some ends by = (came_is_some Heard.Path by path_is_some, refl)
the_end_is_watched Found.Missing false busy role some ends by = (came_is_some Heard.Path by path_is_some, refl)
the_end_is_watched Found.Link false busy role some ends by = (came_is_some Heard.Path by path_is_some, refl)
the_end_is_watched Found.Folder false busy role some (inl ends) by = absurd (let e = ends in cc)
the_end_is_watched Found.Folder false busy role some (inr link) by = absurd (let e = link in cc)
the_end_is_watched Found.File false busy role some ends by = (came_is_some Heard.Path by path_is_some, refl)
the_end_is_watched Found.Other false busy role some ends by = (came_is_some Heard.Path by path_is_some, refl)
the_end_is_watched Found.Unseen false busy role some ends by = (came_is_some Heard.Path by path_is_some, refl)

pub all_that_counts_is_heard : AllThatCountsIsHeard
all_that_counts_is_heard comes Event.Made Found.Missing some = record { counts = λ c e. (let no : false ≡ true = c in cc); own = λ no. absurd (no refl); goes = refl; link = refl }
all_that_counts_is_heard comes Event.Made Found.Link some = record { counts = λ c. path_is_some; own = λ no. absurd (no refl); goes = refl; link = refl }
all_that_counts_is_heard comes Event.Made Found.Folder some = record { counts = λ c. some; own = λ no. absurd (no refl); goes = refl; link = refl }
all_that_counts_is_heard comes Event.Made Found.File some = record { counts = λ c e. (let no : false ≡ true = c in cc); own = λ no. absurd (no refl); goes = refl; link = refl }
all_that_counts_is_heard comes Event.Made Found.Other some = record { counts = λ c. some; own = λ no. absurd (no refl); goes = refl; link = refl }
all_that_counts_is_heard comes Event.Made Found.Unseen some = record { counts = λ c. path_is_some; own = λ no. absurd (no refl); goes = refl; link = refl }
all_that_counts_is_heard comes Event.Came by some = record { counts = λ c. came_is_some comes by some; own = λ no. refl; goes = refl; link = refl }
all_that_counts_is_heard comes Event.Went by some = record { counts = λ c. path_is_some; own = λ no. refl; goes = refl; link = refl }
all_that_counts_is_heard comes Event.Written by some = record { counts = λ c. some; own = λ no. refl; goes = refl; link = refl }
all_that_counts_is_heard comes Event.Access by some = record { counts = λ c. some; own = λ no. refl; goes = refl; link = refl }
all_that_counts_is_heard comes Event.Gone by some = record { counts = λ c. absurd c; own = λ no. refl; goes = refl; link = refl }
all_that_counts_is_heard comes Event.Lost by some = record { counts = λ c. path_is_some; own = λ no. refl; goes = refl; link = refl }
all_that_counts_is_heard comes Event.Other by some = record { counts = λ c. absurd c; own = λ no. refl; goes = refl; link = refl }

pub nobody_else_is_heard : NobodyElseIsHeard
nobody_else_is_heard watch comes Event.Made by e = refl
nobody_else_is_heard watch comes Event.Came by e = refl
nobody_else_is_heard watch comes Event.Went by e = refl
nobody_else_is_heard watch comes Event.Written by e = refl
nobody_else_is_heard watch comes Event.Access by e = refl
nobody_else_is_heard watch comes Event.Gone by e = refl
nobody_else_is_heard watch comes Event.Lost by e = absurd (e refl)
nobody_else_is_heard watch comes Event.Other by e = refl

-- ---- another file

written : (by : Found) → is_file by ≡ true → has (asked_of_file NameWatch.Own by) (number Bit.in_close_write) ≡ true
written Found.Missing is = absurd (let no : false ≡ true = is in cc)
written Found.Link is = absurd (let no : false ≡ true = is in cc)
written Found.Folder is = absurd (let no : false ≡ true = is in cc)
written Found.File is = refl
written Found.Other is = refl
written Found.Unseen is = absurd (let no : false ≡ true = is in cc)

path_at : (event : Event) (by : Found) →
    (meaning NameWatch.Awaited Heard.Path event Of.Name by ≡ Heard.Nothing) ⊎ (meaning NameWatch.Awaited Heard.Path event Of.Name by ≡ Heard.Path)
path_at Event.Made Found.Missing = inl refl
path_at Event.Made Found.Link = inr refl
path_at Event.Made Found.Folder = inr refl
path_at Event.Made Found.File = inl refl
path_at Event.Made Found.Other = inr refl
path_at Event.Made Found.Unseen = inr refl
path_at Event.Came Found.Missing = inr refl
path_at Event.Came Found.Link = inr refl
path_at Event.Came Found.Folder = inr refl
path_at Event.Came Found.File = inr refl
path_at Event.Came Found.Other = inr refl
path_at Event.Came Found.Unseen = inr refl
path_at Event.Went by = inr refl
path_at Event.Written by = inr refl
path_at Event.Access by = inr refl
path_at Event.Gone by = inl refl
path_at Event.Lost by = inr refl
path_at Event.Other by = inl refl

awaited : (event : Event) (by had : Found) (role : Heard) → is_there had ≡ false →
    (meaning NameWatch.Awaited (heard_as had true role) event Of.Name by ≡ Heard.Nothing) ⊎ (meaning NameWatch.Awaited (heard_as had true role) event Of.Name by ≡ Heard.Path)
awaited event by Found.Missing role is = path_at event by
awaited event by Found.Link role is = path_at event by
awaited event by Found.Folder role is = absurd (let no : true ≡ false = is in cc)
awaited event by Found.File role is = absurd (let no : true ≡ false = is in cc)
awaited event by Found.Other role is = absurd (let no : true ≡ false = is in cc)
awaited event by Found.Unseen role is = path_at event by

pub each_file_is_followed : EachFileIsFollowed
each_file_is_followed comes Event.Made by = record { another = λ r. absurd r; opened = refl; written = written by; awaited = awaited Event.Made by }
each_file_is_followed comes Event.Came by = record { another = λ r. inr refl; opened = refl; written = written by; awaited = awaited Event.Came by }
each_file_is_followed comes Event.Went by = record { another = λ r. inl refl; opened = refl; written = written by; awaited = awaited Event.Went by }
each_file_is_followed comes Event.Written by = record { another = λ r. absurd r; opened = refl; written = written by; awaited = awaited Event.Written by }
each_file_is_followed comes Event.Access by = record { another = λ r. absurd r; opened = refl; written = written by; awaited = awaited Event.Access by }
each_file_is_followed comes Event.Gone by = record { another = λ r. absurd r; opened = refl; written = written by; awaited = awaited Event.Gone by }
each_file_is_followed comes Event.Lost by = record { another = λ r. inl refl; opened = refl; written = written by; awaited = awaited Event.Lost by }
each_file_is_followed comes Event.Other by = record { another = λ r. absurd r; opened = refl; written = written by; awaited = awaited Event.Other by }
