-- What is heard of what happens in a folder.
use Rattle.std.specs.Prelude.{ℕ, Bool, true, false, if◌then◌else◌}
use Rattle.dconf_watches.specs.declared.name.Found.{Found}
use Rattle.dconf_watches.specs.declared.name.Found.TheVariants.{Missing, Link, File, Unseen}
use Rattle.dconf_watches.specs.declared.name.NameWatch.{NameWatch}
use Rattle.dconf_watches.specs.declared.event.Event.{Event}
use Rattle.dconf_watches.specs.declared.event.Event.TheVariants.{Made, Came, Went, Written, Access, Gone, Lost, Other}
use Rattle.dconf_watches.specs.declared.event.Of.{Of}
use Rattle.dconf_watches.specs.declared.event.Heard.{Heard}
use Rattle.dconf_watches.specs.Inotify.{asked_of_file}

-- a link leads to another path, and what can't be seen may be one
abbrev pub came : Heard → Found → Heard
came comes Link = Heard.Path
came comes Unseen = Heard.Path
came comes found = comes

-- a new file is written after it is made; all else is whole at once
abbrev pub made : Heard → Found → Heard
made comes Missing = Heard.Nothing
made comes File = Heard.Nothing
made comes found = came comes found

-- of a name on the way
abbrev pub heard_of_passage : Heard → Event → Found → Heard
heard_of_passage comes Made found = made comes found
heard_of_passage comes Came found = came comes found
heard_of_passage comes Went found = Heard.Path
heard_of_passage comes event found = Heard.Nothing

-- of one at which something may be made
abbrev pub heard_of_awaited : Heard → Event → Found → Heard
heard_of_awaited comes Made found = made comes found
heard_of_awaited comes Came found = came comes found
heard_of_awaited comes Went found = Heard.Path
heard_of_awaited comes Gone found = Heard.Nothing
heard_of_awaited comes event found = comes

-- of a file's own name: that it is written the file itself tells
abbrev pub heard_of_own : Heard → Event → Found → Heard
heard_of_own comes Made found = Heard.Nothing
heard_of_own comes Written found = Heard.Nothing
heard_of_own comes event found = heard_of_awaited comes event found

abbrev pub heard_of_name : NameWatch → Heard → Event → Found → Heard
heard_of_name NameWatch.Passage comes event found = heard_of_passage comes event found
heard_of_name NameWatch.Own comes event found = heard_of_own comes event found
heard_of_name NameWatch.Awaited comes event found = heard_of_awaited comes event found
heard_of_name watch comes event found = Heard.Nothing

-- of the folder that the name is in, or that is watched itself
abbrev pub heard_of_folder : NameWatch → Event → Heard
heard_of_folder NameWatch.Itself Gone = Heard.Path
heard_of_folder NameWatch.Own Access = Heard.Path
heard_of_folder NameWatch.Awaited Access = Heard.Path
heard_of_folder watch event = Heard.Nothing

-- of the file itself, which has a watch of its own
abbrev pub heard_of_file : NameWatch → Heard → Event → Heard
heard_of_file NameWatch.Own comes Written = comes
heard_of_file watch comes event = Heard.Nothing

abbrev pub heard_of : NameWatch → Heard → Event → Of → Found → Heard
heard_of watch comes event Of.Name found = heard_of_name watch comes event found
heard_of watch comes event Of.Folder found = heard_of_folder watch event
heard_of watch comes event Of.File found = heard_of_file watch comes event
heard_of watch comes event Of.AnotherName found = Heard.Nothing

-- where it isn't known what happened, other files may be the store's
abbrev pub meaning : NameWatch → Heard → Event → Of → Found → Heard
meaning watch comes Lost of found = Heard.Path
meaning watch comes Other of found = Heard.Nothing
meaning watch comes event of found = heard_of watch comes event of found

-- where the file that has the name can't be watched all names are watched anew: then that is found wanting
abbrev pub heard_if : Bool → Heard → Heard
heard_if is_missed heard = if is_missed then Heard.Path else heard

-- ---- the watch of the file itself, which goes with the file, and not with the name

-- another file may have the name by now, or the one that has it may be one that can be read at last
abbrev pub may_be_another : Event → Bool
may_be_another Came = true
may_be_another Access = true
may_be_another event = false

-- What inotify is asked for of the file that has the name by now. Of one that has it still that changes nothing.
abbrev pub asked_anew : NameWatch → Event → Of → Found → ℕ
asked_anew watch event Of.Name found = if may_be_another event then asked_of_file watch found else 0
asked_anew watch event of found = 0

-- that other files may be the store's means more than that one may have changed
abbrev pub louder : Heard → Heard → Heard
louder Heard.Path other = Heard.Path
louder Heard.File Heard.Path = Heard.Path
louder Heard.File other = Heard.File
louder Heard.Nothing other = other
