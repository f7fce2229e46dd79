-- What is watched of a name on the way to a file, and where the path goes on.
use Rattle.std.specs.Prelude.{ℕ, List, Bool, true, false, not, ◌&&◌, ◌||◌, codes, length, eqb, ◌==◌, if◌then◌else◌}
use Rattle.std.specs.List.{ends_with, starts_with}
use Rattle.std.specs.Str.{bytes_eq}
use Rattle.dconf_watches.specs.declared.name.Found.{Found}
use Rattle.dconf_watches.specs.declared.name.Found.TheVariants.{Missing, Link, Folder, Unseen}
use Rattle.dconf_watches.specs.declared.name.NameWatch.{NameWatch}
use Rattle.dconf_watches.specs.declared.name.Way.{Way}
use Rattle.dconf_watches.specs.declared.event.Heard.{Heard}

-- The command and the service are few: they may be woken by much that is none of theirs. Programs are many.
abbrev pub minds_much : ℕ → Bool
minds_much who = (who == 3) || (who == 4)

-- dconf's client reads its profile once, and all others go by what it is now
abbrev pub keeps_profile : ℕ → Bool
keeps_profile who = who == 2

-- a profile that counts as it was read goes on naming the same files, whatever its file says by now; and the library's caller is told of the store that it
-- opened, and of no other
abbrev pub watches_store : ℕ → Bool → Bool
watches_store who is_open = is_open && ((who == 0) || keeps_profile who)

-- A bad file refuses the store of the library's caller alone, unless that asks for a lenient one, or for no more than the names of its files: to all others
-- it counts as what can be read of it
abbrev pub is_lenient : ℕ → Bool → Bool → Bool
is_lenient who asked lists = not (who == 0) || (asked || lists)

-- dconf's readers have their flags there, of which some come and go with each set
abbrev pub has_flags : List ℕ → Bool
has_flags folder = starts_with eqb folder (codes "/run/user/") && ends_with eqb folder (codes "/dconf")

-- much happens in /etc beside a name on the way, and beside a file where the flags are: only who minds that waits there
abbrev pub is_busy : Bool → Bool → List ℕ → Bool
is_busy minds last folder = not minds && (if last then has_flags folder else bytes_eq folder (codes "/etc"))

-- of a folder of that name in another one, that it is /etc; the root's path is empty
abbrev pub is_busy_in : Bool → List ℕ → List ℕ → Bool
is_busy_in minds folder name = not minds && (length folder == 0 && bytes_eq name (codes "etc"))

-- in such a folder nobody waits
abbrev pub unless : Bool → NameWatch → NameWatch
unless busy watch = if busy then NameWatch.Nothing else watch

-- the last name of a path
abbrev pub watch_of_last : Found → Bool → NameWatch
watch_of_last Missing busy_above = unless busy_above NameWatch.Awaited
watch_of_last Link busy_above = NameWatch.Awaited
watch_of_last Unseen busy_above = NameWatch.Awaited
watch_of_last found busy_above = NameWatch.Own

-- one on the way: what is no folder and no link is waited for otherwise
abbrev pub watch_on_the_way : Found → Bool → Bool → NameWatch
watch_on_the_way Link busy_above busy = NameWatch.Passage
watch_on_the_way Folder busy_above busy = unless busy NameWatch.Itself
watch_on_the_way found busy_above busy = unless busy_above NameWatch.Passage

abbrev pub watch_of : Found → Bool → Bool → Bool → NameWatch
watch_of found last busy_above busy = if last then watch_of_last found busy_above else watch_on_the_way found busy_above busy

-- A folder above the files may be closed to us: then it isn't known when it is moved.
abbrev pub is_needed : NameWatch → Bool
is_needed NameWatch.Nothing = false
is_needed NameWatch.Itself = false
is_needed watch = true

-- what can't be seen may be a link, or a folder, that leads on to what nobody watches
abbrev pub is_missed : Found → Bool
is_missed Unseen = true
is_missed found = false

abbrev pub way_of : Found → Bool → Way
way_of Link last = Way.Follows
way_of Folder false = Way.Enters
way_of found last = Way.Ends

-- What it means if something comes to the file's own name. Where nothing is all names are watched anew then, so that the file gets a watch of its own; a
-- link has the path go on elsewhere.
abbrev pub heard_as_last : Found → Heard → Heard
heard_as_last Missing role = Heard.Path
heard_as_last Link role = Heard.Path
heard_as_last Unseen role = Heard.Path
heard_as_last found role = role

abbrev pub heard_as : Found → Bool → Heard → Heard
heard_as found last role = if last then heard_as_last found role else Heard.Path

-- ---- one name of a path; `.` is the folder itself, and `..` the one above it

abbrev pub is_dot : List ℕ → Bool
is_dot name = bytes_eq name (codes ".")

abbrev pub is_dots : List ℕ → Bool
is_dots name = bytes_eq name (codes "..")

abbrev pub watch_at : List ℕ → NameWatch → NameWatch
watch_at name watch = if is_dot name || is_dots name then NameWatch.Nothing else watch

abbrev pub way_at : List ℕ → Way → Way
way_at name way = if is_dot name then Way.Stays else if is_dots name then Way.Rises else way
