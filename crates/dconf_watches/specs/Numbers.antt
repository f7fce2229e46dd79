-- Names, events and what is heard as numbers.
use Rattle.std.specs.Prelude.{ℕ, List, Bool, not, nat_lt, ◌≡◌, if◌then◌else◌, ◌==◌}
use Rattle.dconf_watches.specs.declared.name.Found.{Found}
use Rattle.dconf_watches.specs.declared.name.NameWatch.{NameWatch}
use Rattle.dconf_watches.specs.declared.name.Way.{Way}
use Rattle.dconf_watches.specs.declared.name.Way.TheVariants.{Ends, Follows, Enters, Stays, Rises}
use Rattle.dconf_watches.specs.declared.event.Of.{Of}
use Rattle.dconf_watches.specs.declared.event.Heard.{Heard}
use Rattle.dconf_watches.specs.declared.numbers.WatchedName.{WatchedName}
use Rattle.dconf_watches.specs.Inotify.{asked_of, asked_of_file, seen_by}
use Rattle.dconf_watches.specs.Names.{heard_as, is_busy, is_busy_in, is_missed, is_needed, watch_at, watch_of, way_at, way_of}

-- to what of a name: an event is of the file's own watch, or of the folder's; then it has a name, if it isn't the folder's own
abbrev pub of_what : Bool → Bool → Bool → Of
of_what of_file has_name is_same = if of_file then Of.File else if not has_name then Of.Folder else if is_same then Of.Name else Of.AnotherName

abbrev pub heard_of : ℕ → Heard
heard_of n = if n == 0 then Heard.File else if n == 1 then Heard.Path else Heard.Nothing

abbrev pub heard_number : Heard → ℕ
heard_number Heard.File = 0
heard_number Heard.Path = 1
heard_number Heard.Nothing = 2

abbrev pub name_watch_of : ℕ → NameWatch
name_watch_of n = if n == 1 then NameWatch.Itself else if n == 2 then NameWatch.Passage else if n == 3 then NameWatch.Own else if n == 4 then NameWatch.Awaited else NameWatch.Nothing

abbrev pub name_watch_number : NameWatch → ℕ
name_watch_number NameWatch.Nothing = 0
name_watch_number NameWatch.Itself = 1
name_watch_number NameWatch.Passage = 2
name_watch_number NameWatch.Own = 3
name_watch_number NameWatch.Awaited = 4

abbrev pub way_number : Way → ℕ
way_number Ends = 0
way_number Follows = 1
way_number Enters = 2
way_number Stays = 3
way_number Rises = 4

-- a link is followed if no more than so many were on the way, as the system has it
abbrev pub most_links : ℕ
most_links = 40

abbrev pub within : ℕ → Way → Way
within followed Follows = if nat_lt followed most_links then Follows else Ends
within followed way = way

-- what a change of the file means: of a profile that other files may be the store's
abbrev pub role_of : Bool → Heard
role_of is_profile = if is_profile then Heard.Path else Heard.File

abbrev pub watched_so : Bool → List ℕ → List ℕ → Bool → Found → NameWatch
watched_so minds folder name last found = watch_at name (watch_of found last (is_busy minds last folder) (is_busy_in minds folder name))

-- a name on the way, at which a file of that mode stands, and which has so many names, if that can be seen, after so many links
pub record IsWatchedName (it : WatchedName) (minds : Bool) (folder name : List ℕ) (last is_unseen : Bool) (mode links followed : ℕ) (is_profile : Bool) : Type 0 where
  pub watched : it.watch ≡ name_watch_number (watched_so minds folder name last (seen_by is_unseen mode links))
  pub asked : it.asked ≡ asked_of (watched_so minds folder name last (seen_by is_unseen mode links))
  -- of what stands there itself
  pub asked_of_file : it.asked_of_file ≡ asked_of_file (watched_so minds folder name last (seen_by is_unseen mode links)) (seen_by is_unseen mode links)
  pub goes : it.way ≡ way_number (within followed (way_at name (way_of (seen_by is_unseen mode links) last)))
  pub needed : it.is_needed ≡ is_needed (watched_so minds folder name last (seen_by is_unseen mode links))
  pub heard : it.comes ≡ heard_number (heard_as (seen_by is_unseen mode links) last (role_of is_profile))
  -- what can't be seen is missed
  pub missed : it.is_missed ≡ is_missed (seen_by is_unseen mode links)
