-- What is noted of the calls of a host's folder, and what they say of it.
use Rattle.std.specs.Prelude.{ℕ, ◌==◌, Bool, true, false, ◌&&◌, List, [], ◌∷◌, length, Option, Some, None, if◌then◌else◌, nat_lt, slice_index}
use Rattle.std.specs.Str.{bytes_eq}
use Rattle.dconf_model.specs.Bytes.{longest_file}
use Rattle.dconf_model.specs.Folders.{Event, read_content}
use Rattle.dconf_model.specs.Folders.Event.{create, append, sync, touch, rename, remove, link, exchange, sync_folder}
use Rattle.dconf_model.specs.Reads.{FileRead}
use Rattle.dconf_folders.specs.Asides.{is_free_for}
use Rattle.dconf_model.specs.Reads.FileRead.{no_file, holds, over_size, failed}

pub data HostCall : Type 0 where
  -- a read of this name gave this
  gave : List ℕ → FileRead → HostCall
  -- this was done
  did : Event → HostCall
  -- this was asked for, and the answer was an error
  failed_to : Event → HostCall

-- ---- as it is noted

-- which call, its answer, a name, and bytes or another name
abbrev pub Note : Type 0
Note = ℕ × ℕ × List ℕ × List ℕ

-- what a call of this number is to do; the last is of others, before
abbrev pub event_noted : ℕ → List ℕ → List ℕ → Event
event_noted which name more =
    if which == 1 then create name else if which == 2 then append name more else if which == 3 then sync name else if which == 4 then rename name more else
    if which == 5 then remove name else if which == 6 then sync_folder else if which == 7 then link name more else exchange name more

abbrev pub read_noted : ℕ → List ℕ → FileRead
read_noted answer bytes = if answer == 0 then no_file else if answer == 1 then holds bytes else over_size

abbrev pub call_noted : ℕ → ℕ → List ℕ → List ℕ → HostCall
call_noted which answer name more =
    if which == 0 then gave name (read_noted answer more) else if answer == 0 then failed_to (event_noted which name more) else did (event_noted which name more)

-- ---- what was done

-- What a call that failed has done all the same: nothing, or it. A create may have removed the file of that name alone, and after an append or a
-- sync the file's bytes count as unsynced.
abbrev pub after_failure : ℕ → Event → List Event → List Event
after_failure fate (create name) es = if fate == 0 then es else if fate == 1 then create name ∷ es else remove name ∷ es
after_failure fate (append name bytes) es = if fate == 0 then touch name ∷ es else append name bytes ∷ es
after_failure fate (sync name) es = touch name ∷ es
after_failure fate (rename from to) es = if fate == 0 then es else rename from to ∷ es
after_failure fate (remove name) es = if fate == 0 then es else remove name ∷ es
after_failure fate (link from to) es = if fate == 0 then es else link from to ∷ es
after_failure fate _ es = es

abbrev pub after_call : ℕ → HostCall → List Event → List Event
after_call fate (gave name read) es = es
after_call fate (did e) es = e ∷ es
after_call fate (failed_to e) es = after_failure fate e es

-- What was done to a folder, by what was noted of it, where each call has its own fate.
abbrev pub events_noted : List ℕ → List Note → List Event
events_noted fates [] = []
events_noted fates (n ∷ ns) = after_call (slice_index fates (length ns)) (call_noted n.0 n.1 n.2 n.3) (events_noted fates ns)

-- ---- whether the answers are true

abbrev pub is_there : Option (List ℕ) → Bool
is_there None = false
is_there (Some bytes) = true

-- a read of a name that holds this gives that
abbrev pub gives_read : Option (List ℕ) → FileRead → Bool
gives_read (Some held) (holds bytes) = bytes_eq held bytes
gives_read (Some held) over_size = nat_lt longest_file (length held)
gives_read None no_file = true
gives_read held failed = true
gives_read held read = false

-- A call is done only where there is a file for it, and no other that it would take the name from but is not to.
abbrev pub can_be_done : Event → List Event → Bool
can_be_done (append name bytes) es = is_there (read_content es name)
can_be_done (sync name) es = is_there (read_content es name)
can_be_done (rename from to) es = is_there (read_content es from)
can_be_done (link from to) es = is_there (read_content es from) && is_free_for from to es
can_be_done e es = true

-- the answer to a call is true of a folder to which this was done
abbrev pub is_true_of : HostCall → List Event → Bool
is_true_of (gave name read) es = gives_read (read_content es name) read
is_true_of (did e) es = can_be_done e es
is_true_of (failed_to e) es = true

-- each answer is true of what was done before
abbrev pub is_honest : List ℕ → List Note → Bool
is_honest fates [] = true
is_honest fates (n ∷ ns) = is_honest fates ns && is_true_of (call_noted n.0 n.1 n.2 n.3) (events_noted fates ns)
