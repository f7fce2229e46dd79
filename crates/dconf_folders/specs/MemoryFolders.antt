-- What a folder in memory shows: the events that its calls are, and which call is to fail.
use Rattle.std.specs.Prelude.{ℕ, ◌≡◌, true, List, [], ◌∷◌}
use Rattle.std.specs.String.{string_bytes}
use Rattle.dconf_model.specs.Folders.{Event, is_synced}
use Rattle.dconf_model.specs.Folders.Event.{create, append, sync, touch, rename, remove, link, exchange, sync_folder}
use Rattle.dconf_folders.specs.declared.calls.Call.{Call}
use Rattle.dconf_folders.specs.declared.memory.MemoryFolder.{MemoryFolder}
use Rattle.dconf_folders.specs.declared.calls.Call.TheVariants as call

abbrev pub event_of : Call → Event
event_of (call.Create name) = create (string_bytes name)
event_of (call.Append name bytes) = append (string_bytes name) bytes.items
event_of (call.Sync name) = sync (string_bytes name)
event_of (call.Touch name) = touch (string_bytes name)
event_of (call.Rename from to) = rename (string_bytes from) (string_bytes to)
event_of (call.Remove name) = remove (string_bytes name)
event_of call.SyncFolder = sync_folder
event_of (call.Link from to) = link (string_bytes from) (string_bytes to)

abbrev pub events_onto : List Event → List Call → List Event
events_onto es [] = es
events_onto es (c ∷ cs) = events_onto (event_of c ∷ es) cs

-- the last first
abbrev pub events_of : List Call → List Event
events_of cs = events_onto [] cs

-- without the appends and syncs that failed
abbrev pub untouched : List Event → List Event
untouched [] = []
untouched (create name ∷ es) = create name ∷ untouched es
untouched (append name bytes ∷ es) = append name bytes ∷ untouched es
untouched (sync name ∷ es) = sync name ∷ untouched es
untouched (touch name ∷ es) = untouched es
untouched (rename from to ∷ es) = rename from to ∷ untouched es
untouched (remove gone ∷ es) = remove gone ∷ untouched es
untouched (link from to ∷ es) = link from to ∷ untouched es
untouched (exchange one two ∷ es) = exchange one two ∷ untouched es
untouched (sync_folder ∷ es) = sync_folder ∷ untouched es

-- The second events are the first ones, and maybe more appends and syncs that failed. So a crash after the first leaves only
-- what one after the second may leave.
pub record AddsTouches (ds es : List Event) : Type 0 where
  pub others : untouched es ≡ untouched ds
  pub synced : (file : ℕ) → is_synced es file ≡ true → is_synced ds file ≡ true

-- These events are what was done to a folder in memory. Its calls are all noted, but maybe not each append or sync that
-- failed, since it has to go on without memory.
abbrev pub IsPast : MemoryFolder → List Event → Type 0
IsPast folder es = AddsTouches (events_of folder.calls.items) es

-- how often it failed
abbrev pub failures_of : MemoryFolder → ℕ
failures_of folder = folder.failures

-- the call that fails, where the next is 1 and 0 is none
abbrev pub failing_call : MemoryFolder → ℕ
failing_call folder = folder.fails_in
