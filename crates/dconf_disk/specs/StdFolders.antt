-- What the host's folder shows, and the folders of its names.
use Rattle.std.specs.Prelude.{ℕ, Bool, List, length, slice_index}
use Rattle.dconf_model.specs.Folders.{Event}
use Rattle.dconf_folders.specs.Notes.{events_noted, is_honest as notes_are_honest}
use Rattle.dconf_disk.specs.declared.host.StdFolder.{StdFolder}

-- how often it failed
abbrev pub failures_of : {R : Type 0} → StdFolder R → ℕ
failures_of folder = folder.failures

-- whether it holds the turn to replace files
abbrev pub can_write : {R : Type 0} → StdFolder R → Bool
can_write folder = folder.can_write

-- what was done to it, by what it noted, the last first
abbrev pub events_of : {R : Type 0} → StdFolder R → List Event
events_of folder = events_noted folder.log.fates folder.log.notes

-- each answer of the host is true of that
abbrev pub is_honest : {R : Type 0} → StdFolder R → Bool
is_honest folder = notes_are_honest folder.log.fates folder.log.notes

-- what becomes of its next call, if that fails
abbrev pub fate_of : {R : Type 0} → StdFolder R → ℕ
fate_of folder = slice_index folder.log.fates (length folder.log.notes)
