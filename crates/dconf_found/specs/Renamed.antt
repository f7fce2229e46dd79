-- The names that files have for who reads a folder, and those that they have in it.
use Rattle.std.specs.Prelude.{ℕ, List, [], map, if◌then◌else◌}
use Rattle.std.specs.Str.{bytes_eq}
use Rattle.std.specs.String.{string_bytes}
use Rattle.dconf_model.specs.Folders.{Event}
use Rattle.dconf_model.specs.Folders.Event.{create, append, sync, touch, rename, remove, link, exchange, sync_folder}
use Rattle.dconf_model.specs.Profiles.{file_of_kind}
use Rattle.dconf_model.specs.Profiles.Kind.{user_db}
use Rattle.dconf_model.specs.Replacing.{new_name}
use Rattle.dconf_found.specs.declared.renamed.Renames.{Renames}
use Rattle.dconf_found.specs.declared.renamed.RenamedFolder.{RenamedFolder}

-- the name of a file for who reads the folder, and that in it; and those of the file that is to take its place
pub record Names : Type 0 where
  pub shown : List ℕ
  pub held : List ℕ
  pub shown_new : List ℕ
  pub held_new : List ℕ

abbrev pub no_names : Names
no_names = record { shown = []; held = []; shown_new = []; held_new = [] }

-- The database `user-db:NAME` is NAME.user in a folder of our own kind, and NAME where dconf has it.
abbrev pub users_names : List ℕ → Names
users_names name = record {
  shown = file_of_kind user_db name;
  held = name;
  shown_new = new_name (file_of_kind user_db name);
  held_new = new_name name;
}

-- the other one of two names, or the name itself
abbrev pub swapped : List ℕ → List ℕ → List ℕ → List ℕ
swapped one other name = if bytes_eq name one then other else if bytes_eq name other then one else name

-- the name in the folder of what has this one for who reads it
abbrev pub held_name : Names → List ℕ → List ℕ
held_name n name = swapped n.shown_new n.held_new (swapped n.shown n.held name)

-- ---- what is done

abbrev pub held_event : Names → Event → Event
held_event n (create name) = create (held_name n name)
held_event n (append name bytes) = append (held_name n name) bytes
held_event n (sync name) = sync (held_name n name)
held_event n (touch name) = touch (held_name n name)
held_event n (rename from to) = rename (held_name n from) (held_name n to)
held_event n (remove name) = remove (held_name n name)
held_event n (link from to) = link (held_name n from) (held_name n to)
held_event n (exchange one two) = exchange (held_name n one) (held_name n two)
held_event n sync_folder = sync_folder

abbrev pub held_events : Names → List Event → List Event
held_events n es = map (held_event n) es

-- ---- what the code's are

abbrev pub names_of : Renames → Names
names_of r = record {
  shown = string_bytes r.shown;
  held = string_bytes r.held;
  shown_new = string_bytes r.shown_new;
  held_new = string_bytes r.held_new;
}

module _ {F : Type 0} (folder : RenamedFolder F) where
  -- the folder that has the files
  abbrev pub renamed_inner : F
  renamed_inner = folder.inner

  abbrev pub names_in : Names
  names_in = names_of folder.names

-- these events are what was done, where `Past` says of the other folder that the same was done to it by its names
abbrev pub IsRenamed : {F : Type 0} → (F → List Event → Type 0) → RenamedFolder F → List Event → Type 0
IsRenamed Past folder es = Past (renamed_inner folder) (held_events (names_in folder) es)
