-- What a command makes of the databases of a profile, and of their layers when they are open.
use Rattle.std.proofs.Common.{◌≡◌, ℕ, Bool, List, [], map}
use Rattle.std.specs.Prelude.{if◌then◌else◌}
use Rattle.dconf_model.specs.Changes.{Change, apply}
use Rattle.dconf_model.specs.Explains.{explained}
use Rattle.dconf_model.specs.Layers.{Layers, child_names, locks_below, origin, paths_below, visible, without_user}
use Rattle.dconf_model.specs.Outcomes.{Gives, SavesSaying, done, dump_at, lines_text, origin_text, shown_if_any}
use Rattle.dconf_model.specs.Profiles.{Database, has_writable, user_file}
use Rattle.dconf_layers.specs.declared.layer.Layer.{Layer}
use Rattle.dconf_layers.specs.LayerSettings.{settings_of}
use Rattle.dconf_commands.specs.Below.{explained_below}
use Rattle.dconf_commands.specs.Stores.{named_by}
use Rattle.dconf_commands.specs.declared.store_files.StoreFiles.{StoreFiles}

-- the layers of a store's files, of which the first may be the user's
abbrev pub opened : StoreFiles → List Layer → Layers
opened files layers = record { layers = map settings_of layers; writable = has_writable (named_by files) }

abbrev pub Made : Type 1
Made = List Database → Layers → Gives

-- the value that is seen at a key, with or without the user's
abbrev pub value_seen : Bool → List ℕ → Made
value_seen default key = λ databases l o. o ≡ shown_if_any (visible (if default then without_user l else l) key)

-- the database of that value
abbrev pub origin_named : List ℕ → Made
origin_named key = λ databases l o. o ≡ done (origin_text databases (origin l key))

-- what explains a key
abbrev pub key_explained : List ℕ → Made
key_explained key = λ databases l o. o ≡ done (explained databases l key)

-- what explains the keys below a directory
abbrev pub keys_explained : List ℕ → Made
keys_explained directory = λ databases l o. o ≡ done (explained_below databases l directory)

-- the names in a directory
abbrev pub names_listed : List ℕ → Made
names_listed directory = λ databases l o. o ≡ done (lines_text (child_names l directory))

-- the locks below one
abbrev pub locks_listed : List ℕ → Made
locks_listed directory = λ databases l o. o ≡ done (lines_text (locks_below l directory))

-- the values below one, but for doubles where they are skipped
abbrev pub values_dumped : Bool → List ℕ → Made
values_dumped skip directory = λ databases l o. o ≡ dump_at skip directory l (paths_below l directory)

-- a change, at these paths, and a text with it
abbrev pub change_saved_saying : List ℕ → List (List ℕ) → Change → Made
change_saved_saying text paths change = λ databases l. SavesSaying text paths (user_file databases) (apply l change)

abbrev pub change_saved : List (List ℕ) → Change → Made
change_saved paths change = change_saved_saying [] paths change
