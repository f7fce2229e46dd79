-- A store whose files were read, and one that is open.
use Rattle.std.specs.Prelude.{◌≡◌, ℕ, List, Option, Ok, length, map}
use Rattle.dconf_folders.specs.declared.folder.Folder.{Ghosts}
use Rattle.dconf_model.specs.Databases.{AreLayers}
use Rattle.dconf_model.specs.Layers.{Layers}
use Rattle.dconf_model.specs.Outcomes.{Gives}
use Rattle.dconf_model.specs.Profiles.{Database, has_writable, profile_of}
use Rattle.dconf_path.specs.Profiles.{databases_of}
use Rattle.dconf_commands.specs.declared.store_files.StoreFiles.{StoreFiles}
use Rattle.dconf_streams.specs.Readings.{HasRead}
use Rattle.dconf_commands.specs.StoreReads.{bytes_of, database_reads}

-- the databases that the profile names
abbrev pub named_by : StoreFiles → List Database
named_by files = databases_of files.profile

-- the bytes of each, if there is one
abbrev pub items_of : StoreFiles → List (Option (List ℕ))
items_of files = map bytes_of files.databases.items

-- the databases of a profile of these bytes were read
pub record HasStore {F : Type 0} (ghosts : Ghosts F) (old new : F) (profile : List ℕ) (files : StoreFiles) : Type 0 where
  pub names : profile_of profile ≡ Ok (named_by files)
  pub each : length (items_of files) ≡ length (named_by files)
  pub read : HasRead ghosts old new (database_reads (named_by files) (items_of files))

-- they are open
pub record IsStoreOf (files : StoreFiles) (l : Layers) : Type 0 where
  pub layers : AreLayers (items_of files) l.layers
  pub writable : l.writable ≡ has_writable (named_by files)

-- no layers are looked at yet
abbrev pub NoLayers : Layers → Gives
NoLayers l o = ⊥
