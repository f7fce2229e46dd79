-- What is decided by the reads of a store.
use Rattle.std.proofs.Common.{◌≡◌, ◌+◌, ◌∷◌, inl, inr, ℕ, Bool, List, [], Result, Ok, Err, Option, length, sym, subst}
use Rattle.std.specs.Prelude.{vec_items}
use Rattle.std.proofs.lemmas.List.{append-nil}
use Rattle.dconf_folders.specs.declared.folder.Folder.{Ghosts}
use Rattle.dconf_model.specs.Layers.{Layers}
use Rattle.dconf_model.specs.Lines.{LineFault}
use Rattle.dconf_model.specs.Profiles.{Database, database_file, has_writable, profile_of}
use Rattle.dconf_model.specs.Outcomes.{Gives, OrLine, OrNoDatabase, Outcome, WithDatabases, WithFile, WithLayers, WithStore}
use Rattle.dconf_model.specs.Reads.{FileRead, ReadResults}
use Rattle.dconf_model.specs.Reads.FileRead.{no_file, holds, over_size, failed}
use Rattle.dconf_streams.specs.Answers.{Answered, GivesOutcome}
use Rattle.dconf_streams.specs.Readings.{Decides, Gave, HasRead, Nothing, one_read}
use Rattle.dconf_commands.specs.StoreReads.{NoDatabases, NoItems, database_reads}
use Rattle.dconf_commands.specs.Stores.{HasStore, IsStoreOf, NoLayers, items_of, named_by}
use Rattle.dconf_streams.specs.declared.folder_files.NamedFile.{NamedFile}
use Rattle.dconf_commands.specs.declared.store_files.StoreFiles.{StoreFiles}
use Rattle.dconf_streams.proofs.Decisions.{answers_also, decides_also, decides_at_once, nothing_is_any}
use Rattle.dconf_commands.proofs.StoreReads.{databases_all_read, databases_given}
use Rattle.dconf_streams.proofs.ManyFiles.{decides_later}

-- ---- what is left aside

no_databases_are_any : (name : List ℕ) (profile : Result (List Database) LineFault) (Go : List Database → Gives) (o : Outcome)
    → OrLine name profile NoDatabases o → OrLine name profile Go o
no_databases_are_any name (Ok ds) Go o h = absurd h
no_databases_are_any name (Err f) Go o h = h

no_items_at : (name : List ℕ) (gave : FileRead) (No Go : Option (List ℕ) → Gives) (o : Outcome) → ((item : Option (List ℕ)) → No item o → Go item o)
    → OrNoDatabase name gave No o → OrNoDatabase name gave Go o
no_items_at name no_file No Go o each h = each _ h
no_items_at name (holds bytes) No Go o each h = each _ h
no_items_at name over_size No Go o each h = h
no_items_at name failed No Go o each h = h

no_items_are_any : (reads : ReadResults) (n : ℕ) (ds : List Database) (Go : List (Option (List ℕ)) → Gives) (o : Outcome)
    → WithDatabases reads n ds NoItems o → WithDatabases reads n ds Go o
no_items_are_any reads n [] Go o h = absurd h
no_items_are_any reads n (d ∷ ds) Go o h =
    no_items_at (database_file d) (reads n (database_file d)) (λ item. WithDatabases reads (n + 1) ds NoItems)
    (λ item. WithDatabases reads (n + 1) ds (λ items. Go (item ∷ items))) o (λ item m. no_items_are_any reads (n + 1) ds (λ items. Go (item ∷ items)) o m) h

all_given : (reads : ReadResults) (n : ℕ) (ds : List Database) (items : List (Option (List ℕ))) (Go : List (Option (List ℕ)) → Gives) (o : Outcome)
    → length items ≡ length ds → Gave reads n (database_reads ds items) → Go items o → WithDatabases reads n ds Go o
all_given reads n ds items Go o same gave h =
    subst (λ (l : List Database). WithDatabases reads n l Go o) (append-nil ds)
    (databases_given reads n ds [] items Go o same gave (subst (λ (l : List (Option (List ℕ))). Go l o) (sym (append-nil items)) h))

no_items_in_any : (reads : ReadResults) (name : List ℕ) (profile : Result (List Database) LineFault) (Go : List Database → List (Option (List ℕ)) → Gives) (o : Outcome)
    → OrLine name profile (λ ds. WithDatabases reads 1 ds NoItems) o → OrLine name profile (λ ds. WithDatabases reads 1 ds (Go ds)) o
no_items_in_any reads name (Ok ds) Go o h = no_items_are_any reads 1 ds (Go ds) o h
no_items_in_any reads name (Err f) Go o h = h

no_layers_are_any : (items : List (Option (List ℕ))) (writable : Bool) (Go : Layers → Gives) (o : Outcome) → WithLayers items writable NoLayers o → WithLayers items writable Go o
no_layers_are_any items writable Go o (inl opened) = absurd opened.2
no_layers_are_any items writable Go o (inr bad) = inr bad

-- ---- the files of a store

module _ {F : Type 0} (ghosts : Ghosts F) (name bytes : List ℕ) (answer : Answered) where
  -- a profile of these bytes, and its databases
  abbrev pub OfProfile : ReadResults → Gives
  OfProfile reads = OrLine name (profile_of bytes) (λ ds. WithDatabases reads 1 ds NoItems)

  pub no_profile : (folder : F) → GivesOutcome answer (OrLine name (profile_of bytes) NoDatabases) → Decides ghosts folder folder 1 OfProfile answer
  no_profile folder gives =
      decides_at_once ghosts folder 1 answer OfProfile
      (λ reads. answers_also answer (OrLine name (profile_of bytes) NoDatabases) (OfProfile reads)
      (λ o m. no_databases_are_any name (profile_of bytes) (λ ds. WithDatabases reads 1 ds NoItems) o m) gives)

  pub a_database_is_unread : (old new : F) (ds : List Database) → profile_of bytes ≡ Ok ds → Decides ghosts old new 1 (λ reads. WithDatabases reads 1 ds NoItems) answer
      → Decides ghosts old new 1 OfProfile answer
  a_database_is_unread old new ds is d =
      subst (λ (r : Result (List Database) LineFault). Decides ghosts old new 1 (λ reads. OrLine name r (λ all. WithDatabases reads 1 all NoItems)) answer) (sym is) d

-- ---- what is decided

module _ {F : Type 0} (ghosts : Ghosts F) (name : List ℕ) (Go : List Database → Layers → Gives) (answer : Answered) where
  -- what is made of the databases
  abbrev InLayers : List Database → List (Option (List ℕ)) → Gives
  InLayers ds items = WithLayers items (has_writable ds) (Go ds)

  abbrev InProfile : ReadResults → List ℕ → Gives
  InProfile reads bytes = OrLine name (profile_of bytes) (λ ds. WithDatabases reads 1 ds (InLayers ds))

  abbrev Does : F → F → Type 0
  Does old new = Decides ghosts old new 0 (λ reads. WithStore reads name Go) answer

  -- the profile isn't read
  pub store_without_file : (old new : F) → Decides ghosts old new 0 (λ reads. WithFile reads 0 name Nothing) answer → Does old new
  store_without_file old new d =
      decides_also ghosts old new 0 answer (λ reads. WithFile reads 0 name Nothing) (λ reads. WithStore reads name Go)
      (λ reads o h. nothing_is_any name (reads 0 name) (InProfile reads) o h) d

  -- it is read
  module _ (old mid new : F) (file : NamedFile) (same : file.name.now ≡ name) (h : HasRead ghosts old mid (one_read name (holds (vec_items file.bytes)))) where
    store_by_file : Decides ghosts mid new 1 (λ reads. InProfile reads (vec_items file.bytes)) answer → Does old new
    store_by_file d =
        decides_later ghosts old mid new 0 (one_read name (holds (vec_items file.bytes))) answer (λ reads. InProfile reads (vec_items file.bytes))
        (λ reads. WithStore reads name Go) h ((λ e. cc), tt) (λ reads gave o m. rw gave.0 m) d

    -- it is none, or a database isn't read
    pub store_without_databases : Decides ghosts mid new 1 (OfProfile ghosts file.name.now (vec_items file.bytes) answer) answer → Does old new
    store_without_databases d =
        store_by_file (decides_also ghosts mid new 1 answer (OfProfile ghosts file.name.now (vec_items file.bytes) answer)
        (λ reads. InProfile reads (vec_items file.bytes))
        (λ reads o m. subst (λ (n : List ℕ). OrLine n (profile_of (vec_items file.bytes)) (λ ds. WithDatabases reads 1 ds (InLayers ds)) o) same
        (no_items_in_any reads file.name.now (profile_of (vec_items file.bytes)) InLayers o m)) d)

    -- all are
    module _ (files : StoreFiles) (s : HasStore ghosts mid new (vec_items file.bytes) files) where
      store_by_items : GivesOutcome answer (InLayers (named_by files) (items_of files)) → Does old new
      store_by_items gives =
          let ds = named_by files in
          let items = items_of files in
          let Then : Gives = InLayers ds items in
          store_by_file (decides_later ghosts mid new new 1 (database_reads ds items) answer (λ reads. Then) (λ reads. InProfile reads (vec_items file.bytes))
          s.read (databases_all_read ds items)
          (λ reads gave o m. subst (λ (r : Result (List Database) LineFault). OrLine name r (λ all. WithDatabases reads 1 all (InLayers all)) o) (sym s.names)
          (all_given reads 1 ds items (InLayers ds) o s.each gave m))
          (decides_at_once ghosts new (1 + length (database_reads ds items)) answer (λ reads. Then) (λ reads. gives)))

      pub store_not_opened : GivesOutcome answer (WithLayers (items_of files) (has_writable (named_by files)) NoLayers) → Does old new
      store_not_opened gives =
          store_by_items (answers_also answer (WithLayers (items_of files) (has_writable (named_by files)) NoLayers) (InLayers (named_by files) (items_of files))
          (λ o m. no_layers_are_any (items_of files) (has_writable (named_by files)) (Go (named_by files)) o m) gives)

      pub store_opened : (l : Layers) → IsStoreOf files l → GivesOutcome answer (Go (named_by files) l) → Does old new
      store_opened l opened gives =
          store_by_items (answers_also answer (Go (named_by files) l) (InLayers (named_by files) (items_of files))
          (λ o m. inl (l.layers, opened.layers, subst (λ (w : Bool). Go (named_by files) (record { layers = l.layers; writable = w }) o) opened.writable m)) gives)
