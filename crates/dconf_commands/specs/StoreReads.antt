-- What is read of a store.
use Rattle.std.specs.Prelude.{ℕ, List, [], ◌∷◌, Option, option_map, vec_items}
use Rattle.std.specs.declared.vec.Vec.{Vec}
use Rattle.dconf_model.specs.Outcomes.{Gives}
use Rattle.dconf_model.specs.Profiles.{Database, database_file}
use Rattle.dconf_streams.specs.Readings.{Reading, found_read}

-- a file's bytes, if there is one
abbrev pub bytes_of : {Z : Type 0} → Option (Vec ℕ Z) → Option (List ℕ)
bytes_of found = option_map vec_items found

-- each database was read, and gave this
abbrev pub database_reads : List Database → List (Option (List ℕ)) → List Reading
database_reads (d ∷ more) (item ∷ items) = record { name = database_file d; gave = found_read item } ∷ database_reads more items
database_reads _ _ = []

-- no databases, and no bytes of theirs, are looked at yet
abbrev pub NoDatabases : List Database → Gives
NoDatabases databases o = ⊥

abbrev pub NoItems : List (Option (List ℕ)) → Gives
NoItems items o = ⊥
