-- What follows from the reads of a store's files.
use Rattle.std.proofs.Common.{◌≡◌, ◌+◌, ◌∷◌, ◌++◌, ◌∙◌, ℕ, List, [], length, map, Option, Some, None, refl, sym, ap, subst, arith}
use Rattle.std.proofs.Common.{◌<◌, ◌≤◌, drop, get_or, take}
use Rattle.std.proofs.lemmas.List.{append_assoc, length-map, length-take-le, map_more, take-append-drop, take-map}
use Rattle.dconf_folders.specs.declared.folder.Folder.{Ghosts}
use Rattle.dconf_model.specs.Profiles.{Database, database_file}
use Rattle.dconf_model.specs.Outcomes.{Gives, OrNoDatabase, Outcome, WithDatabases}
use Rattle.dconf_model.specs.Reads.{FileRead, ReadResults}
use Rattle.dconf_model.specs.Reads.FileRead.{no_file, holds, over_size, failed}
use Rattle.dconf_path.specs.declared.profiles.Database.{Database as ProfileDatabase}
use Rattle.dconf_path.specs.declared.profiles.DatabaseKind.TheVariants.{User}
use Rattle.dconf_streams.specs.Answers.{Answered}
use Rattle.dconf_streams.specs.Readings.{AllRead, Decides, Gave, HasRead, NothingIfAny, Reading, found_read, one_read}
use Rattle.dconf_commands.specs.StoreReads.{NoItems, database_reads}
use Rattle.dconf_streams.proofs.Decisions.{found_not_failed, kept_both}
use Rattle.dconf_streams.proofs.ManyFiles.{are_together, decides_later}

-- ---- reads after reads

module _ {F : Type 0} (ghosts : Ghosts F) (old mid new : F) where
  reads_both : (a b : List Reading) → HasRead ghosts old mid a → HasRead ghosts mid new b → HasRead ghosts old new (a ++ b)
  reads_both a b p q = record {
    kept = kept_both ghosts old mid new p.kept q.kept;
    known = λ t es is. are_together es a b (p.known (q.kept.honest t) es is) (q.known t es (p.kept.past es is));
    none_failed = q.none_failed ∙ p.none_failed;
  }

-- ---- the databases

pub databases_all_read : (ds : List Database) (items : List (Option (List ℕ))) → AllRead (database_reads ds items)
databases_all_read [] items = tt
databases_all_read (d ∷ ds) [] = tt
databases_all_read (d ∷ ds) (item ∷ items) = (found_not_failed item, databases_all_read ds items)

-- a database that was read
item_given : (name : List ℕ) (gave : FileRead) (item : Option (List ℕ)) (Go : Option (List ℕ) → Gives) (o : Outcome) → gave ≡ found_read item → Go item o
    → OrNoDatabase name gave Go o
item_given name gave None Go o e h = rw e h
item_given name gave (Some bytes) Go o e h = rw e h

-- what is made of the rest, after databases that were read
pub databases_given : (reads : ReadResults) (n : ℕ) (ds more : List Database) (items : List (Option (List ℕ))) (Go : List (Option (List ℕ)) → Gives) (o : Outcome)
    → length items ≡ length ds → Gave reads n (database_reads ds items) → WithDatabases reads (n + length ds) more (λ later. Go (items ++ later)) o
    → WithDatabases reads n (ds ++ more) Go o
databases_given reads n [] more [] Go o same gave h = let is : n + 0 ≡ n = omega arith in subst (λ (k : ℕ). WithDatabases reads k more Go o) is h
databases_given reads n [] more (item ∷ items) Go o same gave h = absurd (omega arith)
databases_given reads n (d ∷ ds) more [] Go o same gave h = absurd (omega arith)
databases_given reads n (d ∷ ds) more (item ∷ items) Go o same gave h =
    let shorter : length items ≡ length ds = omega arith in
    let next : n + length (d ∷ ds) ≡ n + 1 + length ds = omega arith in
    item_given (database_file d) (reads n (database_file d)) item (λ i. WithDatabases reads (n + 1) (ds ++ more) (λ is. Go (i ∷ is))) o gave.0
    (databases_given reads (n + 1) ds more items (λ is. Go (item ∷ is)) o shorter gave.1
    (subst (λ (k : ℕ). WithDatabases reads k more (λ later. Go (item ∷ (items ++ later))) o) next h))

pub no_item_is_any : (name : List ℕ) (gave : FileRead) (Go : Option (List ℕ) → Gives) (o : Outcome) → OrNoDatabase name gave NothingIfAny o → OrNoDatabase name gave Go o
no_item_is_any name (holds bytes) Go o h = absurd h
no_item_is_any name no_file Go o h = absurd h
no_item_is_any name over_size Go o h = h
no_item_is_any name failed Go o h = h

reads_length : (ds : List Database) (items : List (Option (List ℕ))) → length items ≡ length ds → length (database_reads ds items) ≡ length ds
reads_length [] items same = refl
reads_length (d ∷ ds) [] same = absurd (omega arith)
reads_length (d ∷ ds) (item ∷ items) same = let shorter : length items ≡ length ds = omega arith in let rest = reads_length ds items shorter in omega arith

reads_more : (ds : List Database) (items : List (Option (List ℕ))) (d : Database) (item : Option (List ℕ)) → length items ≡ length ds
    → database_reads (ds ++ d ∷ []) (items ++ item ∷ []) ≡ database_reads ds items ++ one_read (database_file d) (found_read item)
reads_more [] [] d item same = refl
reads_more [] (first ∷ items) d item same = absurd (omega arith)
reads_more (first ∷ ds) [] d item same = absurd (omega arith)
reads_more (e ∷ ds) (first ∷ items) d item same =
    let shorter : length items ≡ length ds = omega arith in
    ap (λ log. record { name = database_file e; gave = found_read first } ∷ log) (reads_more ds items d item shorter)

module _ {F : Type 0} (ghosts : Ghosts F) (old mid new : F) (ds : List Database) (items : List (Option (List ℕ)))
    (same : length items ≡ length ds) (read : HasRead ghosts old mid (database_reads ds items)) (d : Database) where
  -- one database more
  pub reads_one_more : (item : Option (List ℕ)) → HasRead ghosts mid new (one_read (database_file d) (found_read item))
      → HasRead ghosts old new (database_reads (ds ++ d ∷ []) (items ++ item ∷ []))
  reads_one_more item one =
      subst (λ log. HasRead ghosts old new log) (sym (reads_more ds items d item same))
      (reads_both ghosts old mid new (database_reads ds items) (one_read (database_file d) (found_read item)) read one)

  -- or its reading ends the command
  pub decides_at_database : (later : List Database) (answer : Answered)
      → ((n : ℕ) → Decides ghosts mid new n (λ reads. OrNoDatabase (database_file d) (reads n (database_file d)) NothingIfAny) answer)
      → (n : ℕ) → Decides ghosts old new n (λ reads. WithDatabases reads n (ds ++ d ∷ later) NoItems) answer
  decides_at_database later answer each n =
      let log = database_reads ds items in
      let place : n + length log ≡ n + length ds = ap (λ (k : ℕ). n + k) (reads_length ds items same) in
      decides_later ghosts old mid new n log answer (λ reads. OrNoDatabase (database_file d) (reads (n + length log) (database_file d)) NothingIfAny)
      (λ reads. WithDatabases reads n (ds ++ d ∷ later) NoItems) read (databases_all_read ds items)
      (λ reads gave o m. databases_given reads n ds (d ∷ later) items NoItems o same gave
      (no_item_is_any (database_file d) (reads (n + length ds) (database_file d)) (λ item. WithDatabases reads (n + length ds + 1) later (λ rest. NoItems (items ++ (item ∷ rest)))) o
      (subst (λ (k : ℕ). OrNoDatabase (database_file d) (reads k (database_file d)) NothingIfAny o) place m))) (each (n + length log))

-- ---- one after another

module _ {X : Type 0} (f : X → Database) (xs : List X) (k : ℕ) (x : X) (inside : k < length xs) where
  pub one_taken : take (k + 1) (map f xs) ≡ take k (map f xs) ++ f (get_or xs k x) ∷ []
  one_taken = take-map f (k + 1) xs ∙ (map_more f xs k x inside ∙ ap (λ l. l ++ f (get_or xs k x) ∷ []) (sym (take-map f k xs)))

  pub all_around : map f xs ≡ take k (map f xs) ++ f (get_or xs k x) ∷ drop (k + 1) (map f xs)
  all_around =
      sym (take-append-drop (k + 1) (map f xs)) ∙ (ap (λ l. l ++ drop (k + 1) (map f xs)) one_taken
      ∙ append_assoc (take k (map f xs)) (f (get_or xs k x) ∷ []) (drop (k + 1) (map f xs)))

  pub length_taken : length (take k (map f xs)) ≡ k
  length_taken = length-take-le k (map f xs) (subst (λ (n : ℕ). k ≤ n) (sym (length-map xs f)) (omega (arith, inside)))

-- what stands for a database past the end
abbrev pub no_database : ProfileDatabase
no_database = record {
  kind = User;
  name = record { ref_ptr = (0, 0); now = [] };
}
