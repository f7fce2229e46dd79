-- What is put into a map row by row, lock by lock, and file by file, up to the first fault.
use Rattle.std.proofs.Common.{◌≡◌, ℕ, List, [], ◌∷◌, ◌++◌, Option, Some, None, Result, Ok, Err, refl, sym, ap, ◌∙◌, append_assoc, append-nil}
use Rattle.std.specs.Prelude.{IfSome, option_map, codes}
use Rattle.std.specs.FinMap.{insert}
use Rattle.std.specs.List.{AllByRecursion}
use Rattle.std.proofs.lemmas.List.Sums.{fold-append}
use Rattle.dconf_model.specs.Causes.{SettingsCause}
use Rattle.dconf_model.specs.Changes.{Values}
use Rattle.dconf_model.specs.Lines.{LineFault, put_first, with_first_found}
use Rattle.dconf_model.specs.Keyfiles.{Row}
use Rattle.dconf_model.specs.Locks.{LockLine}
use Rattle.dconf_model.specs.Settings.{Settings, with_lock}
use Rattle.dconf_model.specs.Sources.{Assigned, File, FileFault, Source, and_more, in_files, rows_read}
use Rattle.dconf_model.specs.Stores.{IsLimitedValue}
use Rattle.dconf_model.specs.Values.{stored}
use Rattle.dconf_compile.specs.Added.{AddsRow, AddsRows, AddsLocks, row_compiled, text_compiled, with_rows, with_locks}
use Rattle.dconf_compile.specs.CompileFaults.{fault_at}
use Rattle.dconf_compile.specs.LineStops.{at_line}

-- these before what is read of the rest
abbrev pub before : {X F : Type 0} → List X → Result (List X) F → Result (List X) F
before xs (Ok ys) = Ok (xs ++ ys)
before xs (Err f) = Err f

pub before_none : {X F : Type 0} (r : Result (List X) F) → r ≡ before [] r
before_none (Ok ys) = refl
before_none (Err f) = refl

pub before_more : {X F : Type 0} (xs ys : List X) (r : Result (List X) F) → before xs (before ys r) ≡ before (xs ++ ys) r
before_more xs ys (Ok zs) = ap Ok (sym (append_assoc xs ys zs))
before_more xs ys (Err f) = refl

both_limited : (xs ys : List Assigned) → AllByRecursion (λ row. IsLimitedValue row.value) xs → AllByRecursion (λ row. IsLimitedValue row.value) ys →
    AllByRecursion (λ row. IsLimitedValue row.value) (xs ++ ys)
both_limited [] ys h k = k
both_limited (x ∷ xs) ys h k = (h.0, both_limited xs ys h.1 k)

-- ---- rows: what is left to read, and the map as it was and is

pub record HasAddedRows {F : Type 0} (whole left : Result (List Assigned) F) (old now : Settings) : Type 0 where
  pub done : List Assigned
  pub so_far : whole ≡ before done left
  pub limited : AllByRecursion (λ row. IsLimitedValue row.value) done
  pub added : now ≡ with_rows done old

module _ {F : Type 0} (whole : Result (List Assigned) F) (old : Settings) where
  pub no_rows : HasAddedRows whole whole old old
  no_rows = record { done = []; so_far = before_none whole; limited = tt; added = refl }

  pub more_rows : (left rest : Result (List Assigned) F) (now new : Settings) (xs : List Assigned) → HasAddedRows whole left old now → left ≡ before xs rest →
      AllByRecursion (λ row. IsLimitedValue row.value) xs → new ≡ with_rows xs now → HasAddedRows whole rest old new
  more_rows left rest now new xs h gives limited added = record {
    done = h.done ++ xs;
    so_far = h.so_far ∙ (ap (before h.done) gives ∙ before_more h.done xs rest);
    limited = both_limited h.done xs h.limited limited;
    added = added ∙ (ap (with_rows xs) h.added ∙ ap (λ (v : Values). record old { values = v }) (sym (fold-append (λ (v : Values) row. insert v row.path (stored row.value)) old.values h.done xs)));
  }

  pub all_rows : (left : Result (List Assigned) F) (now : Settings) → left ≡ Ok [] → HasAddedRows whole left old now → AddsRows whole old now
  all_rows left now none h = record {
    rows = h.done;
    read = h.so_far ∙ (ap (before h.done) none ∙ ap Ok (append-nil h.done));
    limited = h.limited;
    added = h.added;
  }

  pub stopped_rows : (left : Result (List Assigned) F) (now : Settings) (f : F) → left ≡ Err f → HasAddedRows whole left old now → whole ≡ Err f
  stopped_rows left now f e h = h.so_far ∙ ap (before h.done) e

-- ---- the rows of one file

abbrev pub rows_compiled : List Row → Result (List Assigned) LineFault
rows_compiled rows = rows_read text_compiled (codes "/") rows

pub found_first : {X : Type 0} (x : X) (r : Result (List X) LineFault) → with_first_found x r ≡ before (x ∷ []) r
found_first x (Ok xs) = refl
found_first x (Err f) = refl

pub row_added : (whole : Result (List Assigned) LineFault) (old now new : Settings) (r : Row) (rows : List Row) → HasAddedRows whole (rows_compiled (r ∷ rows)) old now →
    AddsRow (row_compiled r) now new → HasAddedRows whole (rows_compiled rows) old new
row_added whole old now new r rows h a =
    more_rows whole old (rows_compiled (r ∷ rows)) (rows_compiled rows) now new (a.row ∷ []) h
    (ap (λ x. put_first r.line x (rows_compiled rows)) a.found ∙ found_first a.row (rows_compiled rows)) (a.limited, tt) a.added

-- ---- files

file_first : {X : Type 0} (file : File) (r : Result (List X) LineFault) (xs : List X) (more : Result (List X) FileFault) → r ≡ Ok xs → and_more file r more ≡ before xs more
file_first file r xs (Ok ys) e = rw e refl
file_first file r xs (Err f) e = rw e refl

module _ (kind : ℕ → File) (read : List ℕ → Result (List Assigned) LineFault) (whole : Result (List Assigned) FileFault) (old now : Settings) (s : ℕ × Source) (files : List (ℕ × Source)) where
  pub file_added : (new : Settings) → HasAddedRows whole (in_files kind read (s ∷ files)) old now → AddsRows (read s.1.bytes) now new → HasAddedRows whole (in_files kind read files) old new
  file_added new h a =
      more_rows whole old (in_files kind read (s ∷ files)) (in_files kind read files) now new a.rows h
      (file_first (kind s.0) (read s.1.bytes) a.rows (in_files kind read files) a.read) a.limited a.added

  pub file_stopped : (line : ℕ) (o : Option SettingsCause) → HasAddedRows whole (in_files kind read (s ∷ files)) old now →
      IfSome (option_map (at_line line) o) (λ f. read s.1.bytes ≡ Err f) → IfSome (fault_at (Some (kind s.0)) line o) (λ f. whole ≡ Err f)
  file_stopped line None h k = tt
  file_stopped line (Some c) h k =
      stopped_rows whole old (in_files kind read (s ∷ files)) now (record { file = kind s.0; line = line; cause = c })
      (ap (λ r. and_more (kind s.0) r (in_files kind read files)) k) h

-- ---- locks

pub record HasAddedLocks {F : Type 0} (whole left : Result (List LockLine) F) (old now : Settings) : Type 0 where
  pub done : List LockLine
  pub so_far : whole ≡ before done left
  pub added : now ≡ with_locks done old

module _ (whole : Result (List LockLine) FileFault) (old : Settings) where
  pub no_locks : HasAddedLocks whole whole old old
  no_locks = record { done = []; so_far = before_none whole; added = refl }

  pub all_locks : (left : Result (List LockLine) FileFault) (now : Settings) → left ≡ Ok [] → HasAddedLocks whole left old now → AddsLocks whole old now
  all_locks left now none h = record { locks = h.done; read = h.so_far ∙ (ap (before h.done) none ∙ ap Ok (append-nil h.done)); added = h.added }

  module _ (kind : ℕ → File) (read : List ℕ → Result (List LockLine) LineFault) (now : Settings) (s : ℕ × Source) (files : List (ℕ × Source))
      (h : HasAddedLocks whole (in_files kind read (s ∷ files)) old now) where
    pub locks_added : (new : Settings) → AddsLocks (read s.1.bytes) now new → HasAddedLocks whole (in_files kind read files) old new
    locks_added new a = record {
      done = h.done ++ a.locks;
      so_far = h.so_far ∙ (ap (before h.done) (file_first (kind s.0) (read s.1.bytes) a.locks (in_files kind read files) a.read) ∙ before_more h.done a.locks (in_files kind read files));
      added = a.added ∙ (ap (with_locks a.locks) h.added ∙ sym (fold-append (λ s lock. with_lock s lock.path) old h.done a.locks));
    }

    pub locks_stopped : (line : ℕ) (o : Option SettingsCause) →
        IfSome (option_map (at_line line) o) (λ f. read s.1.bytes ≡ Err f) → IfSome (fault_at (Some (kind s.0)) line o) (λ f. whole ≡ Err f)
    locks_stopped line None k = tt
    locks_stopped line (Some c) k =
        h.so_far ∙ ap (before h.done) (ap (λ r. and_more (kind s.0) r (in_files kind read files)) k)
