-- One more row or file of those that are left, put into a map, or refused.
use Rattle.std.proofs.Common.{◌≡◌, ◌<◌, ◌+◌, ℕ, List, ◌∷◌, length, map, drop, get_or, Option, Some, None, Result, Err, is_some, refl, sym, ap, ◌∙◌, subst}
use Rattle.std.specs.Prelude.{IfSome, option_map}
use Rattle.std.specs.List.{AllByRecursion, enumerate_from}
use Rattle.std.proofs.lemmas.Bool.{true≢false}
use Rattle.std.proofs.lemmas.List.{drop_more}
use Rattle.dconf_model.specs.Causes.{SettingsCause}
use Rattle.dconf_model.specs.Lines.{LineFault, read_file}
use Rattle.dconf_model.specs.Locks.{LockLine, locks_in}
use Rattle.dconf_model.specs.Settings.{Settings}
use Rattle.dconf_model.specs.Sources.{Assigned, File, FileFault, compiled, in_files}
use Rattle.dconf_model.specs.Sources.File.{keyfile, lock_file}
use Rattle.keyfile_core.specs.declared.rows.Row.{Row}
use Rattle.keyfile_core.specs.Rows.{row_meant}
use Rattle.dconf_compile.specs.declared.fault.CompileFault.{CompileFault}
use Rattle.dconf_compile.specs.declared.order.Numbered.{Numbered}
use Rattle.dconf_compile.specs.declared.source.Source.{Source}
use Rattle.dconf_compile.specs.Added.{AddsRow, AddsRows, AddsLocks, IsReadRow, row_compiled}
use Rattle.dconf_compile.specs.CompileFaults.{StopsAt, fault_at, fault_of, no_memory}
use Rattle.dconf_compile.specs.LineStops.{at_line}
use Rattle.dconf_compile.specs.Sources.{numbered, source_of, sources_of}
use Rattle.dconf_compile.proofs.AddedRows.{HasAddedRows, HasAddedLocks, rows_compiled, row_added, file_added, file_stopped, locks_added, locks_stopped}

-- ---- rows

module _ (rows : List Row) (i : ℕ) (d : Row) (inside : i < length rows) where
  -- what was put in, and what is left
  pub next_row : (whole : Result (List Assigned) LineFault) (old now new : Settings) → HasAddedRows whole (rows_compiled (map row_meant (drop i rows))) old now →
      AllByRecursion IsReadRow (map row_meant (drop i rows)) → AddsRow (row_compiled (row_meant (get_or rows i d))) now new →
      HasAddedRows whole (rows_compiled (map row_meant (drop (i + 1) rows))) old new × AllByRecursion IsReadRow (map row_meant (drop (i + 1) rows))
  next_row whole old now new h left a = (
    row_added whole old now new (row_meant (get_or rows i d)) (map row_meant (drop (i + 1) rows))
        (subst (λ (l : List Row). HasAddedRows whole (rows_compiled (map row_meant l)) old now) (drop_more rows i d inside) h) a,
    (subst (λ (l : List Row). AllByRecursion IsReadRow (map row_meant l)) (drop_more rows i d inside) left).1,
  )

-- ---- keyfiles

module _ (files : List Numbered) (i : ℕ) (d : Numbered) (inside : i < length files) (whole : Result (List Assigned) FileFault) (old now : Settings)
    (h : HasAddedRows whole (in_files keyfile compiled (map numbered (drop i files))) old now) where
  now_first : HasAddedRows whole (in_files keyfile compiled (numbered (get_or files i d) ∷ map numbered (drop (i + 1) files))) old now
  now_first = subst (λ (l : List Numbered). HasAddedRows whole (in_files keyfile compiled (map numbered l)) old now) (drop_more files i d inside) h

  pub next_file_added : (new : Settings) → AddsRows (compiled (get_or files i d).source.bytes.now) now new → HasAddedRows whole (in_files keyfile compiled (map numbered (drop (i + 1) files))) old new
  next_file_added new a = file_added keyfile compiled whole old now (numbered (get_or files i d)) (map numbered (drop (i + 1) files)) new now_first a

  pub next_file_stopped : (line : ℕ) (o : Option SettingsCause) → IfSome (option_map (at_line line) o) (λ f. compiled (get_or files i d).source.bytes.now ≡ Err f) →
      IfSome (fault_at (Some (keyfile (get_or files i d).number)) line o) (λ f. whole ≡ Err f)
  next_file_stopped line o k = file_stopped keyfile compiled whole old now (numbered (get_or files i d)) (map numbered (drop (i + 1) files)) line o now_first k

-- ---- lock files

module _ (files : List Source) (i : ℕ) (d : Source) (inside : i < length files) (whole : Result (List LockLine) FileFault) (old now : Settings)
    (h : HasAddedLocks whole (in_files lock_file (read_file locks_in) (enumerate_from i (sources_of (drop i files)))) old now) where
  locks_first : HasAddedLocks whole (in_files lock_file (read_file locks_in) ((i, source_of (get_or files i d)) ∷ enumerate_from (i + 1) (sources_of (drop (i + 1) files)))) old now
  locks_first =
      subst (λ (l : List Source). HasAddedLocks whole (in_files lock_file (read_file locks_in) (enumerate_from i (sources_of l))) old now) (drop_more files i d inside) h

  pub next_locks_added : (new : Settings) → AddsLocks (read_file locks_in (get_or files i d).bytes.now) now new →
      HasAddedLocks whole (in_files lock_file (read_file locks_in) (enumerate_from (i + 1) (sources_of (drop (i + 1) files)))) old new
  next_locks_added new a =
      locks_added whole old lock_file (read_file locks_in) now (i, source_of (get_or files i d)) (enumerate_from (i + 1) (sources_of (drop (i + 1) files))) locks_first new a

  pub next_locks_stopped : (line : ℕ) (o : Option SettingsCause) → IfSome (option_map (at_line line) o) (λ f. read_file locks_in (get_or files i d).bytes.now ≡ Err f) →
      IfSome (fault_at (Some (lock_file i)) line o) (λ f. whole ≡ Err f)
  next_locks_stopped line o k =
      locks_stopped whole old lock_file (read_file locks_in) now (i, source_of (get_or files i d)) (enumerate_from (i + 1) (sources_of (drop (i + 1) files))) locks_first line o k

-- ---- the fault of a file

no_fault : (file : File) (line : ℕ) (o : Option SettingsCause) → fault_at (Some file) line o ≡ None → o ≡ None
no_fault file line None e = refl
no_fault file line (Some c) e = absurd (true≢false (ap is_some e))

pub stops_at : {X : Type 0} (whole : Result X FileFault) (e : CompileFault) (file : File) (line : ℕ) (o : Option SettingsCause) → fault_of e ≡ fault_at (Some file) line o →
    (o ≡ None → e ≡ no_memory) → IfSome (fault_at (Some file) line o) (λ f. whole ≡ Err f) → StopsAt whole e
stops_at whole e file line o is memory h = record {
  fault = subst (λ (x : Option FileFault). IfSome x (λ f. whole ≡ Err f)) (sym is) h;
  memory = λ none. memory (no_fault file line o (sym is ∙ none));
}
