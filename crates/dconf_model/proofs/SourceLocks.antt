-- The locks of what is given: they are paths, and settings that are given lock the same paths.
use Rattle.std.specs.Prelude.{◌≡◌, ℕ, ◌+◌, Bool, true, false, ◌||◌, List, [], ◌∷◌, ◌++◌, length, map, Option, Some, None, Result, Ok, Err, refl, cond}
use Rattle.std.proofs.Common.{ap, sym, ◌∙◌, subst}
use Rattle.std.specs.List.{list_any, AllByRecursion, enumerate_from}
use Rattle.std.specs.Str.{bytes_eq}
use Rattle.std.specs.FinMap.{contains_key}
use Rattle.dconf_model.specs.Paths.{is_path, starts_with_slash}
use Rattle.dconf_model.specs.Settings.{Settings}
use Rattle.dconf_model.proofs.ParentLaws.{by_bool}
use Rattle.dconf_model.specs.Causes.SettingsCause.{lock_not_key}
use Rattle.dconf_model.specs.Lines.{LineReading, LineFault, put_first, read_after, read_file, settings_text_fault, unless_fault, lines_of}
use Rattle.dconf_model.specs.Lines.LineReading.{nothing, found, wrong}
use Rattle.dconf_model.specs.Locks.{LockLine, lock_line, locks_in}
use Rattle.dconf_model.specs.Sources.{Source, File, FileFault, Given, given, and_locks, and_more, in_files, AreGiven, Assigned, compiled, taken}
use Rattle.dconf_model.specs.Sources.File.{keyfile, lock_file}
use Rattle.dconf_model.proofs.PathMaps.{eq_turned, no_truth}
use Rattle.dconf_model.proofs.SameBytes.{same_path}

pub any_path : (f : List ℕ → Bool) (locks : List LockLine) → list_any f (map (λ lock. lock.path) locks) ≡ list_any (λ lock. f lock.path) locks
any_path f [] = refl
any_path f (lock ∷ locks) = ap (λ b. f lock.path || b) (any_path f locks)

pub turned : (p : List ℕ) (locks : List LockLine) → list_any (λ lock. bytes_eq lock.path p) locks ≡ list_any (bytes_eq p) (map (λ lock. lock.path) locks)
turned p [] = refl
turned p (lock ∷ locks) = ap (λ b. b || list_any (λ lock. bytes_eq lock.path p) locks) (eq_turned lock.path p) ∙ ap (λ b. bytes_eq p lock.path || b) (turned p locks)

-- ---- they are paths

abbrev ArePaths : List LockLine → Type 0
ArePaths locks = AllByRecursion (λ lock. is_path lock.path ≡ true) locks

abbrev PathsIfOk : {F : Type 0} → Result (List LockLine) F → Type 0
PathsIfOk (Ok locks) = ArePaths locks
PathsIfOk (Err f) = Unit {0}

abbrev IsPathLine : LineReading LockLine → Type 0
IsPathLine (found lock) = is_path lock.path ≡ true
IsPathLine _ = Unit {0}

line_is_path : (earlier : List (List ℕ)) (line : List ℕ) → IsPathLine (lock_line earlier line)
line_is_path earlier line = go (starts_with_slash line) (is_path line) refl
  where
    go : (b c : Bool) → is_path line ≡ c → IsPathLine (cond b (cond c (found (record { path = line; line = length earlier + 1 })) (wrong lock_not_key)) nothing)
    go true true e = e
    go true false e = tt
    go false c e = tt

put_paths : (line : ℕ) (r : LineReading LockLine) (rest : Result (List LockLine) LineFault) → IsPathLine r → PathsIfOk rest → PathsIfOk (put_first line r rest)
put_paths line nothing rest h k = k
put_paths line (found lock) (Ok locks) h k = (h, k)
put_paths line (found lock) (Err f) h k = tt
put_paths line (wrong c) rest h k = tt

lines_are_paths : (earlier lines : List (List ℕ)) → PathsIfOk (read_after lock_line earlier lines)
lines_are_paths earlier [] = tt
lines_are_paths earlier (l ∷ lines) =
    put_paths (length earlier + 1) (lock_line earlier l) (read_after lock_line (earlier ++ l ∷ []) lines) (line_is_path earlier l) (lines_are_paths (earlier ++ l ∷ []) lines)

file_of_paths : (bytes : List ℕ) → PathsIfOk (read_file locks_in bytes)
file_of_paths bytes = go (settings_text_fault bytes)
  where
    go : (fault : Option LineFault) → PathsIfOk (unless_fault fault (locks_in bytes))
    go (Some f) = tt
    go None = lines_are_paths [] (lines_of bytes)

both_paths : (xs ys : List LockLine) → ArePaths xs → ArePaths ys → ArePaths (xs ++ ys)
both_paths [] ys h k = k
both_paths (x ∷ xs) ys h k = (h.0, both_paths xs ys h.1 k)

more_paths : (file : File) (r : Result (List LockLine) LineFault) (more : Result (List LockLine) FileFault) → PathsIfOk r → PathsIfOk more → PathsIfOk (and_more file r more)
more_paths file (Err f) more h k = tt
more_paths file (Ok xs) (Ok ys) h k = both_paths xs ys h k
more_paths file (Ok xs) (Err f) h k = tt

files_of_paths : (files : List (ℕ × Source)) → PathsIfOk (in_files lock_file (read_file locks_in) files)
files_of_paths [] = tt
files_of_paths (s ∷ files) =
    more_paths (lock_file s.0) (read_file locks_in s.1.bytes) (in_files lock_file (read_file locks_in) files) (file_of_paths s.1.bytes) (files_of_paths files)

abbrev LocksIfOk : Result Given FileFault → Type 0
LocksIfOk (Ok g) = ArePaths g.locks
LocksIfOk (Err f) = Unit {0}

both_given : (values : Result (List Assigned) FileFault) (locks : Result (List LockLine) FileFault) → PathsIfOk locks → LocksIfOk (and_locks values locks)
both_given (Err f) locks h = tt
both_given (Ok values) (Err f) h = tt
both_given (Ok values) (Ok locks) h = h

given_locks : (files locks : List Source) → LocksIfOk (given files locks)
given_locks files locks =
    both_given (in_files keyfile compiled (taken files)) (in_files lock_file (read_file locks_in) (enumerate_from 0 locks)) (files_of_paths (enumerate_from 0 locks))

any_is_path : (locks : List LockLine) (p : List ℕ) → ArePaths locks → list_any (λ lock. bytes_eq lock.path p) locks ≡ true → is_path p ≡ true
any_is_path [] p h e = absurd (no_truth e)
any_is_path (lock ∷ locks) p h e =
    by_bool (bytes_eq lock.path p) (is_path p ≡ true)
    (λ same. sym (ap is_path (same_path lock.path p same)) ∙ h.0)
    (λ other. any_is_path locks p h.1 (sym (ap (λ b. b || list_any (λ lock. bytes_eq lock.path p) locks) other) ∙ e))

-- settings that files give lock paths alone
pub locked_paths : (files locks : List Source) (g : Given) (s : Settings) → given files locks ≡ Ok g → AreGiven g s →
    (p : List ℕ) → contains_key s.locks p ≡ true → is_path p ≡ true
locked_paths files locks g s e h p there =
    any_is_path g.locks p (subst LocksIfOk e (given_locks files locks)) (sym (h.locks p) ∙ there)
