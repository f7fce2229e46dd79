-- A command has one output: each step on its way to an outcome leaves one.
use Rattle.std.specs.Prelude.{◌≡◌, ◌+◌, ℕ, zero, suc, Bool, true, false, cond, List, [], ◌∷◌, length, codes, Option, Some, None, Result, Ok, Err, refl}
use Rattle.std.proofs.Common.{ap, sym, ◌∙◌, subst, inl, inr, arith}
use Rattle.std.specs.FinMap.{get}
use Rattle.gv_model.specs.Ty.{Ty}
use Rattle.gv_model.specs.TypeText.{type_of_text}
use Rattle.gv_model.specs.FaultTexts.{type_fault_text}
use Rattle.gv_model.specs.Tree.{Tree}
use Rattle.gv_model.specs.Decode.{decode}
use Rattle.gv_model.proofs.OneFault as types
use Rattle.dconf_model.specs.Bytes.{MaybeBytes}
use Rattle.dconf_model.specs.Paths.{PathFault, key_fault, directory_fault}
use Rattle.dconf_model.specs.Causes.{SettingsCause}
use Rattle.dconf_model.specs.Lines.{LineFault}
use Rattle.dconf_model.specs.FaultTexts.{cause_text, path_fault_text, open_fault_text, line_fault_text, no_file_text, device_text, bad_database_text}
use Rattle.dconf_model.specs.Opening.{root_of}
use Rattle.dconf_model.specs.Settings.{Settings}
use Rattle.dconf_model.specs.Profiles.{Database, database_file, has_writable, user_file, profile_of}
use Rattle.dconf_model.specs.Sources.{Source, File, FileFault, Given, AreGiven, given, taken, first_file, loaded, Loaded}
use Rattle.dconf_model.specs.Databases.{Verdict, IsVerdict, IsDatabaseOf, IsTooBig, IsMadeOf, IsMadeOfGiven, IsBad, IsFirstBad}
use Rattle.dconf_model.specs.Databases.Verdict.{no_database, sound, unsound}
use Rattle.dconf_model.specs.Layers.{Layers, visible, without_user, child_names, locks_below, paths_below, origin as origin_of}
use Rattle.dconf_model.specs.Changes.{Change, Refusal, apply, saved, paths_of}
use Rattle.dconf_model.specs.Changes.Change.{set_value, reset_value, reset_below_directory, load_values}
use Rattle.dconf_model.specs.Salvaging.{IsSalvaged}
use Rattle.dconf_model.specs.Commands.{Command}
use Rattle.dconf_model.specs.Commands.Command.{show, read, list, list_locks, write, reset, reset_below, dump, load, origin, explain, compile, check, repair}
use Rattle.dconf_model.specs.Reads.{FileRead, Input, ReadResults}
use Rattle.dconf_model.specs.Reads.FileRead.{no_file, holds, over_size, failed}
use Rattle.dconf_model.specs.Explains.{explained}
use Rattle.dconf_model.specs.Outcomes.{Gives, IsOutcome, Outcome, Output, UnlessFault, WithType, OrCause, OrLine, OrNoRead, WithFile, WithFiles, UnlessFailed, WithRows, OrNoDatabase, WithDatabases, WithLayers, WithStore, Writes, SavesSaying, MakesChange, ChangesSaying, Loads, Compiles, Checks, Repairs, refused, done, verdict_text, shown_outcome, shown_if_any, lines_text, origin_text, dump_at, refusal_text, compile_output, check_output, kept_text, value_of_word, read_failed}
use Rattle.dconf_model.specs.Runs.{OneOutput}
use Rattle.dconf_model.proofs.OpenLaws as opens
use Rattle.dconf_model.proofs.SoundLaws.{sound_has_no_fault, one_first_fault}
use Rattle.dconf_model.proofs.DatabaseLaws.{same_option, same_lock, at_paths}
use Rattle.dconf_model.proofs.OnePlan.{one_length}
use Rattle.dconf_model.proofs.ReopenLaws.{one_list}
use Rattle.dconf_model.proofs.ProgramLaws.{not_bad, none_bad}

-- any two of these outcomes have the same output
abbrev IsOne : Gives → Type 0
IsOne Go = (o p : Outcome) → Go o → Go p → o.output ≡ p.output

exact : (x : Outcome) → IsOne (λ o. o ≡ x)
exact x o p h k = ap (λ (o : Outcome). o.output) (h ∙ sym k)

-- ---- words, files and input

fault_one : (f : Option PathFault) (Go : Gives) → IsOne Go → IsOne (UnlessFault f Go)
fault_one (Some f) Go one o p h k = exact (refused (path_fault_text f)) o p h k
fault_one None Go one o p h k = one o p h k

type_one : (text : List ℕ) (t : Option Ty) (Go : Ty → Gives) → ((t : Ty) → IsOne (Go t)) → IsOne (WithType text t Go)
type_one text None Go one o p h k =
    exact (refused (type_fault_text h.0)) o p h.2 (k.2 ∙ ap (λ f. refused (type_fault_text f)) (types.one_fault text k.0 h.0 k.1 h.1))
type_one text (Some t) Go one o p h k = one t o p h k

cause_one : (r : Result Tree SettingsCause) (Go : Tree → Gives) → ((v : Tree) → IsOne (Go v)) → IsOne (OrCause r Go)
cause_one (Ok v) Go one o p h k = one v o p h k
cause_one (Err c) Go one o p h k = exact (refused (cause_text c)) o p h k

line_one : {X : Type 0} (file : List ℕ) (r : Result X LineFault) (Go : X → Gives) → ((x : X) → IsOne (Go x)) → IsOne (OrLine file r Go)
line_one file (Ok x) Go one o p h k = one x o p h k
line_one file (Err f) Go one o p h k = exact (refused (line_fault_text file f.line f.cause)) o p h k

read_one : (name : List ℕ) (r : FileRead) (Go : List ℕ → Gives) → ((bytes : List ℕ) → IsOne (Go bytes)) → IsOne (OrNoRead name r Go)
read_one name (holds bytes) Go one o p h k = one bytes o p h k
read_one name no_file Go one o p h k = exact (refused (no_file_text name)) o p h k
read_one name over_size Go one o p h k = exact (refused (codes "TooBig")) o p h k
read_one name failed Go one o p h k = exact (refused (device_text name)) o p h k

files_one : (reads : ReadResults) (n : ℕ) (names : List (List ℕ)) (Go : List Source → Gives) → ((files : List Source) → IsOne (Go files)) →
    IsOne (WithFiles reads n names Go)
files_one reads n [] Go one o p h k = one [] o p h k
files_one reads n (name ∷ more) Go one o p h k =
    let Later : List ℕ → List Source → Gives = λ bytes files. Go (record { name = name; bytes = bytes } ∷ files) in
    read_one name (reads n name) (λ bytes. WithFiles reads (n + 1) more (Later bytes))
    (λ bytes. files_one reads (n + 1) more (Later bytes) (λ files. one (record { name = name; bytes = bytes } ∷ files))) o p h k

input_one : (b : Bool) (Go : Gives) → IsOne Go → IsOne (UnlessFailed b Go)
input_one true Go one o p h k = exact (refused (device_text (codes "input"))) o p h k
input_one false Go one o p h k = one o p h k

-- ---- the store

database_one : (name : List ℕ) (r : FileRead) (Go : MaybeBytes → Gives) → ((item : MaybeBytes) → IsOne (Go item)) → IsOne (OrNoDatabase name r Go)
database_one name no_file Go one o p h k = one None o p h k
database_one name (holds bytes) Go one o p h k = one (Some bytes) o p h k
database_one name over_size Go one o p h k = exact (refused (codes "TooBig")) o p h k
database_one name failed Go one o p h k = exact (refused (device_text name)) o p h k

databases_one : (reads : ReadResults) (n : ℕ) (ds : List Database) (Go : List MaybeBytes → Gives) → ((items : List MaybeBytes) → IsOne (Go items)) →
    IsOne (WithDatabases reads n ds Go)
databases_one reads n [] Go one o p h k = one [] o p h k
databases_one reads n (d ∷ ds) Go one o p h k =
    database_one (database_file d) (reads n (database_file d)) (λ item. WithDatabases reads (n + 1) ds (λ items. Go (item ∷ items)))
    (λ item. databases_one reads (n + 1) ds (λ items. Go (item ∷ items)) (λ items. one (item ∷ items))) o p h k

-- bytes have one verdict, and databases one that is the first bad one
verdict_one : (file : List ℕ) (v w : Verdict) → IsVerdict file v → IsVerdict file w → v ≡ w
verdict_one file (no_database f) (no_database g) h k = ap no_database (opens.one_fault file f g h k)
verdict_one file (no_database f) sound h k = absurd (opens.no_database file f h k.0)
verdict_one file (no_database f) (unsound s to) h k = absurd (opens.no_database file f h k.0)
verdict_one file sound (no_database g) h k = absurd (opens.no_database file g k h.0)
verdict_one file sound sound h k = refl
verdict_one file sound (unsound s to) h k = absurd (sound_has_no_fault (root_of file) s to h.1 k.1)
verdict_one file (unsound r at) (no_database g) h k = absurd (opens.no_database file g k h.0)
verdict_one file (unsound r at) sound h k = absurd (sound_has_no_fault (root_of file) r at k.1 h.1)
verdict_one file (unsound r at) (unsound s to) h k =
    let same = one_first_fault (root_of file) r s at to h.1 k.1 in
    λ i. unsound (same.0 i) (same.1 i)

bad_one : (item : MaybeBytes) (v w : Verdict) → IsBad item v → IsBad item w → v ≡ w
bad_one None v w h k = absurd h
bad_one (Some file) sound w h k = absurd h
bad_one (Some file) (no_database f) sound h k = absurd k
bad_one (Some file) (no_database f) (no_database g) h k = verdict_one file (no_database f) (no_database g) h k
bad_one (Some file) (no_database f) (unsound s to) h k = verdict_one file (no_database f) (unsound s to) h k
bad_one (Some file) (unsound r at) sound h k = absurd k
bad_one (Some file) (unsound r at) (no_database g) h k = verdict_one file (unsound r at) (no_database g) h k
bad_one (Some file) (unsound r at) (unsound s to) h k = verdict_one file (unsound r at) (unsound s to) h k

first_bad_one : (items : List MaybeBytes) (i j : ℕ) (v w : Verdict) → IsFirstBad items i v → IsFirstBad items j w → (i ≡ j) × (v ≡ w)
first_bad_one [] i j v w h k = absurd h
first_bad_one (item ∷ items) zero zero v w h k = (refl, bad_one item v w h k)
first_bad_one (item ∷ items) zero (suc j) v w h k = absurd (not_bad item v k.0 h)
first_bad_one (item ∷ items) (suc i) zero v w h k = absurd (not_bad item w h.0 k)
first_bad_one (item ∷ items) (suc i) (suc j) v w h k = let more = first_bad_one items i j v w h.1 k.1 in (ap suc more.0, more.1)

layers_one : (items : List MaybeBytes) (writable : Bool) (Go : Layers → Gives) → ((l : Layers) → IsOne (Go l)) → IsOne (WithLayers items writable Go)
layers_one items writable Go one o p (inl h) (inl k) =
    one (record { layers = h.0; writable = writable }) o p h.2
    (subst (λ (ls : List Settings). Go (record { layers = ls; writable = writable }) p) (one_list items k.0 h.0 k.1 h.1) k.2)
layers_one items writable Go one o p (inl h) (inr k) = absurd (none_bad items h.0 k.0 k.1 h.1 k.2)
layers_one items writable Go one o p (inr h) (inl k) = absurd (none_bad items k.0 h.0 h.1 k.1 h.2)
layers_one items writable Go one o p (inr h) (inr k) =
    let same = first_bad_one items k.0 h.0 k.1 h.1 k.2 h.2 in
    exact (refused (bad_database_text h.0 (verdict_text h.1))) o p h.3 (k.3 ∙ (λ i. refused (bad_database_text (same.0 i) (verdict_text (same.1 i)))))

store_one : (reads : ReadResults) (file : List ℕ) (Go : List Database → Layers → Gives) → ((ds : List Database) (l : Layers) → IsOne (Go ds l)) →
    IsOne (WithStore reads file Go)
store_one reads file Go one =
    let Opened : List Database → List MaybeBytes → Gives = λ ds items. WithLayers items (has_writable ds) (Go ds) in
    let Named : List Database → Gives = λ ds. WithDatabases reads 1 ds (Opened ds) in
    read_one file (reads 0 file) (λ bytes. OrLine file (profile_of bytes) Named)
    (λ bytes. line_one file (profile_of bytes) Named (λ ds. databases_one reads 1 ds (Opened ds) (λ items. layers_one items (has_writable ds) (Go ds) (one ds))))

-- ---- new files

not_too_big : (s : Settings) (bytes : List ℕ) → IsTooBig s → IsDatabaseOf s bytes → ⊥
not_too_big s bytes big made =
    let same = one_length s big.0 (length bytes) big.1 made.size in
    let over = big.2 in
    let fits = made.fits in
    absurd (omega (arith, same, over, fits))

writes_one : (name text : List ℕ) (s : Settings) → IsOne (Writes name text s)
writes_one name text s o p (inl h) (inl k) = exact (refused (codes "TooBig")) o p h.1 k.1
writes_one name text s o p (inl h) (inr k) = absurd (not_too_big s k.0 h.0 k.1)
writes_one name text s o p (inr h) (inl k) = absurd (not_too_big s h.0 k.0 h.1)
writes_one name text s o p (inr h) (inr k) = ap (λ (o : Outcome). o.output) h.2 ∙ sym (ap (λ (o : Outcome). o.output) k.2)

saves_one : (text : List ℕ) (paths : List (List ℕ)) (name : List ℕ) (r : Result Layers Refusal) → IsOne (SavesSaying text paths name r)
saves_one text paths name (Err e) o p h k = exact (refused (refusal_text paths e)) o p h k
saves_one text paths name (Ok l) o p h k = writes_one name text (saved l.layers) o p h k

changes_one : (text : List ℕ) (reads : ReadResults) (profile : List ℕ) (paths : List (List ℕ)) (change : Change) → IsOne (ChangesSaying text reads profile paths change)
changes_one text reads profile paths change =
    store_one reads profile (λ databases l. SavesSaying text paths (user_file databases) (apply l change))
    (λ databases l. saves_one text paths (user_file databases) (apply l change))

loads_one : (reads : ReadResults) (profile : List ℕ) (force : Bool) (l : Loaded) → IsOne (Loads reads profile force l)
loads_one reads profile force l = changes_one (lines_text l.left_out) reads profile (paths_of l.rows) (load_values l.rows force)

given_one : (g : Given) (s t : Settings) → AreGiven g s → AreGiven g t → s ≡ t
given_one g s t h k =
    let values = at_paths s.values t.values (λ q. h.values q ∙ sym (k.values q)) in
    let locks = at_paths s.locks t.locks (λ q. same_lock (get s.locks q) (get t.locks q)
    (λ there. (k.locks q ∙ sym (h.locks q)) ∙ there) (λ there. (h.locks q ∙ sym (k.locks q)) ∙ there)) in
    λ i. record { values = values i; locks = locks i }

salvaged_one : (file : List ℕ) (s t : Settings) → IsSalvaged file s → IsSalvaged file t → s ≡ t
salvaged_one file s t h k =
    let values = at_paths s.values t.values (λ q. same_option (get s.values q) (get t.values q)
    (λ x e. (k.values q x).1 ((h.values q x).0 e)) (λ x e. (h.values q x).1 ((k.values q x).0 e))) in
    let locks = at_paths s.locks t.locks (λ q. same_lock (get s.locks q) (get t.locks q)
    (λ there. (k.locks q).1 ((h.locks q).0 there)) (λ there. (h.locks q).1 ((k.locks q).0 there))) in
    λ i. record { values = values i; locks = locks i }

module _ (out : List ℕ) (files locks : List Source) where
  abbrev AreAlike : Result (List ℕ) FileFault → Result (List ℕ) FileFault → Type 0
  AreAlike r q = (compile_output out files locks r).output ≡ (compile_output out files locks q).output

  made_one : (s : Settings) (first : File) (r q : Result (List ℕ) FileFault) → IsMadeOf s first r → IsMadeOf s first q → AreAlike r q
  made_one s first (Ok b) (Ok c) h k = refl
  made_one s first (Ok b) (Err g) h k = absurd (not_too_big s b k.0 h)
  made_one s first (Err f) (Ok c) h k = absurd (not_too_big s c h.0 k)
  made_one s first (Err f) (Err g) h k = ap (λ f. (compile_output out files locks (Err f)).output) (h.1 ∙ sym k.1)

  compiled_one : (x : Result Given FileFault) (first : File) (r q : Result (List ℕ) FileFault) → IsMadeOfGiven x first r → IsMadeOfGiven x first q → AreAlike r q
  compiled_one (Err f) first r q h k = ap (λ r. (compile_output out files locks r).output) (h ∙ sym k)
  compiled_one (Ok g) first r q h k =
      made_one h.0 first r q h.2 (subst (λ s. IsMadeOf s first q) (given_one g k.0 h.0 k.1 h.1) k.2)

  compiles_one : IsOne (Compiles out files locks)
  compiles_one o p h k =
      ap (λ (o : Outcome). o.output) h.2
      ∙ (compiled_one (given files locks) (first_file (taken files)) h.0 k.0 h.1 k.1 ∙ sym (ap (λ (o : Outcome). o.output) k.2))

checks_one : (bytes : List ℕ) → IsOne (Checks bytes)
checks_one bytes o p h k = exact (check_output h.0) o p h.2 (k.2 ∙ ap check_output (verdict_one bytes k.0 h.0 k.1 h.1))

repairs_one : (out bytes : List ℕ) → IsOne (Repairs out bytes)
repairs_one out bytes o p (inl h) (inl k) =
    exact (refused (open_fault_text h.0)) o p h.2 (k.2 ∙ ap (λ f. refused (open_fault_text f)) (opens.one_fault bytes k.0 h.0 k.1 h.1))
repairs_one out bytes o p (inl h) (inr k) = absurd (opens.no_database bytes h.0 h.1 k.0)
repairs_one out bytes o p (inr h) (inl k) = absurd (opens.no_database bytes k.0 k.1 h.0)
repairs_one out bytes o p (inr h) (inr k) =
    writes_one out (kept_text h.1.0) h.1.0 o p h.1.2
    (subst (λ (s : Settings). Writes out (kept_text s) s p) (salvaged_one bytes k.1.0 h.1.0 k.1.1 h.1.1) k.1.2)

-- ---- each command

-- a command that reads the store goes on to one outcome
answers_one : (reads : ReadResults) (file : List ℕ) (f : Option PathFault) (answer : List Database → Layers → Outcome) →
    IsOne (UnlessFault f (WithStore reads file (λ databases l o. o ≡ answer databases l)))
answers_one reads file f answer =
    fault_one f (WithStore reads file (λ databases l o. o ≡ answer databases l))
    (store_one reads file (λ databases l o. o ≡ answer databases l) (λ databases l. exact (answer databases l)))

pub one_output : OneOutput
one_output (show type file) reads input =
    type_one type (type_of_text type) (λ t. WithFile reads 0 file (λ bytes o. o ≡ shown_outcome (decode t bytes)))
    (λ t. read_one file (reads 0 file) (λ bytes o. o ≡ shown_outcome (decode t bytes)) (λ bytes. exact (shown_outcome (decode t bytes))))
one_output (read default key profile) reads input =
    answers_one reads profile (key_fault key) (λ databases l. shown_if_any (visible (cond default (without_user l) l) key))
one_output (list directory profile) reads input =
    answers_one reads profile (directory_fault directory) (λ databases l. done (lines_text (child_names l directory)))
one_output (list_locks directory profile) reads input =
    answers_one reads profile (directory_fault directory) (λ databases l. done (lines_text (locks_below l directory)))
one_output (dump skip directory profile) reads input =
    answers_one reads profile (directory_fault directory) (λ databases l. dump_at skip directory l (paths_below l directory))
one_output (origin key profile) reads input =
    answers_one reads profile (key_fault key) (λ databases l. done (origin_text databases (origin_of l key)))
one_output (explain key profile) reads input =
    answers_one reads profile (key_fault key) (λ databases l. done (explained databases l key))
one_output (write key text profile) reads input =
    let Go : Tree → Gives = λ v. MakesChange reads profile (key ∷ []) (set_value key v) in
    fault_one (key_fault key) (OrCause (value_of_word text) Go)
    (cause_one (value_of_word text) Go (λ v. changes_one [] reads profile (key ∷ []) (set_value key v)))
one_output (reset key profile) reads input =
    fault_one (key_fault key) (MakesChange reads profile (key ∷ []) (reset_value key)) (changes_one [] reads profile (key ∷ []) (reset_value key))
one_output (reset_below directory profile) reads input =
    fault_one (directory_fault directory) (MakesChange reads profile [] (reset_below_directory directory)) (changes_one [] reads profile [] (reset_below_directory directory))
one_output (load force skip directory profile) reads input =
    fault_one (directory_fault directory) (WithRows skip directory input (Loads reads profile force))
    (input_one (read_failed input) (OrLine (codes "input") (loaded skip directory input.bytes) (Loads reads profile force))
    (line_one (codes "input") (loaded skip directory input.bytes) (Loads reads profile force) (loads_one reads profile force)))
one_output (compile out lock_names names) reads input =
    files_one reads 0 names (λ files. WithFiles reads (length names) lock_names (λ locks. Compiles out files locks))
    (λ files. files_one reads (length names) lock_names (λ locks. Compiles out files locks) (λ locks. compiles_one out files locks))
one_output (check file) reads input = read_one file (reads 0 file) Checks checks_one
one_output (repair file out) reads input = read_one file (reads 0 file) (Repairs out) (repairs_one out)

-- ---- a second output

-- the same outcome with a line more on out
abbrev with_line : Outcome → Outcome
with_line o = record { output = record { out = 10 ∷ o.output.out; err = o.output.err; status = o.output.status }; change = o.change }

-- no command may leave that, too
no_second_output : (command : Command) (reads : ReadResults) (input : Input) (o : Outcome) → IsOutcome command reads input o →
    IsOutcome command reads input (with_line o) → ⊥
no_second_output command reads input o is second =
    let same = ap (λ (p : Output). length p.out) (one_output command reads input o (with_line o) is second) in
    absurd (omega (arith, same))
