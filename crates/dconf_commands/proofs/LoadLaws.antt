-- What `load` answers by its input, its rows and the store.
use Rattle.std.proofs.Common.{◌≡◌, ◌<◌, ◌++◌, ◌∷◌, ◌∙◌, inl, inr, ℕ, Bool, true, false, List, [], length, map, Option, Some, None, Result, Ok, Err, refl, sym, ap, subst}
use Rattle.std.proofs.lemmas.Bool.{lt-ltb, true≢false}
use Rattle.std.proofs.lemmas.Option.{slice_get-map}
use Rattle.std.specs.Prelude.{IfSome, codes, decimal, is_none, nat_lt, option_map, slice_get, unwrap_or}
use Rattle.gv_model.specs.Tree.{Tree}
use Rattle.dconf_folders.specs.declared.folder.Folder.{Ghosts}
use Rattle.dconf_model.specs.Causes.{SettingsCause}
use Rattle.dconf_model.specs.Causes.SettingsCause.{too_big}
use Rattle.dconf_model.specs.Changes.{paths_of}
use Rattle.dconf_model.specs.FaultTexts.{cause_text}
use Rattle.dconf_model.specs.Keyfiles.{rows_of as rows_in}
use Rattle.dconf_model.specs.Lines.{LineFault, longest_text}
use Rattle.dconf_model.specs.Outcomes.{Gives, OrLine, UnlessFailed, WithRows, read_failed, path_at}
use Rattle.dconf_model.specs.Reads.{Input, ReadResults}
use Rattle.dconf_model.specs.Sources.{Loaded, and_rows, loaded, rows_taken}
use Rattle.dconf_path.specs.Paths.{key_text}
use Rattle.dconf_path.specs.declared.path.KeyPath.{KeyPath}
use Rattle.dconf_compile.specs.LineStops.{at_line}
use Rattle.dconf_engine.specs.Loads.{rows_of}
use Rattle.dconf_streams.specs.Answers.{Answered, GivesOutcome, RefusesFor}
use Rattle.dconf_streams.specs.Inputs.{SameText}
use Rattle.dconf_commands.specs.Loads.{RefusedLine}
use Rattle.dconf_streams.specs.Readings.{Decides}
use Rattle.dconf_streams.proofs.Decisions.{answers_also, decides_at_once}

-- ---- the input

pub long_rows : (bytes : List ℕ) → longest_text < length bytes → rows_in bytes ≡ Err (record { line = 0; cause = too_big })
long_rows bytes long = let e : nat_lt longest_text (length bytes) ≡ true = lt-ltb longest_text (length bytes) long in rw e refl

-- a text that is read only so far as to show that it is too long gives what the whole gives
same_loaded : (skip : Bool) (directory given read : List ℕ) → SameText given read → loaded skip directory read ≡ loaded skip directory given
same_loaded skip directory given read (inl e) = ap (loaded skip directory) e
same_loaded skip directory given read (inr long) =
    ap (and_rows (rows_taken skip directory)) (long_rows read long.1 ∙ sym (long_rows given long.0))

module _ {F : Type 0} (ghosts : Ghosts F) (answer : Answered) (skip : Bool) (directory : List ℕ) (Go : ReadResults → Loaded → Gives) (i : Input) where
  pub decides_text : (old new : F) (read : List ℕ) → read_failed i ≡ false → SameText i.bytes read
      → Decides ghosts old new 0 (λ reads. OrLine (codes "input") (loaded skip directory read) (Go reads)) answer
      → Decides ghosts old new 0 (λ reads. WithRows skip directory i (Go reads)) answer
  decides_text old new read kept same d =
      subst (λ (b : Bool). Decides ghosts old new 0 (λ reads. UnlessFailed b (OrLine (codes "input") (loaded skip directory i.bytes) (Go reads))) answer) (sym kept)
      (subst (λ (r : Result Loaded LineFault). Decides ghosts old new 0 (λ reads. OrLine (codes "input") r (Go reads)) answer) (same_loaded skip directory i.bytes read same) d)

-- ---- a line of it

pub line_says : (answer : Answered) (line : ℕ) (o : Option SettingsCause) → is_none o ≡ false
    → RefusesFor answer (codes "input" ++ (58 ∷ (decimal line ++ (codes ": " ++ unwrap_or (option_map cause_text o) (codes "Memory")))))
    → GivesOutcome answer (RefusedLine (option_map (at_line line) o))
line_says answer line None e h = absurd (true≢false e)
line_says answer line (Some c) e h = h

refuses_line : (answer : Answered) (o : Option LineFault) (r : Result Loaded LineFault) (Go : Loaded → Gives) → IfSome o (λ f. r ≡ Err f)
    → GivesOutcome answer (RefusedLine o) → GivesOutcome answer (OrLine (codes "input") r Go)
refuses_line answer None r Go is h = answers_also answer (RefusedLine None) (OrLine (codes "input") r Go) (λ o none. absurd none) h
refuses_line answer (Some f) r Go is h = subst (λ (x : Result Loaded LineFault). GivesOutcome answer (OrLine (codes "input") x Go)) (sym is) h

pub decides_line : {F : Type 0} (ghosts : Ghosts F) (folder : F) (answer : Answered) (o : Option LineFault) (r : Result Loaded LineFault)
    (Go : ReadResults → Loaded → Gives) → IfSome o (λ f. r ≡ Err f) → GivesOutcome answer (RefusedLine o)
    → Decides ghosts folder folder 0 (λ reads. OrLine (codes "input") r (Go reads)) answer
decides_line ghosts folder answer o r Go is h =
    decides_at_once ghosts folder 0 answer (λ reads. OrLine (codes "input") r (Go reads)) (λ reads. refuses_line answer o r (Go reads) is h)

-- ---- rows that are read

pub decides_rows : {F : Type 0} (ghosts : Ghosts F) (old new : F) (answer : Answered) (r : Result Loaded LineFault) (l : Loaded)
    (Go : ReadResults → Loaded → Gives) → r ≡ Ok l → Decides ghosts old new 0 (λ reads. Go reads l) answer
    → Decides ghosts old new 0 (λ reads. OrLine (codes "input") r (Go reads)) answer
decides_rows ghosts old new answer r l Go is d =
    subst (λ (x : Result Loaded LineFault). Decides ghosts old new 0 (λ reads. OrLine (codes "input") x (Go reads)) answer) (sym is) d

-- ---- the path of a row

mapped_paths : (rows : List (KeyPath × Tree)) → paths_of (rows_of rows) ≡ map (λ (row : KeyPath × Tree). key_text row.0) rows
mapped_paths [] = refl
mapped_paths (row ∷ rows) = ap (λ (l : List (List ℕ)). key_text row.0 ∷ l) (mapped_paths rows)

text_of : Option (KeyPath × Tree) → List ℕ
text_of found = unwrap_or (option_map (λ (row : KeyPath × Tree). key_text row.0) found) []

at_row : (rows : List (KeyPath × Tree)) (n : ℕ) → path_at (paths_of (rows_of rows)) n ≡ text_of (slice_get rows n)
unfolding text_of
at_row rows n =
    ap (λ (l : List (List ℕ)). path_at l n) (mapped_paths rows)
    ∙ ap (λ (o : Option (List ℕ)). unwrap_or o []) (slice_get-map (λ (row : KeyPath × Tree). key_text row.0) rows n)

pub load_path : (rows : List (KeyPath × Tree)) (n : ℕ) (x : KeyPath × Tree) → slice_get rows n ≡ Some x → key_text x.0 ≡ path_at (paths_of (rows_of rows)) n
unfolding text_of
load_path rows n x e = sym (at_row rows n ∙ ap text_of e)

pub no_load_path : (rows : List (KeyPath × Tree)) (n : ℕ) → slice_get rows n ≡ None → ◌≡◌ {A = List ℕ} [] (path_at (paths_of (rows_of rows)) n)
unfolding text_of
no_load_path rows n e = sym (at_row rows n ∙ ap text_of e)
