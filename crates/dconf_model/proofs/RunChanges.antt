-- Runs that change the first database carry on what their folder gives, and those that only read
-- leave it.
use Rattle.std.specs.Prelude.{◌≡◌, ◌≤◌, ◌⊎◌, ℕ, zero, suc, Bool, true, false, nat_lt, codes, length, List, [], ◌∷◌, Option, Some, None, Result, Ok, Err, cond, is_some, refl}
use Rattle.std.proofs.Common.{ap, sym, ◌∙◌, subst, inl, inr, arith}
use Rattle.std.specs.List.{AllByRecursion}
use Rattle.std.specs.Str.{is_utf8}
use Rattle.std.specs.FinMap.{get-empty}
use Rattle.std.proofs.lemmas.Bool.{ltb-false}
use Rattle.std.specs.Cmp.Lexicographic.{slice_cmp}
use Rattle.std.specs.Ordering.{nat_cmp}
use Rattle.gv_model.specs.Tree.{Tree}
use Rattle.dconf_model.specs.Bytes.{MaybeBytes, longest_file}
use Rattle.dconf_model.specs.Paths.{PathFault, key_fault, directory_fault}
use Rattle.dconf_model.specs.Causes.{SettingsCause}
use Rattle.dconf_model.specs.Causes.SettingsCause.{too_big}
use Rattle.dconf_model.specs.Lines.{LineFault, longest_text}
use Rattle.dconf_model.specs.FaultTexts.{path_fault_text, cause_text, line_fault_text, device_text}
use Rattle.dconf_model.specs.Folders.{Event, read_content}
use Rattle.dconf_model.specs.Replacing.{Replaced}
use Rattle.dconf_model.specs.Commands.{Command}
use Rattle.dconf_model.specs.Commands.Command.{show, read, list, list_locks, write, reset, reset_below, dump, load, origin, explain, compile, check, repair}
use Rattle.dconf_model.specs.Profiles.{Database, database_file, user_file}
use Rattle.dconf_model.specs.Reads.{ReadResults, Input, read_of, steady}
use Rattle.dconf_model.specs.Reads.FileRead.{holds, over_size}
use Rattle.dconf_model.specs.Settings.{Settings}
use Rattle.dconf_model.specs.Sources.{Given, Loaded, loaded}
use Rattle.dconf_model.specs.Values.{value_of_text}
use Rattle.dconf_model.specs.Databases.{IsLayer, AreLayers, IsDatabaseOf}
use Rattle.dconf_model.specs.Layers.{Layers}
use Rattle.dconf_model.specs.Changes.{Change, Refusal, apply, saved, paths_of}
use Rattle.dconf_model.specs.Changes.Change.{set_value, reset_value, reset_below_directory, load_values}
use Rattle.dconf_model.specs.Outcomes.{Gives, Outcome, Output, IsOutcome, ChangesSaying, SavesSaying, Loads, MakesChange, lines_text, UnlessFault, UnlessFailed, OrCause, OrLine, changing, refusal_text, value_of_word, read_failed}
use Rattle.dconf_model.specs.Runs.{RanCalmly, Did}
use Rattle.dconf_model.specs.Runs.RunEnding.{as_meant}
use Rattle.dconf_model.specs.Stores.{IsWholeChange, OwnValues, own_changed, own_after, StoreHolds}
use Rattle.dconf_model.specs.Programs.{FolderHolds, AreRead, IsApart, AreApart, IsChangeOf, OnlyReads, asked_change, value_change, rows_change, if_done, changes_made, ChangesAreKept, ProgramGives}
use Rattle.dconf_model.proofs.PathMaps.{no_truth}
use Rattle.dconf_model.proofs.DatabaseLaws.{written_says_settings}
use Rattle.dconf_model.proofs.WholeRows.{loaded_whole}
use Rattle.dconf_model.proofs.WholeTexts.{texts_are_whole}
use Rattle.dconf_model.proofs.StoreValues.{after_change, after_reopening, own_joined}
use Rattle.dconf_model.proofs.ProgramLaws.{Refuses, store_is_opened, questions_are_answered}
use Rattle.dconf_model.proofs.ReadingRuns.{calm_reading}

-- ---- what an outcome comes to

abbrev pub Makes : List ℕ → Result Layers Refusal → Outcome → Type 0
Makes name r o = (m : Layers) × (bytes : List ℕ) × (r ≡ Ok m) × IsDatabaseOf (saved m.layers) bytes × (text : List ℕ) × (o ≡ changing name bytes text)

pub comes_to : (r : Result Layers Refusal) (text : List ℕ) (paths : List (List ℕ)) (name : List ℕ) (o : Outcome) → SavesSaying text paths name r o → Refuses o ⊎ Makes name r o
comes_to (Err e) text paths name o h = inl (refusal_text paths e, h)
comes_to (Ok m) text paths name o h = elim h [ inl big ↦ inl (codes "TooBig", big.1) | inr made ↦ inr (m, made.0, refl, made.1, text, made.2) ]

past_fault : (f : Option PathFault) (Go : Gives) (o : Outcome) → UnlessFault f Go o → Refuses o ⊎ Go o
past_fault (Some f) Go o h = inl (path_fault_text f, h)
past_fault None Go o h = inr h

past_failed : (b : Bool) (Go : Gives) (o : Outcome) → UnlessFailed b Go o → Refuses o ⊎ Go o
past_failed true Go o h = inl (device_text (codes "input"), h)
past_failed false Go o h = inr h

past_cause : (r : Result Tree SettingsCause) (Go : Tree → Gives) (o : Outcome) → OrCause r Go o → Refuses o ⊎ ((v : Tree) × (r ≡ Ok v) × Go v o)
past_cause (Ok v) Go o h = inr (v, refl, h)
past_cause (Err c) Go o h = inl (cause_text c, h)

past_line : (file : List ℕ) (r : Result Loaded LineFault) (Go : Loaded → Gives) (o : Outcome) → OrLine file r Go o →
    Refuses o ⊎ ((l : Loaded) × (r ≡ Ok l) × Go l o)
past_line file (Ok l) Go o h = inr (l, refl, h)
past_line file (Err f) Go o h = inl (line_fault_text file f.line f.cause, h)

-- it is refused, or is the outcome of the change that was asked for
abbrev pub IsChanging : ReadResults → List ℕ → List Change → Outcome → Type 0
IsChanging reads profile asked o =
    Refuses o ⊎ ((change : Change) × (paths : List (List ℕ)) × (asked ≡ change ∷ []) × (text : List ℕ) × ChangesSaying text reads profile paths change o)

pub changing_of : (reads : ReadResults) (profile : List ℕ) (command : Command) (input : Input) (o : Outcome) → IsChangeOf profile command →
    IsOutcome command reads input o → IsChanging reads profile (asked_change command input) o
changing_of reads profile (write key text file) input o same is =
    elim (past_fault (key_fault key) _ o is) [
      | inl why ↦ inl why
      | inr on ↦ elim (past_cause (value_of_word text) _ o on) [
        | inl why ↦ inl why
        | inr v ↦ inr (set_value key v.0, key ∷ [], ap (value_change key) v.1, [], subst (λ file. MakesChange reads file (key ∷ []) (set_value key v.0) o) same.0 v.2)
      ]
    ]
changing_of reads profile (reset key file) input o same is =
    elim (past_fault (key_fault key) _ o is) [
      | inl why ↦ inl why
      | inr on ↦ inr (reset_value key, key ∷ [], refl, [], subst (λ file. MakesChange reads file (key ∷ []) (reset_value key) o) same on)
    ]
changing_of reads profile (reset_below directory file) input o same is =
    elim (past_fault (directory_fault directory) _ o is) [
      | inl why ↦ inl why
      | inr on ↦ inr (reset_below_directory directory, [], refl, [], subst (λ file. MakesChange reads file [] (reset_below_directory directory) o) same on)
    ]
changing_of reads profile (load force skip directory file) input o same is =
    elim (past_fault (directory_fault directory) _ o is) [
      | inl why ↦ inl why
      | inr on ↦ elim (past_failed (read_failed input) _ o on) [
        | inl why ↦ inl why
        | inr text ↦ elim (past_line (codes "input") (loaded skip directory input.bytes) _ o text) [
          | inl why ↦ inl why
          | inr l ↦ inr (
            load_values l.0.rows force,
            paths_of l.0.rows,
            ap (rows_change force) l.1,
            lines_text l.0.left_out,
            subst (λ file. Loads reads file force l.0 o) same l.2,
          )
        ]
      ]
    ]
changing_of reads profile (show type file) input o same is = absurd same
changing_of reads profile (read default key file) input o same is = absurd same
changing_of reads profile (list directory file) input o same is = absurd same
changing_of reads profile (list_locks directory file) input o same is = absurd same
changing_of reads profile (dump skip directory file) input o same is = absurd same
changing_of reads profile (origin key file) input o same is = absurd same
changing_of reads profile (explain key file) input o same is = absurd same
changing_of reads profile (compile out locks names) input o same is = absurd same
changing_of reads profile (check file) input o same is = absurd same
changing_of reads profile (repair file out) input o same is = absurd same

-- what is asked for is whole
word_whole : (key text : List ℕ) → is_utf8 text ≡ true → AllByRecursion IsWholeChange (value_change key (value_of_word text))
word_whole key text u = go (nat_lt longest_text (length text)) refl
  where
    read : length text ≤ longest_text → (r : Result Tree SettingsCause) → value_of_text text ≡ r → AllByRecursion IsWholeChange (value_change key r)
    read l (Ok v) e = (texts_are_whole text v u l e, tt)
    read l (Err c) e = tt

    go : (b : Bool) → nat_lt longest_text (length text) ≡ b → AllByRecursion IsWholeChange (value_change key (cond b (Err too_big) (value_of_text text)))
    go true e = tt
    go false e = read (ltb-false longest_text (length text) e) (value_of_text text) refl

rows_whole : (skip : Bool) (directory bytes : List ℕ) (force : Bool) (r : Result Loaded LineFault) → loaded skip directory bytes ≡ r → AllByRecursion IsWholeChange (rows_change force r)
rows_whole skip directory bytes force (Ok l) e = (loaded_whole skip directory bytes l e, tt)
rows_whole skip directory bytes force (Err f) e = tt

pub asked_whole : (profile : List ℕ) (command : Command) (input : Input) → IsChangeOf profile command → AllByRecursion IsWholeChange (asked_change command input)
asked_whole profile (write key text file) input of = word_whole key text of.1
asked_whole profile (reset key file) input of = (tt, tt)
asked_whole profile (reset_below directory file) input of = (tt, tt)
asked_whole profile (load force skip directory file) input of = rows_whole skip directory input.bytes force (loaded skip directory input.bytes) refl
asked_whole profile (show type file) input of = absurd of
asked_whole profile (read default key file) input of = absurd of
asked_whole profile (list directory file) input of = absurd of
asked_whole profile (list_locks directory file) input of = absurd of
asked_whole profile (dump skip directory file) input of = absurd of
asked_whole profile (origin key file) input of = absurd of
asked_whole profile (explain key file) input of = absurd of
asked_whole profile (compile out locks names) input of = absurd of
asked_whole profile (check file) input of = absurd of
asked_whole profile (repair file out) input of = absurd of

-- ---- the folder afterwards

pub not_less : (n m : ℕ) → m ≤ n → nat_lt n m ≡ false
not_less n m le = grind arith

pub reads_kept : (old new : List Event) (user : List ℕ) (ds : List Database) (items : List MaybeBytes) →
    ((other : List ℕ) → IsApart user other → read_content new other ≡ read_content old other) →
    AllByRecursion (λ other. IsApart user (database_file other)) ds → AreRead (read_content old) ds items → AreRead (read_content new) ds items
reads_kept old new user [] [] same apart h = tt
reads_kept old new user [] (item ∷ items) same apart h = absurd h
reads_kept old new user (d ∷ ds) [] same apart h = absurd h
reads_kept old new user (d ∷ ds) (item ∷ items) same apart h =
    (ap read_of (same (database_file d) apart.0) ∙ h.0, reads_kept old new user ds items same apart.1 h.1)

-- a file of saved values is their layer
pub saved_layer : (first : Settings) (later : List Settings) (bytes : List ℕ) → IsDatabaseOf (saved (first ∷ later)) bytes → IsLayer (Some bytes) (saved (first ∷ later))
saved_layer first later bytes made = (
  made.opens,
  made.sound,
  written_says_settings (saved (first ∷ later)) bytes
      (λ path there. absurd (no_truth (sym (ap is_some (get-empty (slice_cmp nat_cmp) path)) ∙ there))) made,
)

pub read_back : (bytes : List ℕ) (s : Settings) → IsDatabaseOf s bytes → read_of (Some bytes) ≡ holds bytes
read_back bytes s made = ap (λ b. cond b over_size (holds bytes)) (not_less longest_file (length bytes) made.fits)

-- the saved layers, opened again
pub record Again (others : List MaybeBytes) (own : OwnValues) (gs : List Given) (bytes : List ℕ) : Type 0 where
  pub settings : Settings
  pub later : List Settings
  pub layers : AreLayers (Some bytes ∷ others) (settings ∷ later)
  pub held : (writable : Bool) → StoreHolds others own gs (record { layers = settings ∷ later; writable = writable })

pub saved_again : (others : List MaybeBytes) (own : OwnValues) (gs : List Given) (m : Layers) (bytes : List ℕ) → StoreHolds others own gs m →
    IsDatabaseOf (saved m.layers) bytes → Again others own gs bytes
saved_again others own gs m bytes one made =
    let s = saved (one.first ∷ one.later) in
    let made_of : IsDatabaseOf s bytes = subst (λ ls. IsDatabaseOf (saved ls) bytes) one.layers made in
    let layer : IsLayer (Some bytes) s = saved_layer one.first one.later bytes made_of in
    record {
      settings = s;
      later = one.later;
      layers = (layer, one.others_are);
      held = λ writable. after_reopening others own gs m (record { layers = s ∷ one.later; writable = writable }) one bytes made (layer, one.others_are);
    }

module _ (profile : List ℕ) (d : Database) (ds : List Database) (own : OwnValues) (gs : List Given) (old new : List Event) where
  unchanged : new ≡ old → FolderHolds (read_content old) profile d ds own gs → FolderHolds (read_content new) profile d ds own gs
  unchanged same h = subst (λ es. FolderHolds (read_content es) profile d ds own gs) (sym same) h

  as_before : (n : ℕ) (asked : List Change) → n ≡ 1 → new ≡ old → FolderHolds (read_content old) profile d ds own gs →
      FolderHolds (read_content new) profile d ds (own_after gs own (if_done n asked)) gs
  as_before n asked one same h = subst (λ n. FolderHolds (read_content new) profile d ds (own_after gs own (if_done n asked)) gs) (sym one) (unchanged same h)

  replaced : (h : FolderHolds (read_content old) profile d ds own gs) → AreApart profile d ds → (change : Change) (m : Layers) (bytes : List ℕ) →
      IsWholeChange change → apply h.opened change ≡ Ok m → IsDatabaseOf (saved m.layers) bytes → Replaced old new (database_file d) bytes →
      FolderHolds (read_content new) profile d ds (own_changed gs own change) gs
  replaced h apart change m bytes whole e made r =
      let again = saved_again h.others (own_changed gs own change) gs m bytes (after_change h.others own gs h.opened m h.held change whole e) made in
      record {
        text = h.text;
        profile_is = ap read_of (r.others.others profile apart.profile_is.own apart.profile_is.fresh) ∙ h.profile_is;
        names = h.names;
        first = Some bytes;
        others = h.others;
        read = (
          ap read_of r.read ∙ read_back bytes (saved m.layers) made,
          reads_kept old new (database_file d) ds h.others (λ other a. r.others.others other a.own a.fresh) apart.databases h.read.1,
        );
        opened = record { layers = again.settings ∷ again.later; writable = h.opened.writable };
        layers = again.layers;
        writable = h.writable;
        held = again.held h.opened.writable;
      }

-- a run that changes the first database
change_is_kept : (profile : List ℕ) (d : Database) (ds : List Database) (own : OwnValues) (gs : List Given)
    (command : Command) (input : Input) (old new : List Event) (output : Output) → AreApart profile d ds → IsChangeOf profile command →
    FolderHolds (read_content old) profile d ds own gs → RanCalmly command input old new output →
    FolderHolds (read_content new) profile d ds (own_after gs own (if_done output.status (asked_change command input))) gs
change_is_kept profile d ds own gs command input old new output apart of h (inr m) =
    as_before profile d ds own gs old new output.status (asked_change command input) (ap (λ (o : Output). o.status) m.0) m.1 h
change_is_kept profile d ds own gs command input old new output apart of h (inl a) =
    elim (changing_of (steady (read_content old)) profile command input a.outcome of a.is) [
      | inl why ↦ refusal why
      | inr c ↦ elim (comes_to (apply h.opened c.0) c.3 c.1 (database_file d) a.outcome
          (store_is_opened (read_content old) profile d ds own gs h (λ databases l. SavesSaying c.3 c.1 (user_file databases) (apply l c.0)) a.outcome c.4)) [
            | inl why ↦ refusal why
            | inr made ↦
                subst (λ n. FolderHolds (read_content new) profile d ds (own_after gs own (if_done n (asked_change command input))) gs)
                (sym (ap (λ (o : Output). o.status) (a.output_is ∙ ap (λ (o : Outcome). o.output) made.5)))
                (subst (λ cs. FolderHolds (read_content new) profile d ds (own_after gs own cs) gs) (sym c.2)
                (replaced profile d ds own gs old new h apart c.0 made.0 made.1
                (subst (AllByRecursion IsWholeChange) c.2 (asked_whole profile command input of)).0 made.2 made.3
                (subst (λ change. Did change as_meant old new) (ap (λ (o : Outcome). o.change) made.5) a.did)))
          ]
    ]
  where
    refusal : Refuses a.outcome → FolderHolds (read_content new) profile d ds (own_after gs own (if_done output.status (asked_change command input))) gs
    refusal why = as_before profile d ds own gs old new output.status (asked_change command input)
        (ap (λ (o : Output). o.status) (a.output_is ∙ ap (λ (o : Outcome). o.output) why.1))
        (subst (λ change. Did change as_meant old new) (ap (λ (o : Outcome). o.change) why.1) a.did) h

-- ---- runs one after another

none_done : (n : ℕ) → if_done n [] ≡ []
none_done zero = refl
none_done (suc n) = refl

-- a command that only reads asks for no change
nothing_asked : (command : Command) (input : Input) (n : ℕ) → OnlyReads command → if_done n (asked_change command input) ≡ []
nothing_asked (show type file) input n reads = none_done n
nothing_asked (read default key file) input n reads = none_done n
nothing_asked (list directory file) input n reads = none_done n
nothing_asked (list_locks directory file) input n reads = none_done n
nothing_asked (dump skip directory file) input n reads = none_done n
nothing_asked (origin key file) input n reads = none_done n
nothing_asked (explain key file) input n reads = none_done n
nothing_asked (check file) input n reads = none_done n
nothing_asked (write key text file) input n reads = absurd reads
nothing_asked (reset key file) input n reads = absurd reads
nothing_asked (reset_below directory file) input n reads = absurd reads
nothing_asked (load force skip directory file) input n reads = absurd reads
nothing_asked (compile out locks names) input n reads = absurd reads
nothing_asked (repair file out) input n reads = absurd reads

pub run_is_kept : (profile : List ℕ) (d : Database) (ds : List Database) (own : OwnValues) (gs : List Given)
    (command : Command) (input : Input) (old new : List Event) (output : Output) → AreApart profile d ds → IsChangeOf profile command ⊎ OnlyReads command →
    FolderHolds (read_content old) profile d ds own gs → RanCalmly command input old new output →
    FolderHolds (read_content new) profile d ds (own_after gs own (if_done output.status (asked_change command input))) gs
run_is_kept profile d ds own gs command input old new output apart (inl of) h ran = change_is_kept profile d ds own gs command input old new output apart of h ran
run_is_kept profile d ds own gs command input old new output apart (inr reads) h ran =
    subst (λ cs. FolderHolds (read_content new) profile d ds (own_after gs own cs) gs) (sym (nothing_asked command input output.status reads))
    (unchanged profile d ds own gs old new (calm_reading command input old new output reads ran) h)

pub changes_are_kept : ChangesAreKept
changes_are_kept profile d ds own gs [] old new apart h of ran = unchanged profile d ds own gs old new ran h
changes_are_kept profile d ds own gs (r ∷ more) old new apart h of ran =
    let changes : List Change = if_done r.output.status (asked_change r.command r.input) in
    let one = run_is_kept profile d ds own gs r.command r.input old ran.0 r.output apart of.0 h ran.1 in
    subst (λ own. FolderHolds (read_content new) profile d ds own gs) (own_joined gs own changes (changes_made more))
    (changes_are_kept profile d ds (own_after gs own changes) gs more ran.0 new apart one of.1 ran.2)

pub program_gives : ProgramGives
program_gives profile d ds own gs runs command input old mid new output apart h of ran asks last =
    questions_are_answered profile d ds (own_after gs own (changes_made runs)) gs command input mid new output
    (changes_are_kept profile d ds own gs runs old mid apart h of ran) asks last
