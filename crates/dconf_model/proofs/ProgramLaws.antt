-- What runs over one folder print.
use Rattle.std.specs.Prelude.{◌&&◌, not, is_some, ◌≡◌, ◌⊎◌, ◌+◌, ℕ, zero, suc, Bool, true, false, cond, List, [], ◌∷◌, drop, Option, Some, None, Result, filter}
use Rattle.std.proofs.Common.{ap, sym, ◌∙◌, subst, inl, inr}
use Rattle.gv_model.specs.Tree.{Tree}
use Rattle.dconf_model.specs.Bytes.{MaybeBytes}
use Rattle.dconf_model.specs.Paths.{PathFault, key_fault, directory_fault}
use Rattle.dconf_model.specs.Lines.{LineFault}
use Rattle.dconf_model.specs.Locks.{is_below}
use Rattle.dconf_model.specs.Folders.{Event, read_content}
use Rattle.dconf_model.specs.Opening.{root_of}
use Rattle.dconf_model.specs.Commands.{Command}
use Rattle.dconf_model.specs.Commands.Command.{show, read, list, list_locks, write, reset, reset_below, dump, load, origin, explain, compile, check, repair}
use Rattle.dconf_model.specs.Profiles.{Database, database_file, has_writable, profile_of}
use Rattle.dconf_model.specs.Reads.{Content, Input, ReadResults, steady}
use Rattle.dconf_model.specs.Settings.{Settings}
use Rattle.dconf_model.specs.Doubles.{comment_lines, has_line_feed, left_out, not_left_out}
use Rattle.dconf_model.specs.Sources.{Given}
use Rattle.dconf_model.specs.Databases.{Verdict, IsLayer, AreLayers, IsBad, IsFirstBad, IsDatabaseOf, IsGood}
use Rattle.dconf_model.specs.Databases.Verdict.{no_database, sound, unsound}
use Rattle.dconf_model.specs.Layers.{Layers, visible, without_user, child_names, locks_below, all_locks, paths_below, parts_below, all_paths, has_value, origin as origin_of}
use Rattle.dconf_model.specs.Explains.{explained}
use Rattle.dconf_model.specs.Outcomes.{Gives, Outcome, Output, WithStore, WithDatabases, WithLayers, OrNoDatabase, OrNoRead, OrLine, UnlessFault, IsOutcome, shown_if_any, done, done_output, lines_text, refused, dump_of, dump_at, dump_skipping, with_lines, origin_text}
use Rattle.dconf_model.specs.FaultTexts.{device_text}
use Rattle.dconf_model.specs.Runs.{ReadsFrom}
use Rattle.dconf_model.specs.Stores.{OwnValues}
use Rattle.dconf_model.specs.Programs.{FolderHolds, AreRead, found, Prints, IsQuestion, QuestionsAreAnswered, dump_given, settings_given}
use Rattle.dconf_model.proofs.OpenLaws as opens
use Rattle.dconf_model.proofs.SoundLaws.{sound_has_no_fault}
use Rattle.dconf_model.proofs.ReopenLaws.{one_list}
use Rattle.dconf_model.proofs.StoreListings.{names_from, names_to}
use Rattle.dconf_model.proofs.StoreValues.{value_seen, origin_seen}
use Rattle.dconf_model.proofs.ExplainLaws.{explained_seen}
use Rattle.dconf_model.proofs.StandingPrints.{default_seen, locks_from, locks_to, paths_from, paths_to, settings_seen}

-- ---- sound databases are opened

pub not_bad : (item : MaybeBytes) (v : Verdict) → IsGood item → IsBad item v → ⊥
not_bad None v h k = k
not_bad (Some file) sound h k = k
not_bad (Some file) (no_database f) h k = opens.no_database file f k h.0
not_bad (Some file) (unsound rule at) h k = sound_has_no_fault (root_of file) rule at h.1 k.1

layer_is_good : (item : MaybeBytes) (s : Settings) → IsLayer item s → IsGood item
layer_is_good None s h = tt
layer_is_good (Some file) s h = (h.0, h.1)

pub none_bad : (items : List MaybeBytes) (ss : List Settings) (i : ℕ) (v : Verdict) → AreLayers items ss → IsFirstBad items i v → ⊥
none_bad [] ss i v h k = k
none_bad (item ∷ items) [] i v h k = absurd h
none_bad (item ∷ items) (s ∷ ss) zero v h k = not_bad item v (layer_is_good item s h.0) k
none_bad (item ∷ items) (s ∷ ss) (suc i) v h k = none_bad items ss i v h.1 k.1

-- the first may be any that was written, the others those that opened
pub none_is_bad : (file : List ℕ) (written : Settings) (others : List MaybeBytes) (ss : List Settings) (i : ℕ) (v : Verdict) →
    IsDatabaseOf written file → AreLayers others ss → IsFirstBad (Some file ∷ others) i v → ⊥
none_is_bad file written others ss zero v h k bad = not_bad (Some file) v (h.opens, h.sound) bad
none_is_bad file written others ss (suc i) v h k bad = none_bad others ss i v k bad.1

-- ---- reads give what is there

found_goes : (name : List ℕ) (item : MaybeBytes) (Go : MaybeBytes → Gives) (o : Outcome) → OrNoDatabase name (found item) Go o → Go item o
found_goes name None Go o h = h
found_goes name (Some bytes) Go o h = h

databases_read : (content : Content) (n : ℕ) (ds : List Database) (items : List MaybeBytes) (Go : List MaybeBytes → Gives) (o : Outcome) →
    AreRead content ds items → WithDatabases (steady content) n ds Go o → Go items o
databases_read content n [] [] Go o h w = w
databases_read content n [] (item ∷ items) Go o h w = absurd h
databases_read content n (d ∷ ds) [] Go o h w = absurd h
databases_read content n (d ∷ ds) (item ∷ items) Go o h w =
    databases_read content (n + 1) ds items (λ items. Go (item ∷ items)) o h.1
    (found_goes (database_file d) item (λ item. WithDatabases (steady content) (n + 1) ds (λ items. Go (item ∷ items))) o
    (subst (λ r. OrNoDatabase (database_file d) r (λ item. WithDatabases (steady content) (n + 1) ds (λ items. Go (item ∷ items))) o) h.0 w))

-- a command that opens the store goes on with these layers
pub store_is_opened : (content : Content) (profile : List ℕ) (d : Database) (ds : List Database) (own : OwnValues) (gs : List Given)
    (h : FolderHolds content profile d ds own gs) (Go : List Database → Layers → Gives) (o : Outcome) →
    WithStore (steady content) profile Go o → Go (d ∷ ds) h.opened o
store_is_opened content profile d ds own gs h Go o w =
    let K3 : List Database → List MaybeBytes → Gives = λ databases items. WithLayers items (has_writable databases) (Go databases) in
    let K2 : List Database → Gives = λ databases. WithDatabases (steady content) 1 databases (K3 databases) in
    let K1 : List ℕ → Gives = λ bytes. OrLine profile (profile_of bytes) K2 in
    let in_text : K1 h.text o = subst (λ r. OrNoRead profile r K1 o) h.profile_is w in
    let in_lines : K2 (d ∷ ds) o = subst (λ (r : Result (List Database) LineFault). OrLine profile r K2 o) h.names in_text in
    elim (databases_read content 1 (d ∷ ds) (h.first ∷ h.others) (K3 (d ∷ ds)) o h.read in_lines) [
      | inl layers ↦ (let same : layers.0 ≡ h.opened.layers = one_list (h.first ∷ h.others) layers.0 h.opened.layers layers.1 h.layers in
          subst (λ (l : Layers). Go (d ∷ ds) l o) (λ i. record { layers = same i; writable = sym h.writable i }) layers.2)
      | inr bad ↦ absurd (none_bad (h.first ∷ h.others) h.opened.layers bad.0 bad.1 h.layers bad.2)
    ]

-- ---- reads that may fail

abbrev pub Refuses : Outcome → Type 0
Refuses o = (why : List ℕ) × (o ≡ refused why)

databases_any : (es : List Event) (reads : ReadResults) (n : ℕ) (ds : List Database) (items : List MaybeBytes) (Go : List MaybeBytes → Gives) (o : Outcome) →
    ReadsFrom es reads → AreRead (read_content es) ds items → WithDatabases reads n ds Go o → Refuses o ⊎ Go items o
databases_any es reads n [] [] Go o from h w = inr w
databases_any es reads n [] (item ∷ items) Go o from h w = absurd h
databases_any es reads n (d ∷ ds) [] Go o from h w = absurd h
databases_any es reads n (d ∷ ds) (item ∷ items) Go o from h w =
    let On : MaybeBytes → Gives = λ item. WithDatabases reads (n + 1) ds (λ items. Go (item ∷ items)) in
    elim (from n (database_file d)) [
      | inl given ↦ databases_any es reads (n + 1) ds items (λ items. Go (item ∷ items)) o from h.1
          (found_goes (database_file d) item On o (subst (λ r. OrNoDatabase (database_file d) r On o) (given ∙ h.0) w))
      | inr fails ↦ inl (device_text (database_file d), subst (λ r. OrNoDatabase (database_file d) r On o) fails w)
    ]

-- a command refuses, or goes on with these layers
pub store_if_read : (es : List Event) (reads : ReadResults) (profile : List ℕ) (d : Database) (ds : List Database) (own : OwnValues) (gs : List Given)
    (h : FolderHolds (read_content es) profile d ds own gs) (Go : List Database → Layers → Gives) (o : Outcome) → ReadsFrom es reads →
    WithStore reads profile Go o → Refuses o ⊎ Go (d ∷ ds) h.opened o
store_if_read es reads profile d ds own gs h Go o from w =
    let K3 : List Database → List MaybeBytes → Gives = λ databases items. WithLayers items (has_writable databases) (Go databases) in
    let K2 : List Database → Gives = λ databases. WithDatabases reads 1 databases (K3 databases) in
    let K1 : List ℕ → Gives = λ bytes. OrLine profile (profile_of bytes) K2 in
    elim (from 0 profile) [
      | inl given ↦ (let in_text : K1 h.text o = subst (λ r. OrNoRead profile r K1 o) (given ∙ h.profile_is) w in
          let in_lines : K2 (d ∷ ds) o = subst (λ (r : Result (List Database) LineFault). OrLine profile r K2 o) h.names in_text in
          elim (databases_any es reads 1 (d ∷ ds) (h.first ∷ h.others) (K3 (d ∷ ds)) o from h.read in_lines) [
            | inl why ↦ inl why
            | inr on ↦ elim on [
              | inl layers ↦ (let same : layers.0 ≡ h.opened.layers = one_list (h.first ∷ h.others) layers.0 h.opened.layers layers.1 h.layers in
                  inr (subst (λ (l : Layers). Go (d ∷ ds) l o) (λ i. record { layers = same i; writable = sym h.writable i }) layers.2))
              | inr bad ↦ absurd (none_bad (h.first ∷ h.others) h.opened.layers bad.0 bad.1 h.layers bad.2)
            ]
          ])
      | inr fails ↦ inl (device_text profile, subst (λ r. OrNoRead profile r K1 o) fails w)
    ]

-- ---- what is printed

-- where the path has no fault, the command goes on with the store
abbrev Shows : Type 1
Shows = List Database → Layers → Gives

goes_on : (old : List Event) (profile file : List ℕ) (d : Database) (ds : List Database) (own : OwnValues) (gs : List Given)
    (h : FolderHolds (read_content old) profile d ds own gs) (f : Option PathFault) (S : Shows) (o : Outcome) → file ≡ profile → f ≡ None →
    UnlessFault f (WithStore (steady (read_content old)) file S) o → S (d ∷ ds) h.opened o
goes_on old profile file d ds own gs h f S o same no_fault is =
    store_is_opened (read_content old) profile d ds own gs h S o
    (subst (λ file. WithStore (steady (read_content old)) file S o) same
    (subst (λ (f : Option PathFault). UnlessFault f (WithStore (steady (read_content old)) file S) o) no_fault is))

module _ (old : List Event) (profile : List ℕ) (d : Database) (ds : List Database) (own : OwnValues) (gs : List Given)
    (h : FolderHolds (read_content old) profile d ds own gs) (output : Output) where
  by_outcome : (o p : Outcome) → output ≡ o.output → o ≡ p → output ≡ p.output
  by_outcome o p e same = e ∙ ap (λ (o : Outcome). o.output) same

  -- the values that are seen are those that are given, and so is their dump
  dump_seen : (skip : Bool) (directory : List ℕ) (paths : List (List ℕ)) → (dump_at skip directory h.opened paths).output ≡ (dump_given skip directory own gs paths).output
  dump_seen skip directory paths =
      let skips : Bool = skip && not (has_line_feed directory) in
      let valued : (List ℕ → Option Tree) → List (List ℕ) = λ seen. filter (λ path. is_some (seen path)) paths in
      ap (λ r. (with_lines (comment_lines (left_out skips (visible h.opened) paths)) (dump_of directory (valued (visible h.opened)) r)).output)
      (settings_seen h.others own gs h.opened h.held (not_left_out skips (visible h.opened) paths))
      ∙ ap (λ (seen : List ℕ → Option Tree). (dump_skipping skip directory seen (settings_given own gs) paths).output)
      (λ i. λ path. value_seen h.others own gs h.opened h.held path i)

  answered : (command : Command) (input : Input) (o : Outcome) → IsQuestion profile command → IsOutcome command (steady (read_content old)) input o →
      output ≡ o.output → Prints (d ∷ ds) own gs command output
  answered (read false key file) input o asks is e =
      let shown = goes_on old profile file d ds own gs h (key_fault key) (λ databases l o. o ≡ shown_if_any (visible l key)) o asks.0 asks.1 is in
      by_outcome o (shown_if_any (visible h.opened key)) e shown ∙ ap (λ v. (shown_if_any v).output) (value_seen h.others own gs h.opened h.held key)
  answered (read true key file) input o asks is e =
      let shown = goes_on old profile file d ds own gs h (key_fault key) (λ databases l o. o ≡ shown_if_any (visible (without_user l) key)) o asks.0 asks.1 is in
      by_outcome o (shown_if_any (visible (without_user h.opened) key)) e shown
      ∙ ap (λ v. (shown_if_any v).output) (default_seen h.others own gs h.opened h.held (has_writable (d ∷ ds)) h.writable key)
  answered (list directory file) input o asks is e =
      let shown = goes_on old profile file d ds own gs h (directory_fault directory) (λ databases l o. o ≡ done (lines_text (child_names l directory))) o asks.0 asks.1 is in
      record {
        names = parts_below directory (all_paths h.opened.layers);
        printed = by_outcome o (done (lines_text (child_names h.opened directory))) e shown;
        exact = λ part. (names_from h.others own gs h.opened h.held directory part, names_to h.others own gs h.opened h.held directory part);
      }
  answered (list_locks directory file) input o asks is e =
      let shown = goes_on old profile file d ds own gs h (directory_fault directory) (λ databases l o. o ≡ done (lines_text (locks_below l directory))) o asks.0 asks.1 is in
      record {
        locks = filter (λ lock. is_below lock directory) (all_locks (drop 1 h.opened.layers));
        printed = by_outcome o (done (lines_text (locks_below h.opened directory))) e shown;
        exact = λ lock. (locks_from h.others own gs h.opened h.held directory lock, locks_to h.others own gs h.opened h.held directory lock);
      }
  answered (dump skip directory file) input o asks is e =
      let shown = goes_on old profile file d ds own gs h (directory_fault directory) (λ databases l o. o ≡ dump_at skip directory l (paths_below l directory)) o asks.0 asks.1 is in
      record {
        paths = filter (λ path. cond (is_below path directory) (has_value h.opened path) false) (all_paths h.opened.layers);
        printed = by_outcome o (dump_at skip directory h.opened (paths_below h.opened directory)) e shown ∙ dump_seen skip directory (paths_below h.opened directory);
        exact = λ path. (paths_from h.others own gs h.opened h.held directory path, paths_to h.others own gs h.opened h.held directory path);
      }
  answered (origin key file) input o asks is e =
      let shown = goes_on old profile file d ds own gs h (key_fault key) (λ databases l o. o ≡ done (origin_text databases (origin_of l key))) o asks.0 asks.1 is in
      by_outcome o (done (origin_text (d ∷ ds) (origin_of h.opened key))) e shown
      ∙ ap (λ n. done_output (origin_text (d ∷ ds) n)) (origin_seen h.others own gs h.opened h.held key)
  answered (explain key file) input o asks is e =
      let shown = goes_on old profile file d ds own gs h (key_fault key) (λ databases l o. o ≡ done (explained databases l key)) o asks.0 asks.1 is in
      by_outcome o (done (explained (d ∷ ds) h.opened key)) e shown
      ∙ ap done_output (explained_seen h.others own gs h.opened h.held (d ∷ ds) h.writable key)
  answered (show type file) input o asks is e = absurd asks
  answered (write key text file) input o asks is e = absurd asks
  answered (reset key file) input o asks is e = absurd asks
  answered (reset_below directory file) input o asks is e = absurd asks
  answered (load force skip directory file) input o asks is e = absurd asks
  answered (compile out locks names) input o asks is e = absurd asks
  answered (check file) input o asks is e = absurd asks
  answered (repair file out) input o asks is e = absurd asks

pub questions_are_answered : QuestionsAreAnswered
questions_are_answered profile d ds own gs command input old new output h asks (inr m) = inr m.0
questions_are_answered profile d ds own gs command input old new output h asks (inl a) =
    inl (answered old profile d ds own gs h output command input a.outcome asks a.is a.output_is)
