-- A command that only reads leaves its folder as it was.
use Rattle.std.specs.Prelude.{filter, is_some, not, ◌&&◌, ◌≡◌, ◌+◌, ◌∷◌, ℕ, Bool, cond, List, [], Option, Some, None, Result, Ok, Err, refl}
use Rattle.std.proofs.Common.{ap, ◌∙◌, subst, inl, inr}
use Rattle.gv_model.specs.Ty.{Ty}
use Rattle.gv_model.specs.TypeText.{type_of_text}
use Rattle.gv_model.specs.Tree.{Tree}
use Rattle.gv_model.specs.Decode.{decode}
use Rattle.dconf_model.specs.Bytes.{MaybeBytes}
use Rattle.dconf_model.specs.Paths.{PathFault, key_fault, directory_fault}
use Rattle.dconf_model.specs.Lines.{LineFault}
use Rattle.dconf_model.specs.Keyfiles.{Setting}
use Rattle.dconf_model.specs.Doubles.{has_line_feed, not_left_out}
use Rattle.dconf_model.specs.Databases.{Verdict}
use Rattle.dconf_model.specs.Databases.Verdict.{no_database, sound, unsound}
use Rattle.dconf_model.specs.Layers.{Layers, visible, without_user, child_names, locks_below, paths_below, origin as origin_of}
use Rattle.dconf_model.specs.Folders.{Event, read_content}
use Rattle.dconf_model.specs.Commands.{Command}
use Rattle.dconf_model.specs.Commands.Command.{show, read, list, list_locks, write, reset, reset_below, dump, load, origin, explain, compile, check, repair}
use Rattle.dconf_model.specs.Profiles.{Database, database_file, has_writable, profile_of}
use Rattle.dconf_model.specs.Reads.{FileRead, ReadResults, Input, steady}
use Rattle.dconf_model.specs.Reads.FileRead.{no_file, holds, over_size, failed}
use Rattle.dconf_model.specs.Explains.{explained}
use Rattle.dconf_model.specs.Outcomes.{Gives, Outcome, Output, IsOutcome, UnlessFault, WithType, WithFile, OrNoRead, OrNoDatabase, OrLine, WithDatabases, WithLayers}
use Rattle.dconf_model.specs.Outcomes.{WithStore, Checks, check_output, shown_outcome, shown_if_any, printed_or, print_fault, done, lines_text, dump_of, dump_at, dump_output, first_refusal, settings_at, origin_text}
use Rattle.dconf_model.specs.Runs.{RanCalmly, Did}
use Rattle.dconf_model.specs.Runs.RunEnding.{as_meant}
use Rattle.dconf_model.specs.Programs.{OnlyReads}

abbrev Leaves : Outcome → Type 0
Leaves o = o.change ≡ None

-- whatever it goes on with
abbrev AllLeave : {X : Type 0} → (X → Gives) → Type 0
AllLeave {X} Go = (x : X) (o : Outcome) → Go x o → Leaves o

leaves : (o p : Outcome) → o ≡ p → Leaves p → Leaves o
leaves o p same left = ap (λ (o : Outcome). o.change) same ∙ left

fault_leaves : (f : Option PathFault) (Go : Gives) (o : Outcome) → ((o : Outcome) → Go o → Leaves o) → UnlessFault f Go o → Leaves o
fault_leaves (Some f) Go o on h = leaves o _ h refl
fault_leaves None Go o on h = on o h

read_leaves : (name : List ℕ) (r : FileRead) (Go : List ℕ → Gives) (o : Outcome) → AllLeave Go → OrNoRead name r Go o → Leaves o
read_leaves name (holds bytes) Go o on h = on bytes o h
read_leaves name no_file Go o on h = leaves o _ h refl
read_leaves name over_size Go o on h = leaves o _ h refl
read_leaves name failed Go o on h = leaves o _ h refl

line_leaves : (name : List ℕ) (r : Result (List Database) LineFault) (Go : List Database → Gives) (o : Outcome) → AllLeave Go → OrLine name r Go o → Leaves o
line_leaves name (Ok x) Go o on h = on x o h
line_leaves name (Err f) Go o on h = leaves o _ h refl

database_leaves : (name : List ℕ) (r : FileRead) (Go : MaybeBytes → Gives) (o : Outcome) → AllLeave Go → OrNoDatabase name r Go o → Leaves o
database_leaves name (holds bytes) Go o on h = on (Some bytes) o h
database_leaves name no_file Go o on h = on None o h
database_leaves name over_size Go o on h = leaves o _ h refl
database_leaves name failed Go o on h = leaves o _ h refl

databases_leave : (reads : ReadResults) (n : ℕ) (ds : List Database) (Go : List MaybeBytes → Gives) (o : Outcome) → AllLeave Go → WithDatabases reads n ds Go o → Leaves o
databases_leave reads n [] Go o on h = on [] o h
databases_leave reads n (d ∷ ds) Go o on h =
    database_leaves (database_file d) (reads n (database_file d)) (λ item. WithDatabases reads (n + 1) ds (λ items. Go (item ∷ items))) o
    (λ item o. databases_leave reads (n + 1) ds (λ items. Go (item ∷ items)) o (λ items. on (item ∷ items))) h

layers_leave : (items : List MaybeBytes) (writable : Bool) (Go : Layers → Gives) (o : Outcome) → AllLeave Go → WithLayers items writable Go o → Leaves o
layers_leave items writable Go o on (inl opened) = on (record { layers = opened.0; writable = writable }) o opened.2
layers_leave items writable Go o on (inr bad) = leaves o _ bad.3 refl

store_leaves : (reads : ReadResults) (file : List ℕ) (Go : List Database → Layers → Gives) (o : Outcome) →
    ((databases : List Database) (l : Layers) (o : Outcome) → Go databases l o → Leaves o) → WithStore reads file Go o → Leaves o
store_leaves reads file Go o on h =
    let K2 : List Database → Gives = λ databases. WithDatabases reads 1 databases (λ items. WithLayers items (has_writable databases) (Go databases)) in
    read_leaves file (reads 0 file) (λ bytes. OrLine file (profile_of bytes) K2) o
    (λ bytes o. line_leaves file (profile_of bytes) K2 o (λ databases o. databases_leave reads 1 databases (λ items. WithLayers items (has_writable databases) (Go databases)) o
    (λ items o. layers_leave items (has_writable databases) (Go databases) o (on databases)))) h

-- ---- what is printed

printed_leaves : (why : Option (List ℕ)) (v : Tree) → Leaves (printed_or why v)
printed_leaves (Some why) v = refl
printed_leaves None v = refl

any_leaves : (v : Option Tree) → Leaves (shown_if_any v)
any_leaves None = refl
any_leaves (Some v) = printed_leaves (print_fault v) v

text_leaves : (directory : List ℕ) (settings : List Setting) (why : Option (List ℕ)) → Leaves (dump_output directory settings why)
text_leaves directory settings (Some why) = refl
text_leaves directory settings None = refl

dump_leaves : (directory : List ℕ) (paths : List (List ℕ)) (r : Result (List Setting) (List ℕ)) → Leaves (dump_of directory paths r)
dump_leaves directory paths (Err why) = refl
dump_leaves directory paths (Ok settings) = text_leaves directory settings (first_refusal directory paths)

check_leaves : (v : Verdict) → Leaves (check_output v)
check_leaves (no_database f) = refl
check_leaves sound = refl
check_leaves (unsound rule at) = refl

show_leaves : (type file : List ℕ) (t : Option Ty) (reads : ReadResults) (o : Outcome) →
    WithType type t (λ t. WithFile reads 0 file (λ bytes o. o ≡ shown_outcome (decode t bytes))) o → Leaves o
show_leaves type file None reads o h = leaves o _ h.2 refl
show_leaves type file (Some t) reads o h =
    read_leaves file (reads 0 file) (λ bytes o. o ≡ shown_outcome (decode t bytes)) o
    (λ bytes o same. leaves o (shown_outcome (decode t bytes)) same (printed_leaves (print_fault (decode t bytes)) (decode t bytes))) h

-- ---- each command

pub reading_leaves : (command : Command) (reads : ReadResults) (input : Input) (o : Outcome) → OnlyReads command → IsOutcome command reads input o → Leaves o
reading_leaves (show type file) reads input o only h = show_leaves type file (type_of_text type) reads o h
reading_leaves (read default key file) reads input o only h =
    let S : List Database → Layers → Gives = λ databases l o. o ≡ shown_if_any (visible (cond default (without_user l) l) key) in
    fault_leaves (key_fault key) (WithStore reads file S) o
    (λ o. store_leaves reads file S o (λ databases l o same. leaves o (shown_if_any (visible (cond default (without_user l) l) key)) same
    (any_leaves (visible (cond default (without_user l) l) key)))) h
reading_leaves (list directory file) reads input o only h =
    let S : List Database → Layers → Gives = λ databases l o. o ≡ done (lines_text (child_names l directory)) in
    fault_leaves (directory_fault directory) (WithStore reads file S) o
    (λ o. store_leaves reads file S o (λ databases l o same. leaves o (done (lines_text (child_names l directory))) same refl)) h
reading_leaves (list_locks directory file) reads input o only h =
    let S : List Database → Layers → Gives = λ databases l o. o ≡ done (lines_text (locks_below l directory)) in
    fault_leaves (directory_fault directory) (WithStore reads file S) o
    (λ o. store_leaves reads file S o (λ databases l o same. leaves o (done (lines_text (locks_below l directory))) same refl)) h
reading_leaves (dump skip directory file) reads input o only h =
    let S : List Database → Layers → Gives = λ databases l o. o ≡ dump_at skip directory l (paths_below l directory) in
    fault_leaves (directory_fault directory) (WithStore reads file S) o
    (λ o. store_leaves reads file S o (λ databases l o same. leaves o (dump_at skip directory l (paths_below l directory)) same
    (dump_leaves directory (filter (λ path. is_some (visible l path)) (paths_below l directory))
    (settings_at l (not_left_out (skip && not (has_line_feed directory)) (visible l) (paths_below l directory)))))) h
reading_leaves (origin key file) reads input o only h =
    let S : List Database → Layers → Gives = λ databases l o. o ≡ done (origin_text databases (origin_of l key)) in
    fault_leaves (key_fault key) (WithStore reads file S) o
    (λ o. store_leaves reads file S o (λ databases l o same. leaves o (done (origin_text databases (origin_of l key))) same refl)) h
reading_leaves (explain key file) reads input o only h =
    let S : List Database → Layers → Gives = λ databases l o. o ≡ done (explained databases l key) in
    fault_leaves (key_fault key) (WithStore reads file S) o
    (λ o. store_leaves reads file S o (λ databases l o same. leaves o (done (explained databases l key)) same refl)) h
reading_leaves (check file) reads input o only h =
    read_leaves file (reads 0 file) Checks o (λ bytes o checked. leaves o (check_output checked.0) checked.2 (check_leaves checked.0)) h
reading_leaves (write key text file) reads input o only h = absurd only
reading_leaves (reset key file) reads input o only h = absurd only
reading_leaves (reset_below directory file) reads input o only h = absurd only
reading_leaves (load force skip directory file) reads input o only h = absurd only
reading_leaves (compile out locks names) reads input o only h = absurd only
reading_leaves (repair file out) reads input o only h = absurd only

pub calm_reading : (command : Command) (input : Input) (old new : List Event) (output : Output) → OnlyReads command → RanCalmly command input old new output → new ≡ old
calm_reading command input old new output only (inr m) = m.1
calm_reading command input old new output only (inl a) =
    subst (λ change. Did change as_meant old new) (reading_leaves command (steady (read_content old)) input a.outcome only a.is) a.did
