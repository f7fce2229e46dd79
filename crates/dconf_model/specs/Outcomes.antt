-- What each command makes of what it reads: a text for out, or one line for err, and for a command that changes a file the
-- bytes that it is to hold. dconf(1). Each definition goes in the order of the refusals: words, the value, input, profile,
-- databases, the change, the new file.
use Rattle.std.specs.Prelude.{◌≡◌, ◌⊎◌, ℕ, zero, suc, ◌+◌, List, [], ◌∷◌, ◌++◌, length, codes, decimal, map, flat_map, slice_get, Option, Some, None, Result, Ok, Err, Bool, true, false, if◌then◌else◌, nat_lt, not, ◌&&◌, unwrap_or, option_map, filter, is_some}
use Rattle.std.specs.FinMap.{len}
use Rattle.gv_model.specs.Ty.{Ty}
use Rattle.gv_model.specs.TypeText.{type_of_text}
use Rattle.gv_model.specs.TypeFault.{Fault, IsFault}
use Rattle.gv_model.specs.FaultTexts.{type_fault_text}
use Rattle.gv_model.specs.Tree.{Tree}
use Rattle.gv_model.specs.Decode.{decode}
use Rattle.gv_model.specs.Printed.{printed, is_too_large, holds_double}
use Rattle.dconf_model.specs.Paths.{PathFault, key_fault, directory_fault}
use Rattle.dconf_model.specs.Settings.{Settings}
use Rattle.dconf_model.specs.Opening.{OpenFault, IsDatabase, IsOpenFault}
use Rattle.dconf_model.specs.Causes.{SettingsCause}
use Rattle.dconf_model.specs.Causes.SettingsCause.{too_big}
use Rattle.dconf_model.specs.FaultTexts.{cause_text, path_fault_text, open_fault_text, unsound_text, about, line_fault_text, no_file_text, device_text, bad_database_text}
use Rattle.dconf_model.specs.Lines.{LineFault, longest_text}
use Rattle.dconf_model.specs.Values.{value_of_text}
use Rattle.dconf_model.specs.Profiles.{Database, database_file, has_writable, user_file, profile_of}
use Rattle.dconf_model.specs.Keyfiles.{Setting, dump_row, in_groups, row_fault, text_after}
use Rattle.dconf_model.specs.Doubles.{comment_lines, has_line_feed, left_out, not_left_out}
use Rattle.dconf_model.specs.Sources.{Loaded, Source, File, FileFault, loaded}
use Rattle.dconf_model.specs.Sources.File.{keyfile, lock_file}
use Rattle.dconf_model.specs.Databases.{Verdict, IsVerdict, IsDatabaseOf, IsTooBig, IsCompiled, AreLayers, IsFirstBad}
use Rattle.dconf_model.specs.Databases.Verdict.{no_database, sound, unsound}
use Rattle.dconf_model.specs.Layers.{Layers, visible, origin as origin_of, child_names, locks_below, paths_below, without_user}
use Rattle.dconf_model.specs.Explains.{explained, place_name}
use Rattle.dconf_model.specs.Changes.{Change, Refusal, apply, saved, paths_of}
use Rattle.dconf_model.specs.Changes.Change.{set_value, reset_value, reset_below_directory, load_values}
use Rattle.dconf_model.specs.Changes.Refusal.{not_writable, locked, too_large}
use Rattle.dconf_model.specs.Salvaging.{IsSalvaged}
use Rattle.dconf_model.specs.Commands.{Command}
use Rattle.dconf_model.specs.Commands.Command.{show, read, list, list_locks, write, reset, reset_below, dump, load, origin, explain, compile, check, repair}
use Rattle.dconf_model.specs.Reads.{FileRead, ReadResults, Input}
use Rattle.dconf_model.specs.Reads.FileRead.{no_file, holds, over_size, failed}

-- ---- outcomes

-- the bytes for out and for err, and the status
pub record Output : Type 0 where
  pub out : List ℕ
  pub err : List ℕ
  pub status : ℕ

-- a file that is to be replaced, and what it is to hold
pub record Replacement : Type 0 where
  pub name : List ℕ
  pub bytes : List ℕ

pub record Outcome : Type 0 where
  pub output : Output
  pub change : Option Replacement

-- outcomes that a command may have
abbrev pub Gives : Type 1
Gives = Outcome → Type 0

abbrev pub done_output : List ℕ → Output
done_output text = record { out = text; err = []; status = 0 }

abbrev pub line_output : List ℕ → Output
line_output line = record { out = []; err = line ++ 10 ∷ []; status = 1 }

abbrev pub refused_output : List ℕ → Output
refused_output why = line_output (codes "error: " ++ why)

-- no file is replaced
abbrev pub answering : Output → Outcome
answering output = record { output = output; change = None }

abbrev pub done : List ℕ → Outcome
done text = answering (done_output text)

abbrev pub refused : List ℕ → Outcome
refused why = answering (refused_output why)

-- the file is replaced, and then this is written
abbrev pub changing : List ℕ → List ℕ → List ℕ → Outcome
changing name bytes text = record { output = done_output text; change = Some (record { name = name; bytes = bytes }) }

abbrev pub Refused : List ℕ → Gives
Refused why o = o ≡ refused why

-- each text is a line
abbrev pub lines_text : List (List ℕ) → List ℕ
lines_text texts = flat_map (λ t. t ++ 10 ∷ []) texts

-- ---- words, files and input, before a command's work

abbrev pub UnlessFault : Option PathFault → Gives → Gives
UnlessFault (Some f) Go o = Refused (path_fault_text f) o
UnlessFault None Go o = Go o

abbrev pub WithType : List ℕ → Option Ty → (Ty → Gives) → Gives
WithType text None Go o = (f : Fault) × IsFault text f × Refused (type_fault_text f) o
WithType text (Some t) Go o = Go t o

abbrev pub OrCause : {X : Type 0} → Result X SettingsCause → (X → Gives) → Gives
OrCause (Ok x) Go o = Go x o
OrCause (Err c) Go o = Refused (cause_text c) o

-- the value of a word; a word that is too long isn't read
abbrev pub value_of_word : List ℕ → Result Tree SettingsCause
value_of_word text = if nat_lt longest_text (length text) then Err too_big else value_of_text text

abbrev pub OrLine : {X : Type 0} → List ℕ → Result X LineFault → (X → Gives) → Gives
OrLine file (Ok x) Go o = Go x o
OrLine file (Err f) Go o = Refused (line_fault_text file f.line f.cause) o

abbrev pub OrNoRead : List ℕ → FileRead → (List ℕ → Gives) → Gives
OrNoRead name (holds bytes) Go o = Go bytes o
OrNoRead name no_file Go o = Refused (no_file_text name) o
OrNoRead name over_size Go o = Refused (codes "TooBig") o
OrNoRead name failed Go o = Refused (device_text name) o

-- the bytes of a file, by the read of that number
abbrev pub WithFile : ReadResults → ℕ → List ℕ → (List ℕ → Gives) → Gives
WithFile reads n name Go = OrNoRead name (reads n name) Go

-- of several files
abbrev pub WithFiles : ReadResults → ℕ → List (List ℕ) → (List Source → Gives) → Gives
WithFiles reads n [] Go = Go []
WithFiles reads n (name ∷ more) Go =
    WithFile reads n name (λ bytes. WithFiles reads (n + 1) more (λ files. Go (record { name = name; bytes = bytes } ∷ files)))

-- input that is too big is left before its end
abbrev pub read_failed : Input → Bool
read_failed input = input.fails && not (nat_lt longest_text (length input.bytes))

abbrev pub UnlessFailed : Bool → Gives → Gives
UnlessFailed true Go o = Refused (device_text (codes "input")) o
UnlessFailed false Go o = Go o

-- the rows of a keyfile from input
abbrev pub WithRows : Bool → List ℕ → Input → (Loaded → Gives) → Gives
WithRows skip directory input Go = UnlessFailed (read_failed input) (OrLine (codes "input") (loaded skip directory input.bytes) Go)

-- ---- the store: a profile, and its databases

-- a database that isn't there is empty
abbrev pub OrNoDatabase : List ℕ → FileRead → (Option (List ℕ) → Gives) → Gives
OrNoDatabase name no_file Go o = Go None o
OrNoDatabase name (holds bytes) Go o = Go (Some bytes) o
OrNoDatabase name over_size Go o = Refused (codes "TooBig") o
OrNoDatabase name failed Go o = Refused (device_text name) o

abbrev pub WithDatabases : ReadResults → ℕ → List Database → (List (Option (List ℕ)) → Gives) → Gives
WithDatabases reads n [] Go = Go []
WithDatabases reads n (d ∷ more) Go =
    OrNoDatabase (database_file d) (reads n (database_file d)) (λ item. WithDatabases reads (n + 1) more (λ items. Go (item ∷ items)))

abbrev pub verdict_text : Verdict → List ℕ
verdict_text (no_database f) = open_fault_text f
verdict_text sound = codes "sound"
verdict_text (unsound rule at) = unsound_text rule at

abbrev pub WithLayers : List (Option (List ℕ)) → Bool → (Layers → Gives) → Gives
WithLayers items writable Go o =
    ((layers : List Settings) × AreLayers items layers × Go (record { layers = layers; writable = writable }) o)
    ⊎ ((i : ℕ) × (v : Verdict) × IsFirstBad items i v × Refused (bad_database_text i (verdict_text v)) o)

-- all databases are read, and then opened
abbrev pub WithStore : ReadResults → List ℕ → (List Database → Layers → Gives) → Gives
WithStore reads file Go =
    WithFile reads 0 file (λ bytes. OrLine file (profile_of bytes) (λ databases.
    WithDatabases reads 1 databases (λ items. WithLayers items (has_writable databases) (Go databases))))

-- ---- values and listings

abbrev pub print_fault : Tree → Option (List ℕ)
print_fault v = if is_too_large v then Some (codes "TooLarge") else if holds_double v then Some (codes "DoubleText") else None

abbrev pub printed_or : Option (List ℕ) → Tree → Outcome
printed_or (Some why) v = refused why
printed_or None v = done (printed v true ++ 10 ∷ [])

abbrev pub shown_outcome : Tree → Outcome
shown_outcome v = printed_or (print_fault v) v

abbrev pub shown_if_any : Option Tree → Outcome
shown_if_any None = done []
shown_if_any (Some v) = shown_outcome v

abbrev pub place_text : List Database → ℕ → List ℕ
place_text databases i = place_name databases i ++ 10 ∷ []

abbrev pub origin_text : List Database → Option ℕ → List ℕ
origin_text databases None = []
origin_text databases (Some i) = place_text databases i

-- ---- dumps

abbrev pub with_setting : Option (List ℕ) → List ℕ → Tree → Result (List Setting) (List ℕ) → Result (List Setting) (List ℕ)
with_setting (Some why) path v later = Err (about why path)
with_setting None path v (Ok settings) = Ok (record { path = path; text = printed v true } ∷ settings)
with_setting None path v (Err why) = Err why

abbrev pub with_value_if_any : List ℕ → Option Tree → Result (List Setting) (List ℕ) → Result (List Setting) (List ℕ)
with_value_if_any path None later = later
with_value_if_any path (Some v) later = with_setting (print_fault v) path v later

-- the settings at paths, with their printed values, or why the first isn't printed
abbrev pub settings_at : Layers → List (List ℕ) → Result (List Setting) (List ℕ)
settings_at l [] = Ok []
settings_at l (path ∷ more) = with_value_if_any path (visible l path) (settings_at l more)

abbrev pub path_at : List (List ℕ) → ℕ → List ℕ
path_at paths n = unwrap_or (slice_get paths n) []

abbrev pub setting_paths : List Setting → List (List ℕ)
setting_paths settings = map (λ s. s.path) settings

-- why a path is refused that could be no row of a keyfile below a directory
abbrev pub row_refusal : List ℕ → List ℕ → Option (List ℕ)
row_refusal directory path = option_map (λ cause. about (cause_text cause) path) (row_fault (dump_row directory (record { path = path; text = [] })))

abbrev pub or_next : Option (List ℕ) → Option (List ℕ) → Option (List ℕ)
or_next (Some why) next = Some why
or_next None next = next

-- why the first of paths is
abbrev pub first_refusal : List ℕ → List (List ℕ) → Option (List ℕ)
first_refusal directory [] = None
first_refusal directory (path ∷ more) = or_next (row_refusal directory path) (first_refusal directory more)

abbrev pub dump_output : List ℕ → List Setting → Option (List ℕ) → Outcome
dump_output directory settings (Some why) = refused why
dump_output directory settings None = done (text_after None (in_groups (map (dump_row directory) settings)))

-- the dump of settings, if they have texts, and if each of these paths could be a row
abbrev pub dump_of : List ℕ → List (List ℕ) → Result (List Setting) (List ℕ) → Outcome
dump_of directory paths (Err why) = refused why
dump_of directory paths (Ok settings) = dump_output directory settings (first_refusal directory paths)

-- these lines before what a command prints that is done
abbrev pub before_out : ℕ → List ℕ → List ℕ → List ℕ
before_out zero lines text = lines ++ text
before_out (suc n) lines text = text

abbrev pub with_lines : List ℕ → Outcome → Outcome
with_lines lines o = record {
  output = record { out = before_out o.output.status lines o.output.out; err = o.output.err; status = o.output.status };
  change = o.change;
}

-- The dump of values below a directory: comment lines with the paths of those that are left out, and then the others. Each path,
-- left out or not, could be a row. None is left out below a directory with a line feed, as no line could name it.
abbrev pub dump_skipping : Bool → List ℕ → (List ℕ → Option Tree) → (List (List ℕ) → Result (List Setting) (List ℕ)) → List (List ℕ) → Outcome
dump_skipping skip directory seen settings paths =
    let skips = skip && not (has_line_feed directory) in
    with_lines (comment_lines (left_out skips seen paths))
    (dump_of directory (filter (λ path. is_some (seen path)) paths) (settings (not_left_out skips seen paths)))

abbrev pub dump_at : Bool → List ℕ → Layers → List (List ℕ) → Outcome
dump_at skip directory l paths = dump_skipping skip directory (visible l) (settings_at l) paths

-- ---- changes

abbrev pub refusal_text : List (List ℕ) → Refusal → List ℕ
refusal_text paths not_writable = codes "NotWritable"
refusal_text paths (locked n) = about (codes "Locked") (path_at paths n)
refusal_text paths too_large = codes "TooLarge"

-- the database of settings, which may be too big
abbrev pub Writes : List ℕ → List ℕ → Settings → Gives
Writes name text s o = (IsTooBig s × Refused (codes "TooBig") o) ⊎ ((bytes : List ℕ) × IsDatabaseOf s bytes × (o ≡ changing name bytes text))

-- where it is made, this text is printed
abbrev pub SavesSaying : List ℕ → List (List ℕ) → List ℕ → Result Layers Refusal → Gives
SavesSaying text paths name (Err r) o = Refused (refusal_text paths r) o
SavesSaying text paths name (Ok new) o = Writes name text (saved new.layers) o

abbrev pub Saves : List (List ℕ) → List ℕ → Result Layers Refusal → Gives
Saves paths name r = SavesSaying [] paths name r

-- a change, at these paths
abbrev pub ChangesSaying : List ℕ → ReadResults → List ℕ → List (List ℕ) → Change → Gives
ChangesSaying text reads profile paths change = WithStore reads profile (λ databases l. SavesSaying text paths (user_file databases) (apply l change))

abbrev pub MakesChange : ReadResults → List ℕ → List (List ℕ) → Change → Gives
MakesChange reads profile paths change = ChangesSaying [] reads profile paths change

-- what is loaded is set, and the paths that are left out are printed
abbrev pub Loads : ReadResults → List ℕ → Bool → Loaded → Gives
Loads reads profile force l = ChangesSaying (lines_text l.left_out) reads profile (paths_of l.rows) (load_values l.rows force)

-- ---- compile, check, repair

abbrev pub source_name : List Source → ℕ → List ℕ
source_name files i = unwrap_or (option_map (λ s. s.name) (slice_get files i)) []

abbrev pub file_name : List Source → List Source → File → List ℕ
file_name files locks (keyfile i) = source_name files i
file_name files locks (lock_file i) = source_name locks i

abbrev pub compile_output : List ℕ → List Source → List Source → Result (List ℕ) FileFault → Outcome
compile_output out files locks (Ok bytes) = changing out bytes []
compile_output out files locks (Err f) = refused (line_fault_text (file_name files locks f.file) f.line f.cause)

abbrev pub Compiles : List ℕ → List Source → List Source → Gives
Compiles out files locks o = (r : Result (List ℕ) FileFault) × IsCompiled files locks r × (o ≡ compile_output out files locks r)

abbrev pub check_output : Verdict → Outcome
check_output (no_database f) = refused (open_fault_text f)
check_output sound = done (codes "sound" ++ 10 ∷ [])
check_output (unsound rule at) = answering (line_output (unsound_text rule at))

abbrev pub Checks : List ℕ → Gives
Checks bytes o = (v : Verdict) × IsVerdict bytes v × (o ≡ check_output v)

abbrev pub kept_text : Settings → List ℕ
kept_text s = codes "kept " ++ (decimal (len s.values) ++ (codes " keys, " ++ (decimal (len s.locks) ++ (codes " locks" ++ 10 ∷ []))))

abbrev pub Repairs : List ℕ → List ℕ → Gives
Repairs out bytes o =
    ((f : OpenFault) × IsOpenFault bytes f × Refused (open_fault_text f) o)
    ⊎ (IsDatabase bytes × ((s : Settings) × IsSalvaged bytes s × Writes out (kept_text s) s o))

-- ---- every command

abbrev pub IsOutcome : Command → ReadResults → Input → Gives
IsOutcome (show type file) reads input = WithType type (type_of_text type) (λ t. WithFile reads 0 file (λ bytes o. o ≡ shown_outcome (decode t bytes)))
IsOutcome (read default key profile) reads input =
    UnlessFault (key_fault key) (WithStore reads profile (λ databases l o. o ≡ shown_if_any (visible (if default then without_user l else l) key)))
IsOutcome (list directory profile) reads input =
    UnlessFault (directory_fault directory) (WithStore reads profile (λ databases l o. o ≡ done (lines_text (child_names l directory))))
IsOutcome (list_locks directory profile) reads input =
    UnlessFault (directory_fault directory) (WithStore reads profile (λ databases l o. o ≡ done (lines_text (locks_below l directory))))
IsOutcome (write key text profile) reads input =
    UnlessFault (key_fault key) (OrCause (value_of_word text) (λ v. MakesChange reads profile (key ∷ []) (set_value key v)))
IsOutcome (reset key profile) reads input = UnlessFault (key_fault key) (MakesChange reads profile (key ∷ []) (reset_value key))
IsOutcome (reset_below directory profile) reads input = UnlessFault (directory_fault directory) (MakesChange reads profile [] (reset_below_directory directory))
IsOutcome (dump skip directory profile) reads input =
    UnlessFault (directory_fault directory) (WithStore reads profile (λ databases l o. o ≡ dump_at skip directory l (paths_below l directory)))
IsOutcome (load force skip directory profile) reads input = UnlessFault (directory_fault directory) (WithRows skip directory input (Loads reads profile force))
IsOutcome (origin key profile) reads input =
    UnlessFault (key_fault key) (WithStore reads profile (λ databases l o. o ≡ done (origin_text databases (origin_of l key))))
IsOutcome (explain key profile) reads input =
    UnlessFault (key_fault key) (WithStore reads profile (λ databases l o. o ≡ done (explained databases l key)))
IsOutcome (compile out lock_names names) reads input =
    WithFiles reads 0 names (λ files. WithFiles reads (length names) lock_names (λ locks. Compiles out files locks))
IsOutcome (check file) reads input = WithFile reads 0 file Checks
IsOutcome (repair file out) reads input = WithFile reads 0 file (Repairs out)
