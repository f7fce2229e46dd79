-- What the program gives over one folder: runs that compile databases and that change the first
-- one, and what runs print that read the store between and after them. dconf(1), dconf(7).
use Rattle.std.specs.Prelude.{◌≡◌, ◌≢◌, ◌⊎◌, ◌↔◌, Contains, ℕ, zero, suc, Bool, true, false, nat_lt, List, [], ◌∷◌, ◌++◌, slice_get, Option, Some, None, option_and_then, Result, Ok, Err, IsTrue, is_some, if◌then◌else◌}
use Rattle.std.specs.List.{AllByRecursion, list_any}
use Rattle.std.specs.Str.{is_utf8, bytes_eq}
use Rattle.gv_model.specs.Tree.{Tree}
use Rattle.dconf_model.specs.Bytes.{MaybeBytes}
use Rattle.dconf_model.specs.Paths.{key_fault, directory_fault, first_part}
use Rattle.dconf_model.specs.Causes.{SettingsCause}
use Rattle.dconf_model.specs.Lines.{LineFault}
use Rattle.dconf_model.specs.Locks.{is_below}
use Rattle.dconf_model.specs.Order.{listing}
use Rattle.dconf_model.specs.Profiles.{Database, database_file, has_writable, profile_of}
use Rattle.dconf_model.specs.Keyfiles.{Setting}
use Rattle.dconf_model.specs.Sources.{Given, Loaded, Source, given, last_value, loaded}
use Rattle.dconf_model.specs.Opening.{IsDatabase}
use Rattle.dconf_model.specs.Salvaging.{IsSalvaged}
use Rattle.dconf_model.specs.Settings.{Settings}
use Rattle.dconf_model.specs.Databases.{AreLayers}
use Rattle.dconf_model.specs.Layers.{Layers}
use Rattle.dconf_model.specs.Explains.{explained, explained_by, nearest_lock}
use Rattle.dconf_model.specs.Changes.{Change}
use Rattle.dconf_model.specs.Changes.Change.{set_value, reset_value, reset_below_directory, load_values}
use Rattle.dconf_model.specs.Folders.{Event, IsSettled, read_content}
use Rattle.dconf_model.specs.Replacing.{new_name}
use Rattle.dconf_model.specs.Commands.{Command}
use Rattle.dconf_model.specs.Commands.Command.{show, read, list, list_locks, write, reset, reset_below, dump, load, origin, explain, compile, check, repair}
use Rattle.dconf_model.specs.Reads.{FileRead, Content, Input, read_of}
use Rattle.dconf_model.specs.Reads.FileRead.{no_file, holds}
use Rattle.dconf_model.specs.Outcomes.{Outcome, Output, done_output, shown_if_any, lines_text, origin_text, with_value_if_any, dump_skipping, value_of_word}
use Rattle.dconf_model.specs.Runs.{MayMake, NoMemory, Ran, RanCalmly}
use Rattle.dconf_model.specs.Stores.{OwnValues, StoreHolds, FileGives, GivesRows, nothing_given, IsNamed, is_lock_given, level_given, value_given, number_given, own_after}

-- ---- what a folder's files give

abbrev pub found : MaybeBytes → FileRead
found None = no_file
found (Some bytes) = holds bytes

-- what the databases of a profile hold: none is over the size that is read
abbrev pub AreRead : Content → List Database → List MaybeBytes → Type 0
AreRead content [] [] = Unit {0}
AreRead content (d ∷ ds) (item ∷ items) = (read_of (content (database_file d)) ≡ found item) × AreRead content ds items
AreRead content _ _ = ⊥

-- The profile's file names these databases. The first has its own values, and each other one
-- gives what stands beside it.
pub record FolderHolds (content : Content) (profile : List ℕ) (d : Database) (ds : List Database) (own : OwnValues) (gs : List Given) : Type 0 where
  pub text : List ℕ
  pub profile_is : read_of (content profile) ≡ holds text
  pub names : profile_of text ≡ Ok (d ∷ ds)
  pub first : MaybeBytes
  pub others : List MaybeBytes
  pub read : AreRead content (d ∷ ds) (first ∷ others)
  pub opened : Layers
  pub layers : AreLayers (first ∷ others) opened.layers
  pub writable : opened.writable ≡ has_writable (d ∷ ds)
  pub held : StoreHolds others own gs opened

-- the file of this name is read, and gives so
abbrev pub NameGives : Content → List ℕ → Given → Type 0
NameGives content name g = (item : MaybeBytes) × (read_of (content name) ≡ found item) × FileGives item g

abbrev pub NamesGive : Content → List Database → List Given → Type 0
NamesGive content [] [] = Unit {0}
NamesGive content (d ∷ ds) (g ∷ gs) = NameGives content (database_file d) g × NamesGive content ds gs
NamesGive content _ _ = ⊥

-- laws: a folder stands where its files give so, and a file that isn't there gives nothing
abbrev pub GivenHolds : Type 0
GivenHolds =
    (content : Content) (profile text : List ℕ) (d : Database) (ds : List Database) (g : Given) (gs : List Given) →
    read_of (content profile) ≡ holds text → profile_of text ≡ Ok (d ∷ ds) → NamesGive content (d ∷ ds) (g ∷ gs) →
    FolderHolds content profile d ds (last_value g.values) gs

abbrev pub NoFileGivesNothing : Type 0
NoFileGivesNothing = (content : Content) (name : List ℕ) → content name ≡ None → NameGives content name nothing_given

-- ---- what is printed

-- the names that a directory has in any database, in order, once each
pub record NamesPrinted (directory : List ℕ) (own : OwnValues) (gs : List Given) (output : Output) : Type 0 where
  pub names : List (List ℕ)
  pub printed : output ≡ done_output (lines_text (listing names))
  pub exact : (part : List ℕ) →
      Contains (listing names) part ↔ ((rest : List ℕ) × IsNamed own gs (directory ++ rest) × (part ≡ first_part rest))

-- the locks of the databases after the first that start with a directory, in order, once each
pub record LocksPrinted (directory : List ℕ) (gs : List Given) (output : Output) : Type 0 where
  pub locks : List (List ℕ)
  pub printed : output ≡ done_output (lines_text (listing locks))
  pub exact : (lock : List ℕ) → Contains (listing locks) lock ↔ (IsTrue (is_below lock directory) × IsTrue (is_lock_given gs lock))

-- the settings at paths, with their printed values, or why the first isn't printed
abbrev pub settings_given : OwnValues → List Given → List (List ℕ) → Result (List Setting) (List ℕ)
settings_given own gs [] = Ok []
settings_given own gs (path ∷ more) = with_value_if_any path (value_given path (own path) gs) (settings_given own gs more)

-- the dump of the values at paths
abbrev pub dump_given : Bool → List ℕ → OwnValues → List Given → List (List ℕ) → Outcome
dump_given skip directory own gs paths = dump_skipping skip directory (λ path. value_given path (own path) gs) (settings_given own gs) paths

-- the settings below a directory, in the order of their paths
pub record SettingsPrinted (skip : Bool) (directory : List ℕ) (own : OwnValues) (gs : List Given) (output : Output) : Type 0 where
  pub paths : List (List ℕ)
  pub printed : output ≡ (dump_given skip directory own gs (listing paths)).output
  pub exact : (path : List ℕ) →
      Contains (listing paths) path ↔ (IsTrue (is_below path directory) × IsTrue (is_some (value_given path (own path) gs)))

-- where the first database is the user's, its values are left aside
abbrev pub own_or_none : Bool → Option Tree → Option Tree
own_or_none true own = None
own_or_none false own = own

-- the value and the lock that the database with this index gives for a key; the first one's locks don't count
abbrev pub value_given_in : OwnValues → List Given → List ℕ → ℕ → Option Tree
value_given_in own gs key zero = own key
value_given_in own gs key (suc i) = option_and_then (λ g. last_value g.values key) (slice_get gs i)

abbrev pub lock_given_in : List Given → List ℕ → ℕ → Option (List ℕ)
lock_given_in gs key zero = None
lock_given_in gs key (suc i) = option_and_then (λ g. nearest_lock (λ path. list_any (λ lock. bytes_eq lock.path path) g.locks) key) (slice_get gs i)

-- what explains a key
abbrev pub explained_given : List Database → OwnValues → List Given → List ℕ → List ℕ
explained_given databases own gs key =
    explained_by databases (value_given_in own gs key) (lock_given_in gs key) (value_given key (own key) gs) (number_given key (own key) gs)
    (has_writable databases) (nat_lt 0 (level_given 1 gs key))

-- what a command that reads the store prints
abbrev pub Prints : List Database → OwnValues → List Given → Command → Output → Type 0
Prints databases own gs (read false key profile) output = output ≡ (shown_if_any (value_given key (own key) gs)).output
Prints databases own gs (read true key profile) output =
    output ≡ (shown_if_any (value_given key (own_or_none (has_writable databases) (own key)) gs)).output
Prints databases own gs (list directory profile) output = NamesPrinted directory own gs output
Prints databases own gs (list_locks directory profile) output = LocksPrinted directory gs output
Prints databases own gs (dump skip directory profile) output = SettingsPrinted skip directory own gs output
Prints databases own gs (origin key profile) output = output ≡ done_output (origin_text databases (number_given key (own key) gs))
Prints databases own gs (explain key profile) output = output ≡ done_output (explained_given databases own gs key)
Prints databases own gs other output = ⊥

-- it reads the store of this profile, at a path without a fault
abbrev pub IsQuestion : List ℕ → Command → Type 0
IsQuestion profile (read default key file) = (file ≡ profile) × (key_fault key ≡ None)
IsQuestion profile (list directory file) = (file ≡ profile) × (directory_fault directory ≡ None)
IsQuestion profile (list_locks directory file) = (file ≡ profile) × (directory_fault directory ≡ None)
IsQuestion profile (dump skip directory file) = (file ≡ profile) × (directory_fault directory ≡ None)
IsQuestion profile (origin key file) = (file ≡ profile) × (key_fault key ≡ None)
IsQuestion profile (explain key file) = (file ≡ profile) × (key_fault key ≡ None)
IsQuestion profile other = ⊥

-- law: it prints what is given, or that memory ran out
abbrev pub QuestionsAreAnswered : Type 0
QuestionsAreAnswered =
    (profile : List ℕ) (d : Database) (ds : List Database) (own : OwnValues) (gs : List Given)
    (command : Command) (input : Input) (old new : List Event) (output : Output) →
    FolderHolds (read_content old) profile d ds own gs → IsQuestion profile command → RanCalmly command input old new output →
    Prints (d ∷ ds) own gs command output ⊎ NoMemory output

-- what is printed of no database: `explain` says that nothing is seen
abbrev pub nothing_said : Command → List ℕ
nothing_said (explain key profile) = explained [] (record { layers = []; writable = false }) key
nothing_said other = []

-- law: where the profile names no database, it prints nothing else
abbrev pub EmptyPrintsNothing : Type 0
EmptyPrintsNothing =
    (profile text : List ℕ) (command : Command) (input : Input) (old new : List Event) (output : Output) →
    read_of (read_content old profile) ≡ holds text → profile_of text ≡ Ok [] → IsQuestion profile command →
    RanCalmly command input old new output → (output ≡ done_output (nothing_said command)) ⊎ NoMemory output

-- ---- runs that change the first database

abbrev pub value_change : List ℕ → Result Tree SettingsCause → List Change
value_change key (Ok v) = set_value key v ∷ []
value_change key (Err c) = []

abbrev pub rows_change : Bool → Result Loaded LineFault → List Change
rows_change force (Ok l) = load_values l.rows force ∷ []
rows_change force (Err f) = []

-- the change that a command asks for
abbrev pub asked_change : Command → Input → List Change
asked_change (write key text profile) input = value_change key (value_of_word text)
asked_change (reset key profile) input = reset_value key ∷ []
asked_change (reset_below directory profile) input = reset_below_directory directory ∷ []
asked_change (load force skip directory profile) input = rows_change force (loaded skip directory input.bytes)
asked_change other input = []

abbrev pub if_done : ℕ → List Change → List Change
if_done zero changes = changes
if_done (suc n) changes = []

-- it changes the first database of this profile; the word of a value is UTF-8, as each of the
-- program's words is
abbrev pub IsChangeOf : List ℕ → Command → Type 0
IsChangeOf profile (write key text file) = (file ≡ profile) × (is_utf8 text ≡ true)
IsChangeOf profile (reset key file) = file ≡ profile
IsChangeOf profile (reset_below directory file) = file ≡ profile
IsChangeOf profile (load force skip directory file) = file ≡ profile
IsChangeOf profile other = ⊥

-- it changes no file
abbrev pub OnlyReads : Command → Type 0
OnlyReads (show type file) = Unit {0}
OnlyReads (read default key profile) = Unit {0}
OnlyReads (list directory profile) = Unit {0}
OnlyReads (list_locks directory profile) = Unit {0}
OnlyReads (dump skip directory profile) = Unit {0}
OnlyReads (origin key profile) = Unit {0}
OnlyReads (explain key profile) = Unit {0}
OnlyReads (check file) = Unit {0}
OnlyReads other = ⊥

-- a name is neither the file's nor its new name
pub record IsApart (file name : List ℕ) : Type 0 where
  pub own : name ≢ file
  pub fresh : name ≢ new_name file

-- neither the profile nor another database is the first one's file or its new name
pub record AreApart (profile : List ℕ) (d : Database) (ds : List Database) : Type 0 where
  pub profile_is : IsApart (database_file d) profile
  pub databases : AllByRecursion (λ other. IsApart (database_file d) (database_file other)) ds

-- ---- runs one after another

pub record Run : Type 0 where
  pub command : Command
  pub input : Input
  pub output : Output

-- what clause `calm` of `run` gives of each, in a folder that nothing else changes
abbrev pub RanInTurn : List Event → List Run → List Event → Type 0
RanInTurn old [] new = new ≡ old
RanInTurn old (r ∷ more) new = (mid : List Event) × RanCalmly r.command r.input old mid r.output × RanInTurn mid more new

abbrev pub AreOf : List ℕ → List Run → Type 0
AreOf profile runs = AllByRecursion (λ r. IsChangeOf profile r.command ⊎ OnlyReads r.command) runs

-- the changes of those that answered 0
abbrev pub changes_made : List Run → List Change
changes_made [] = []
changes_made (r ∷ more) = if_done r.output.status (asked_change r.command r.input) ++ changes_made more

-- law: after them the folder stands with the changes of those that answered 0
abbrev pub ChangesAreKept : Type 0
ChangesAreKept =
    (profile : List ℕ) (d : Database) (ds : List Database) (own : OwnValues) (gs : List Given) (runs : List Run) (old new : List Event) →
    AreApart profile d ds → FolderHolds (read_content old) profile d ds own gs → AreOf profile runs → RanInTurn old runs new →
    FolderHolds (read_content new) profile d ds (own_after gs own (changes_made runs)) gs

-- law, the whole of it: a run after them that reads the store prints what rows, changes, locks
-- and the profile give
abbrev pub ProgramGives : Type 0
ProgramGives =
    (profile : List ℕ) (d : Database) (ds : List Database) (own : OwnValues) (gs : List Given) (runs : List Run)
    (command : Command) (input : Input) (old mid new : List Event) (output : Output) →
    AreApart profile d ds → FolderHolds (read_content old) profile d ds own gs → AreOf profile runs → RanInTurn old runs mid →
    IsQuestion profile command → RanCalmly command input mid new output →
    Prints (d ∷ ds) (own_after gs own (changes_made runs)) gs command output ⊎ NoMemory output

-- ---- runs that compile

-- files as the folder has them
abbrev pub AreSources : Content → List (List ℕ) → List Source → Type 0
AreSources content [] [] = Unit {0}
AreSources content (name ∷ names) (s ∷ ss) = (s.name ≡ name) × (content name ≡ Some s.bytes) × AreSources content names ss
AreSources content _ _ = ⊥

-- what the folder's keyfiles and lock files give
pub record SourcesGive (content : Content) (lock_names : List (List ℕ)) (names : List (List ℕ)) (g : Given) : Type 0 where
  pub files : List Source
  pub locks : List Source
  pub files_are : AreSources content names files
  pub locks_are : AreSources content lock_names locks
  pub given_is : given files locks ≡ Ok g

-- no crash changes the file, nor a name that none changed before
pub record LeavesSettled (old new : List Event) (file : List ℕ) : Type 0 where
  pub own : IsSettled new file (read_content new file)
  pub others : (name : List ℕ) → IsApart file name → IsSettled old name (read_content old name) → IsSettled new name (read_content new name)

-- law: so it is of the file that a command replaced, where it answered 0
abbrev pub DoneIsSettled : Type 0
DoneIsSettled =
    (command : Command) (input : Input) (old new : List Event) (output : Output) (r : Ran command input old new output) → output.status ≡ 0 →
    (new ≡ old) ⊎ ((name : List ℕ) × (bytes : List ℕ) × MayMake command input r.reads name bytes × (read_content new name ≡ Some bytes) × LeavesSettled old new name)

-- a file was put in its place: it gives this, and no other file changed but the new name
pub record IsPut (old new : List Event) (out : List ℕ) (g : Given) : Type 0 where
  pub gives : NameGives (read_content new) out g
  pub others : (name : List ℕ) → IsApart out name → read_content new name ≡ read_content old name
  pub settled : LeavesSettled old new out

-- a file was compiled: it gives what the keyfiles and lock files gave
pub record Compiled (old new : List Event) (out : List ℕ) (lock_names : List (List ℕ)) (names : List (List ℕ)) (g : Given) : Type 0 where
  pub sources : SourcesGive (read_content old) lock_names names g
  pub put : IsPut old new out g

-- law: so it is after a run of `compile` that answers 0; else it answers 1, and nothing changed
abbrev pub CompileGives : Type 0
CompileGives =
    (out : List ℕ) (lock_names : List (List ℕ)) (names : List (List ℕ)) (input : Input) (old new : List Event) (output : Output) →
    RanCalmly (compile out lock_names names) input old new output →
    ((output.status ≡ 0) × ((g : Given) × Compiled old new out lock_names names g)) ⊎ ((output.status ≡ 1) × (new ≡ old))

-- the first database's own values, and what the others give, where this file was compiled
abbrev pub own_compiled : List ℕ → Given → Database → OwnValues → OwnValues
own_compiled out g d own = if bytes_eq (database_file d) out then last_value g.values else own

abbrev pub given_compiled : List ℕ → Given → List Database → List Given → List Given
given_compiled out g (d ∷ ds) (h ∷ gs) = (if bytes_eq (database_file d) out then g else h) ∷ given_compiled out g ds gs
given_compiled out g _ gs = gs

-- law: a database of the profile may be compiled at any time, also between the runs above. It
-- gives what its sources give then, and the others what they gave, the user's changes with them.
abbrev pub CompileSteps : Type 0
CompileSteps =
    (profile : List ℕ) (d : Database) (ds : List Database) (own : OwnValues) (gs : List Given)
    (out : List ℕ) (lock_names : List (List ℕ)) (names : List (List ℕ)) (g : Given) (old new : List Event) →
    FolderHolds (read_content old) profile d ds own gs → IsApart out profile →
    AllByRecursion (λ other. database_file other ≢ new_name out) (d ∷ ds) → Compiled old new out lock_names names g →
    FolderHolds (read_content new) profile d ds (own_compiled out g d own) (given_compiled out g ds gs)

-- ---- runs that repair

-- what is salvaged of a file that opens as a database
pub record SalvageGives (content : Content) (file : List ℕ) (g : Given) : Type 0 where
  pub bytes : List ℕ
  pub there : content file ≡ Some bytes
  pub opens : IsDatabase bytes
  pub settings : Settings
  pub salvaged : IsSalvaged bytes settings
  pub gives : GivesRows settings g

-- a file was repaired: the one that was put in place gives what is salvaged
pub record Repaired (old new : List Event) (file out : List ℕ) (g : Given) : Type 0 where
  pub salvage : SalvageGives (read_content old) file g
  pub put : IsPut old new out g

-- laws, as of `compile`
abbrev pub RepairGives : Type 0
RepairGives =
    (file out : List ℕ) (input : Input) (old new : List Event) (output : Output) → RanCalmly (repair file out) input old new output →
    ((output.status ≡ 0) × ((g : Given) × Repaired old new file out g)) ⊎ ((output.status ≡ 1) × (new ≡ old))

abbrev pub RepairSteps : Type 0
RepairSteps =
    (profile : List ℕ) (d : Database) (ds : List Database) (own : OwnValues) (gs : List Given) (file out : List ℕ) (g : Given) (old new : List Event) →
    FolderHolds (read_content old) profile d ds own gs → IsApart out profile →
    AllByRecursion (λ other. database_file other ≢ new_name out) (d ∷ ds) → Repaired old new file out g →
    FolderHolds (read_content new) profile d ds (own_compiled out g d own) (given_compiled out g ds gs)
