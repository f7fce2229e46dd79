-- What the tables of a sound database give of the settings that it says.
use Rattle.std.specs.Option.{unwrap_or}
use Rattle.std.specs.Prelude.{IsTrue, IfSome, IfNone, codes, is_some, option_map}
use Rattle.std.proofs.Common.{◌≡◌, ◌↔◌, ℕ, Bool, true, false, List, Option, Some, None, refl, sym, ap, ◌∙◌, subst}
use Rattle.std.specs.FinMap.{get, keys, contains_key}
use Rattle.std.specs.Borrow.{Bor}
use Rattle.std.specs.Coded.{coded_option, coded_list, coded_ℕ}
use Rattle.std.proofs.Math.Bool.{Bool-set}
use Rattle.std.proofs.Math.Logic.{∥∥₁_elim}
use base.Stored.{Coded-set}
use Rattle.dconf_model.specs.Locks.{covers}
use Rattle.dconf_model.specs.Layers.{locks_path}
use Rattle.dconf_model.specs.Opening.{IsDatabase, root_of}
use Rattle.dconf_model.specs.Paths.{is_key_path, is_path}
use Rattle.dconf_model.specs.Settings.{Settings}
use Rattle.dconf_model.specs.Table.{Table as Region}
use Rattle.dconf_model.specs.Table.{table_of, value_kind, table_kind, key}
use Rattle.dconf_model.specs.Names.{HasName, IsRow, Rows}
use Rattle.dconf_model.specs.Search.{Finds}
use Rattle.dconf_model.specs.Sound.{IsSound}
use Rattle.dconf_model.specs.SoundLaws.{HoldsLocksAlone}
use Rattle.dconf_model.specs.Databases.{IsLayer, NamesLock, Says, settings_in}
use Rattle.dconf_model.proofs.LaidNames.{one_name}
use Rattle.dconf_model.proofs.PathMaps.{key_in, passes, any_passes, same_bool, no_truth}
use Rattle.dconf_model.proofs.RowLaws.{counted, one_item}
use Rattle.dconf_model.proofs.SettingsIn.{says_what_is_in_it}
use Rattle.dconf_model.proofs.SoundLaws.{sound_is_searchable}
use Rattle.dconf_model.proofs.SoundRows.{sound_finds_rows, locks_are_searchable}
use Rattle.gvdb_read.specs.declared.table.Table.{Table}
use Rattle.gvdb_read.specs.Lookups.{IsFound, IsTableAt, IsValueOf}
use Rattle.gvdb_read.specs.Tables.{region}
use Rattle.dconf_layers.specs.SoundTables.{AreOfSoundDatabase, IsSoundRoot, IsTableOfLocks, locks_if}
use Rattle.gvdb_read.proofs.CoveredPaths.{HasCovering}
use Rattle.dconf_layers.proofs.CoveringPaths.{covering_is_path}

-- what is in the file
abbrev pub settings_at : Region → Settings
settings_at t = settings_in t.file

pub says : (values : Table) (locks : Option Table) → AreOfSoundDatabase values locks → Says (region values).file (settings_at (region values))
says values locks o = says_what_is_in_it (region values).file o.opens (subst IsSound o.root o.sound)

-- ---- what is found at opening

pub tables_of_root : (values : Table) (locks : Option Table) → IsSoundRoot (region values) → IsTableOfLocks (region values) locks → AreOfSoundDatabase values locks
tables_of_root values locks is locks_are = record { opens = is.opens; root = is.root; sound = is.sound; locks_are = locks_are }

pub sound_root : (file : List ℕ) (values : Table) → IsDatabase file → region values ≡ root_of file → IsSound (region values) → IsSoundRoot (region values)
sound_root file values opens root sound =
    let same : (region values).file ≡ file = ap (λ (t : Region). t.file) root in
    record { opens = subst IsDatabase (sym same) opens; root = root ∙ ap root_of (sym same); sound = sound }

pub layer_of : (file : List ℕ) (values : Table) (s : Settings) → IsDatabase file → region values ≡ root_of file → IsSound (region values) → s ≡ settings_at (region values) → IsLayer (Some file) s
layer_of file values s opens root sound is =
    let of_root = subst IsSound root sound in
    let same : (region values).file ≡ file = ap (λ (t : Region). t.file) root in
    (opens, of_root, subst (Says file) (sym (is ∙ ap settings_in same)) (says_what_is_in_it file opens of_root))

-- the table of locks that is there
pub there_is : (there : Bool) (own locks : Table) → locks_if there own ≡ Some locks → (there ≡ true) × (own ≡ locks)
there_is true own locks e = (refl, ap (λ o. unwrap_or o own) e)
there_is false own locks e = absurd (no_truth (ap is_some e))

-- ---- values

pub value_is_found : (values : Table) (locks : Option Table) (path bytes : List ℕ) → AreOfSoundDatabase values locks → IsValueOf (region values) path bytes →
    get (settings_at (region values)).values path ≡ Some bytes
value_is_found values locks path bytes o h =
    let row = ((sound_finds_rows (region values) o.sound).found path value_kind h.0).0 h.1 in
    ((says values locks o).values path bytes).0 (subst (λ (t : Region). Rows t path value_kind bytes) o.root (h.0, row, sym h.2))

no_value : (t : Region) (path : List ℕ) (o : Option (List ℕ)) → ((bytes : List ℕ) → o ≡ Some bytes → Rows t path value_kind bytes) → ((i : ℕ) → ¬ IsRow t path value_kind i) → o ≡ None
no_value t path None row none = refl
no_value t path (Some bytes) row none = let r = row bytes refl in absurd (none r.0 r.1)

pub value_is_missed : (values : Table) (locks : Option Table) (path : List ℕ) → AreOfSoundDatabase values locks → Finds (region values) path value_kind None →
    get (settings_at (region values)).values path ≡ None
value_is_missed values locks path o h =
    let t = region values in
    no_value t path (get (settings_at t).values path)
    (λ bytes e. subst (λ (t : Region). Rows t path value_kind bytes) (sym o.root) (((says values locks o).values path bytes).1 e))
    (((sound_finds_rows t o.sound).missed path value_kind).0 h)

-- ---- locks

-- `.locks` and its table
pub record IsLocksAt (t u : Region) (i : ℕ) : Type 0 where
  pub named : HasName t i (codes ".locks")
  pub holds : HoldsLocksAlone u
  pub is : u ≡ table_of t i

pub locks_at : (t u : Region) → IsSound t → (h : IsTableAt t (codes ".locks") u) → IsLocksAt t u h.0
locks_at t u sound h =
    let row = ((sound_finds_rows t sound).found (codes ".locks") table_kind h.0).0 h.1 in
    let law = locks_are_searchable t h.0 sound row.named in
    record { named = row.named; holds = subst HoldsLocksAlone (sym h.3) law.1; is = h.3 }

pub lock_is_named : (t u : Region) (name : List ℕ) → IsSound t → IsTableAt t (codes ".locks") u → IsFound u name value_kind → NamesLock t name
lock_is_named t u name sound h found =
    let at = locks_at t u sound h in
    let row = (at.holds.finds.found name value_kind found.0).0 found.1 in
    (h.0, at.named, (found.0, subst (λ (u : Region). HasName u found.0 name) at.is row.named))

pub item_of_lock : (t u : Region) (name : List ℕ) → IsSound t → IsTableAt t (codes ".locks") u → NamesLock t name → (j : ℕ) × HasName u j name
item_of_lock t u name sound h names =
    let at = locks_at t u sound h in
    let same : names.0 ≡ h.0 = one_item t (codes ".locks") names.0 h.0 (sound_is_searchable t sound) names.1 at.named in
    let j = names.2.0 in
    (j, subst (λ (u : Region). HasName u j name) (ap (λ i. table_of t i) same ∙ sym at.is) names.2.1)

pub lock_is_found : (t u : Region) (name : List ℕ) → IsSound t → IsTableAt t (codes ".locks") u → NamesLock t name → IsFound u name value_kind
lock_is_found t u name sound h names =
    let at = locks_at t u sound h in
    let item = item_of_lock t u name sound h names in
    let j = item.0 in
    let named : HasName u j name = item.1 in
    let here = counted u j name named in
    let own = (at.holds.rows (key u j) value_kind j).1 (here, refl, refl) in
    let is : name ≡ key u j = one_name u j name (key u j) named own.named in
    (j, (at.holds.finds.found name value_kind j).1 ((at.holds.rows name value_kind j).1 (here, is, refl)))

-- where there is no table of locks nothing is locked
pub none_is_named : (t : Region) (name : List ℕ) → IsSound t → ((u : Region) → ¬ IsTableAt t (codes ".locks") u) → ¬ NamesLock t name
none_is_named t name sound none names =
    let i = names.0 in
    let law = locks_are_searchable t i sound names.1 in
    none (table_of t i) (i, ((sound_finds_rows t sound).found (codes ".locks") table_kind i).1 law.0, law.1.opens, refl)

covered : (t : Region) (s : Settings) (path : List ℕ) → ((p : List ℕ) → IsTrue (contains_key s.locks p) ↔ (IsTrue (is_path p) × NamesLock t p)) → IsTrue (is_key_path path) →
    locks_path path s ≡ true → HasCovering (NamesLock t) path
covered t s path says key e =
    let h = passes (λ lock. covers lock path) (keys s.locks) e in
    (h.0, h.2, ((says h.0).0 (key_in s.locks h.0 ∙ h.1)).1)

covering : (t : Region) (s : Settings) (path : List ℕ) → ((p : List ℕ) → IsTrue (contains_key s.locks p) ↔ (IsTrue (is_path p) × NamesLock t p)) → IsTrue (is_key_path path) →
    HasCovering (NamesLock t) path → locks_path path s ≡ true
covering t s path says key h =
    any_passes (λ lock. covers lock path) (keys s.locks) h.0 (sym (key_in s.locks h.0) ∙ (says h.0).1 (covering_is_path h.0 path h.1 key, h.2)) h.1

pub said_of : (values : Table) (locks : Option Table) → AreOfSoundDatabase values locks → (p : List ℕ) →
    IsTrue (contains_key (settings_at (region values)).locks p) ↔ (IsTrue (is_path p) × NamesLock (region values) p)
said_of values locks o p =
    subst (λ (t : Region). IsTrue (contains_key (settings_at (region values)).locks p) ↔ (IsTrue (is_path p) × NamesLock t p)) (sym o.root) ((says values locks o).locks p)

pub lock_is_searched : (values locks : Table) (path : List ℕ) (b : Bool) → AreOfSoundDatabase values (Some locks) → IsTrue (is_key_path path) →
    (IsTrue b ↔ ((name : List ℕ) × IsTrue (covers name path) × IsFound (region locks) name value_kind)) → b ≡ locks_path path (settings_at (region values))
lock_is_searched values locks path b o key h =
    let t = region values in
    let s = settings_at t in
    let said = said_of values (Some locks) o in
    same_bool b (locks_path path s)
    (λ e. let f = h.0 e in covering t s path said key (f.0, f.1, lock_is_named t (region locks) f.0 o.sound o.locks_are f.2))
    (λ e. let f = covered t s path said key e in h.1 (f.0, f.1, lock_is_found t (region locks) f.0 o.sound o.locks_are f.2))

pub nothing_is_locked : (values : Table) (path : List ℕ) → AreOfSoundDatabase values None → IsTrue (is_key_path path) → false ≡ locks_path path (settings_at (region values))
nothing_is_locked values path o key =
    let t = region values in
    let s = settings_at t in
    same_bool false (locks_path path s) (λ e. absurd (no_truth e))
    (λ e. let f = covered t s path (said_of values None o) key e in absurd (none_is_named t f.0 o.sound o.locks_are f.2))

-- ---- what a search answers

pub found_bytes : (values : Table) (locks : Option Table) (path : List ℕ) (found : Option (Bor (List ℕ))) → AreOfSoundDatabase values locks →
    IfSome found (λ bytes. IsValueOf (region values) path bytes.now) → IfNone found (Finds (region values) path value_kind None) →
    option_map (λ bytes. bytes.now) found ≡ get (settings_at (region values)).values path
found_bytes values locks path (Some bytes) o some none = sym (value_is_found values locks path bytes.now o some)
found_bytes values locks path None o some none = sym (value_is_missed values locks path o none)

-- the same of a database whose fact is truncated: equations of bytes and of tests have one proof
pub found_in : (values : Table) (locks : Option Table) (path : List ℕ) (found : Option (Bor (List ℕ))) → ∥ AreOfSoundDatabase values locks ∥₁ →
    IfSome found (λ bytes. IsValueOf (region values) path bytes.now) → IfNone found (Finds (region values) path value_kind None) →
    option_map (λ bytes. bytes.now) found ≡ get (settings_at (region values)).values path
found_in values locks path found h some none =
    ∥∥₁_elim h (Coded-set (coded_option (coded_list coded_ℕ)) _ _) (λ o. found_bytes values locks path found o some none)

pub searched_in : (values locks : Table) (path : List ℕ) (b : Bool) → ∥ AreOfSoundDatabase values (Some locks) ∥₁ → IsTrue (is_key_path path) →
    (IsTrue b ↔ ((name : List ℕ) × IsTrue (covers name path) × IsFound (region locks) name value_kind)) → b ≡ locks_path path (settings_at (region values))
searched_in values locks path b h key e = ∥∥₁_elim h (Bool-set _ _) (λ o. lock_is_searched values locks path b o key e)

pub unlocked_in : (values : Table) (path : List ℕ) → ∥ AreOfSoundDatabase values None ∥₁ → IsTrue (is_key_path path) → false ≡ locks_path path (settings_at (region values))
unlocked_in values path h key = ∥∥₁_elim h (Bool-set _ _) (λ o. nothing_is_locked values path o key)
