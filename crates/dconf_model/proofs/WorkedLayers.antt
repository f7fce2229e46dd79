-- Worked layers: values that are seen, locks, listings and changes.
use Rattle.std.specs.Prelude.{zero, suc, ◌≡◌, ℕ, Bool, true, false, if◌then◌else◌, List, [], ◌∷◌, Ok, Err, Some, None, codes, refl, Result, map, T, cond}
use Rattle.std.proofs.Common.{◌∙◌, ap, sym}
use Rattle.std.specs.FinMap.{get, keys, from_sorted, insert, retain_keys, get-from_sorted, entries-from_sorted, is_sorted, find, get-insert, get-empty, empty, same_map, entries-insert, put, slice_cmp-IsAntisymmetric, nat_cmp-IsAntisymmetric}
use Rattle.std.specs.Cmp.Lexicographic.{slice_cmp, nat_list_cmp_total}
use Rattle.std.specs.Ordering.{nat_cmp, is_eq}
use Rattle.std.specs.declared.cmp.Ordering.{Ordering}
use Rattle.std.specs.declared.cmp.Ordering.TheVariants.{Less, Equal, Greater}
use Rattle.gv_model.specs.Ty.Ty.{variant}
use Rattle.gv_model.specs.Tree.{Tree}
use Rattle.gv_model.specs.Tree.Trees.{none as no_tree, first as first_tree}
use Rattle.dconf_model.specs.Paths.{is_short}
use Rattle.dconf_model.specs.Paths.PathFault.{too_long}
use Rattle.dconf_model.specs.Causes.{SettingsCause}
use Rattle.dconf_model.specs.Causes.SettingsCause.{path_fault}
use Rattle.dconf_model.specs.Lines.LineReading.{wrong}
use Rattle.gv_model.specs.Tree.Tree.{node, number, text as text_value}
use Rattle.gv_model.specs.Ty.Basic.{int32, string}
use Rattle.dconf_model.specs.Settings.{Settings, AtPaths, Lock}
use Rattle.dconf_model.specs.Values.{is_storable, stored}
use Rattle.dconf_model.specs.Sources.{row_read, Assigned, AreGiven, given}
use Rattle.dconf_model.specs.Layers.{Layers, level, is_locked, place_of, origin, visible, child_names, locks_below, without_user}
use Rattle.dconf_model.specs.Locks.{is_below}
use Rattle.dconf_model.specs.Changes.{Refusal, apply, changed, with_all, RunsInParts, or_as_before}
use Rattle.dconf_model.specs.Changes.Change.{set_value, reset_value, reset_below_directory, load_values}
use Rattle.dconf_model.specs.Changes.Refusal.{too_large, not_writable, locked}
use Rattle.dconf_model.proofs.PathMaps.{no_truth, get_retained}
use Rattle.dconf_model.proofs.WorkedSources.{meaning, a, b, given_of}

abbrev Entries : Type 0
Entries = List (List ℕ × List ℕ)

abbrev lock_entry : List ℕ → List ℕ × Lock
lock_entry p = (p, tt)

-- settings of these values and locks, in order
abbrev settings : Entries → List (List ℕ) → Settings
settings values locks = record { values = from_sorted values; locks = from_sorted (map lock_entry locks) }

value_there : (es : Entries) (q : List ℕ) → T (is_sorted (slice_cmp nat_cmp) es) → get {R = slice_cmp nat_cmp} (from_sorted es) q ≡ find (slice_cmp nat_cmp) q es
value_there es q h = get-from_sorted (slice_cmp nat_cmp) es q h

paths_there : (es : Entries) → T (is_sorted (slice_cmp nat_cmp) es) → keys {R = slice_cmp nat_cmp} (from_sorted es) ≡ map (λ e. e.0) es
paths_there es h = ap (map (λ e. e.0)) (entries-from_sorted (slice_cmp nat_cmp) es h)

locks_there : (ls : List (List ℕ)) → T (is_sorted (slice_cmp nat_cmp) (map lock_entry ls)) → keys {R = slice_cmp nat_cmp} (from_sorted (map lock_entry ls)) ≡ map (λ e. e.0) (map lock_entry ls)
locks_there ls h = ap (map (λ e. e.0)) (entries-from_sorted (slice_cmp nat_cmp) (map lock_entry ls) h)

five : List ℕ → ℕ → List ℕ × List ℕ
five p n = (p, stored (number int32 n))

-- ---- a lock of a later layer

user : Entries
user = (codes "/a/k", stored (number int32 1)) ∷ []

site : Entries
site = (codes "/a/k", stored (number int32 2)) ∷ []

store : Layers
store = record { layers = settings user [] ∷ settings site (codes "/a/k" ∷ []) ∷ []; writable = true }

user_value : (q : List ℕ) → get {R = slice_cmp nat_cmp} (from_sorted user) q ≡ find (slice_cmp nat_cmp) q user
unfolding user
user_value q = value_there user q tt

site_value : (q : List ℕ) → get {R = slice_cmp nat_cmp} (from_sorted site) q ≡ find (slice_cmp nat_cmp) q site
unfolding site
site_value q = value_there site q tt

site_locks : keys {R = slice_cmp nat_cmp} (from_sorted (map lock_entry (codes "/a/k" ∷ []))) ≡ codes "/a/k" ∷ []
site_locks = locks_there (codes "/a/k" ∷ []) tt

store_level : level store (codes "/a/k") ≡ 1
unfolding store
store_level = rw site_locks refl

store_locked : is_locked store (codes "/a/k") ≡ true
store_locked = rw store_level refl

store_place : place_of store (codes "/a/k") ≡ Some (1, stored (number int32 2))
unfolding store site
store_place = rw (store_level, site_value (codes "/a/k")) refl

read_locked : visible store (codes "/a/k") ≡ Some (number int32 2)
unfolding meaning
read_locked = rw store_place refl

origin_locked : origin store (codes "/a/k") ≡ Some 1
origin_locked = rw store_place refl

write_locked : apply store (set_value (codes "/a/k") (number int32 3)) ≡ Err (locked 0)
unfolding store
write_locked = rw store_locked refl

reset_locked : apply store (reset_value (codes "/a/k")) ≡ Err (locked 0)
unfolding store
reset_locked = rw store_locked refl

after_reset_below : Result Layers Refusal
after_reset_below = apply store (reset_below_directory (codes "/a/"))

first_of : Result Layers Refusal → AtPaths (List ℕ)
first_of (Ok l) = values_of l.layers
  where
    values_of : List Settings → AtPaths (List ℕ)
    values_of [] = empty
    values_of (s ∷ more) = s.values
first_of (Err e) = empty

-- the user's value of a locked key stays
locked_stays : get (first_of after_reset_below) (codes "/a/k") ≡ Some (stored (number int32 1))
unfolding after_reset_below first_of user store
locked_stays = rw (get_retained (from_sorted user) (λ path. if is_below path (codes "/a/") then is_locked store path else true) (codes "/a/k"), store_locked, user_value (codes "/a/k")) refl

user_paths : keys {R = slice_cmp nat_cmp} (from_sorted user) ≡ codes "/a/k" ∷ []
unfolding user
user_paths = paths_there user tt

site_paths : keys {R = slice_cmp nat_cmp} (from_sorted site) ≡ codes "/a/k" ∷ []
unfolding site
site_paths = paths_there site tt

list_a : child_names store (codes "/a/") ≡ codes "k" ∷ []
unfolding store
list_a = rw (user_paths, site_paths) refl

-- ---- a lock hides a value before it

base : Layers
base = record { layers = settings [] [] ∷ settings site [] ∷ settings [] (codes "/a/k" ∷ []) ∷ []; writable = true }

no_paths : keys {X = List ℕ} {R = slice_cmp nat_cmp} (from_sorted []) ≡ []
no_paths = paths_there [] tt

no_locks : keys {X = Lock} {R = slice_cmp nat_cmp} (from_sorted []) ≡ []
no_locks = locks_there [] tt

base_level : level base (codes "/a/k") ≡ 2
unfolding base
base_level = rw site_locks refl

base_hidden : visible base (codes "/a/k") ≡ None
unfolding base
base_hidden = rw (base_level, value_there [] (codes "/a/k") tt) refl

base_listed : child_names base (codes "/a/") ≡ codes "k" ∷ []
unfolding base
base_listed = rw (no_paths, site_paths) refl

base_locks : locks_below base (codes "/") ≡ codes "/a/k" ∷ []
unfolding base
base_locks = rw (no_locks, site_locks) refl

-- ---- the same store without the lock

open_store : Layers
open_store = record { layers = settings user [] ∷ settings site [] ∷ []; writable = true }

open_level : level open_store (codes "/a/k") ≡ 0
unfolding open_store
open_level = rw no_locks refl

read_open : visible open_store (codes "/a/k") ≡ Some (number int32 1)
unfolding meaning open_store user
read_open = rw (open_level, user_value (codes "/a/k")) refl

origin_open : origin open_store (codes "/a/k") ≡ Some 0
unfolding open_store user
origin_open = rw (open_level, user_value (codes "/a/k")) refl

default_level : level (without_user open_store) (codes "/a/k") ≡ 0
unfolding open_store
default_level = rw no_locks refl

default_open : visible (without_user open_store) (codes "/a/k") ≡ Some (number int32 2)
unfolding meaning open_store site
default_open = rw (default_level, get-empty (slice_cmp nat_cmp) (codes "/a/k"), site_value (codes "/a/k")) refl

-- ---- nothing is written where the first database is no user's

site_alone : Layers
site_alone = record { layers = settings site [] ∷ []; writable = false }

write_site : apply site_alone (set_value (codes "/a/k") (number int32 1)) ≡ Err not_writable
unfolding site_alone
write_site = refl

-- ---- loading rows of which one is locked

row : List ℕ → ℕ → Assigned
row p n = record { path = p; value = number int32 n }

rows : List Assigned
rows = row (codes "/a/j") 7 ∷ row (codes "/a/k") 8 ∷ []

open_j : is_locked store (codes "/a/j") ≡ false
unfolding store
open_j = rw site_locks refl

load_locked : apply store (load_values rows false) ≡ Err (locked 1)
unfolding store rows row
load_locked = rw (open_j, store_locked) refl

load_forced : apply store (load_values rows true) ≡ Ok (changed (with_all (row (codes "/a/j") 7 ∷ [])) store)
unfolding meaning store rows row
load_forced = rw (open_j, store_locked) refl

forced_value : get (with_all (row (codes "/a/j") 7 ∷ []) (from_sorted user)) (codes "/a/j") ≡ Some (stored (number int32 7))
unfolding row
forced_value = rw (get-insert nat_list_cmp_total (from_sorted user) (codes "/a/j") (stored (number int32 7)) (codes "/a/j")) refl

-- ---- a lock of a directory

j_one : Entries
j_one = (codes "/a/j", stored (number int32 1)) ∷ []

directory_locked : Layers
directory_locked = record { layers = settings j_one [] ∷ settings site (codes "/a/" ∷ []) ∷ []; writable = true }

directory_locks : keys {R = slice_cmp nat_cmp} (from_sorted (map lock_entry (codes "/a/" ∷ []))) ≡ codes "/a/" ∷ []
directory_locks = locks_there (codes "/a/" ∷ []) tt

j_paths : keys {R = slice_cmp nat_cmp} (from_sorted j_one) ≡ codes "/a/j" ∷ []
unfolding j_one
j_paths = paths_there j_one tt

j_level : level directory_locked (codes "/a/j") ≡ 1
unfolding directory_locked
j_level = rw directory_locks refl

ab_level : level directory_locked (codes "/ab") ≡ 0
unfolding directory_locked
ab_level = rw directory_locks refl

j_hidden : visible directory_locked (codes "/a/j") ≡ None
unfolding directory_locked site
j_hidden = rw (j_level, site_value (codes "/a/j")) refl

j_write : apply directory_locked (set_value (codes "/a/j") (number int32 3)) ≡ Err (locked 0)
unfolding directory_locked
j_write = rw j_level refl

ab_write : apply directory_locked (set_value (codes "/ab") (number int32 3)) ≡ Ok (changed (with_all (row (codes "/ab") 3 ∷ [])) directory_locked)
unfolding meaning directory_locked row
ab_write = rw ab_level refl

both_listed : child_names directory_locked (codes "/a/") ≡ codes "j" ∷ codes "k" ∷ []
unfolding directory_locked
both_listed = rw (j_paths, site_paths) refl

one_lock : locks_below directory_locked (codes "/") ≡ codes "/a/" ∷ []
unfolding directory_locked
one_lock = rw directory_locks refl

lock_itself : locks_below directory_locked (codes "/a/") ≡ codes "/a/" ∷ []
unfolding directory_locked
lock_itself = rw directory_locks refl

lock_above : locks_below directory_locked (codes "/a/k/") ≡ []
unfolding directory_locked
lock_above = rw directory_locks refl

-- the lock of everything
root_locked : Layers
root_locked = record { layers = settings [] [] ∷ settings [] (codes "/" ∷ []) ∷ []; writable = true }

root_write : apply root_locked (set_value (codes "/q") (number int32 1)) ≡ Err (locked 0)
unfolding root_locked
root_write = rw (locks_there (codes "/" ∷ []) tt) refl

-- ---- runs in parts

pub runs_in_parts : RunsInParts
runs_in_parts l [] second = refl
runs_in_parts l (change ∷ more) second = runs_in_parts (or_as_before l (apply l change)) more second

-- ---- what two keyfiles give, opened by itself

given_store : Settings → Layers
given_store s = record { layers = s ∷ []; writable = false }

given_level : (s : Settings) (path : List ℕ) → level (given_store s) path ≡ 0
unfolding given_store
given_level s path = refl

-- whatever settings they are, the later name wins
later_name_is_read : (s : Settings) → AreGiven (given_of (given (b ∷ a ∷ []) [])) s → visible (given_store s) (codes "/a/k") ≡ Some (number int32 2)
unfolding meaning given_store given_of a b
later_name_is_read s g = rw (given_level s (codes "/a/k"), g.values (codes "/a/k")) refl

given_values : Entries
given_values = (codes "/a/j", stored (number int32 3)) ∷ (codes "/a/k", stored (number int32 2)) ∷ (codes "/r", stored (text_value string (codes "x"))) ∷ []

given_paths : keys {R = slice_cmp nat_cmp} (from_sorted given_values) ≡ codes "/a/j" ∷ codes "/a/k" ∷ codes "/r" ∷ []
unfolding given_values
given_paths = paths_there given_values tt

given_root : child_names (given_store (settings given_values [])) (codes "/") ≡ codes "a/" ∷ codes "r" ∷ []
unfolding given_store
given_root = rw given_paths refl

given_directory : child_names (given_store (settings given_values [])) (codes "/a/") ≡ codes "j" ∷ codes "k" ∷ []
unfolding given_store
given_directory = rw given_paths refl

-- ---- a directory whose last key is reset

-- a map of one path is empty where a test takes that path away
gone : (k v : List ℕ) (p : List ℕ → Bool) → p k ≡ false → retain_keys {R = slice_cmp nat_cmp} (from_sorted ((k, v) ∷ [])) p ≡ from_sorted []
gone k v p away = same_map nat_list_cmp_total (slice_cmp-IsAntisymmetric nat_cmp-IsAntisymmetric) _ _ (λ q. get_retained (from_sorted ((k, v) ∷ [])) p q ∙ at q ∙ sym (value_there [] q tt))
  where
    by : (q : List ℕ) (o : Ordering) → slice_cmp nat_cmp q k ≡ o → (b : Bool) → p q ≡ b → cond b (cond (is_eq o) (Some v) None) None ≡ None
    by q Equal e true h = absurd (no_truth (sym away ∙ ap p (sym (slice_cmp-IsAntisymmetric nat_cmp-IsAntisymmetric q k e)) ∙ h))
    by q Equal e false h = refl
    by q Less e true h = refl
    by q Less e false h = refl
    by q Greater e true h = refl
    by q Greater e false h = refl

    at : (q : List ℕ) → cond (p q) (get {R = slice_cmp nat_cmp} (from_sorted ((k, v) ∷ [])) q) None ≡ None
    at q = rw (value_there ((k, v) ∷ []) q tt) (by q (slice_cmp nat_cmp q k) refl (p q) refl)

alone : Layers
alone = record { layers = settings ((codes "/a/b/k", stored (number int32 1)) ∷ []) [] ∷ []; writable = true }

abbrev keeps : List ℕ → Bool
keeps path = if is_below path (codes "/a/") then is_locked alone path else true

emptied_store : Layers
emptied_store = record { layers = record { values = retain_keys (from_sorted ((codes "/a/b/k", stored (number int32 1)) ∷ [])) keeps; locks = from_sorted (map lock_entry []) } ∷ []; writable = true }

below_is_reset : apply alone (reset_below_directory (codes "/a/")) ≡ Ok emptied_store
unfolding alone emptied_store
below_is_reset = refl

none_left : retain_keys {R = slice_cmp nat_cmp} (from_sorted ((codes "/a/b/k", stored (number int32 1)) ∷ [])) keeps ≡ from_sorted []
unfolding alone
none_left = gone (codes "/a/b/k") (stored (number int32 1)) keeps refl

list_emptied : child_names emptied_store (codes "/") ≡ []
unfolding emptied_store
list_emptied = rw (none_left, no_paths) refl

j_path : (m : AtPaths (List ℕ)) (v : List ℕ) → m ≡ from_sorted [] → keys (insert m (codes "/a/b/j") v) ≡ codes "/a/b/j" ∷ []
j_path m v none = rw (none) (ap (map (λ e. e.0)) (entries-insert nat_list_cmp_total (from_sorted []) (codes "/a/b/j") v ∙ ap (put (slice_cmp nat_cmp) (codes "/a/b/j") v) (entries-from_sorted (slice_cmp nat_cmp) [] tt)))

refilled : Layers
refilled = changed (with_all (row (codes "/a/b/j") 1 ∷ [])) emptied_store

write_again : apply emptied_store (set_value (codes "/a/b/j") (number int32 1)) ≡ Ok refilled
unfolding meaning emptied_store refilled row
write_again = refl

list_a_again : child_names refilled (codes "/a/") ≡ codes "b/" ∷ []
unfolding refilled emptied_store row
list_a_again = rw (j_path _ (stored (number int32 1)) none_left) refl

list_b_again : child_names refilled (codes "/a/b/") ≡ codes "j" ∷ []
unfolding refilled emptied_store row
list_b_again = rw (j_path _ (stored (number int32 1)) none_left) refl

-- ---- values that are too deep to be stored, and paths that are too long

-- a number within so many variants
unfoldable boxes : ℕ → Tree
boxes zero = number int32 5
boxes (suc n) = node variant (first_tree (boxes n) no_tree)

deepest_stored : is_storable (boxes 126) ≡ true
unfolding meaning boxes
deepest_stored = refl

too_deep : is_storable (boxes 127) ≡ false
unfolding meaning boxes
too_deep = refl

open_b : is_locked store (codes "/b") ≡ false
unfolding store
open_b = rw site_locks refl

write_deep : apply store (set_value (codes "/b") (boxes 127)) ≡ Err too_large
unfolding store
write_deep = rw (open_b, too_deep) refl

-- a lock comes first
write_deep_locked : apply store (set_value (codes "/a/k") (boxes 127)) ≡ Err (locked 0)
unfolding store
write_deep_locked = rw store_locked refl

-- a row that a later one replaces counts too
load_deep : apply store (load_values (record { path = codes "/b"; value = boxes 127 } ∷ row (codes "/b") 1 ∷ []) false) ≡ Err too_large
unfolding store row
load_deep = rw (open_b, too_deep) refl

long_path : (read : List ℕ → Result Tree SettingsCause) (p text : List ℕ) → is_short p ≡ false → row_read read p text ≡ wrong (path_fault too_long)
long_path read p text long = rw long refl

-- with no user's database nothing is left aside
default_unwritten : visible (without_user site_alone) (codes "/a/k") ≡ Some (number int32 2)
unfolding meaning site_alone site
default_unwritten = rw (site_value (codes "/a/k")) refl
