-- The names of the items of a sound database's table of locks are its locks, as far as they are paths.
use Rattle.std.specs.Prelude.{IfSome, IfNone, option_map, string_bytes}
use Rattle.std.proofs.Common.{◌≡◌, ◌<◌, ◌||◌, ℕ, true, false, List, [], length, Option, Some, None, refl, sym, ap, ◌∙◌, subst, arith}
use Rattle.std.specs.Coded.{coded_list, coded_ℕ}
use Rattle.std.specs.FinMap.{keys}
use Rattle.std.specs.List.{list_any}
use Rattle.std.specs.Str.{bytes_eq}
use Rattle.std.specs.declared.alloc.Global.{Global}
use Rattle.std.specs.declared.string.String.{String}
use Rattle.std.proofs.Math.Bool.{Bool-set, or-false}
use Rattle.std.proofs.Math.Logic.{∥∥₁_elim}
use Rattle.std.proofs.lemmas.Bool.{or_left}
use base.Stored.{Coded-set}
use Rattle.dconf_model.specs.Names.{HasName, name_of}
use Rattle.dconf_model.specs.Paths.{is_path}
use Rattle.dconf_model.specs.Searchable.{IsSearchable}
use Rattle.dconf_model.specs.Table.{Table as Region, item_count}
use Rattle.dconf_model.proofs.ComputedNames.{name_of_named, named_of_name}
use Rattle.dconf_model.proofs.ParentLaws.{by_bool}
use Rattle.dconf_model.proofs.PathMaps.{key_in, same_bool, no_truth}
use Rattle.dconf_model.proofs.RowLaws.{counted}
use Rattle.dconf_model.proofs.SameBytes.{same_path, path_itself}
use Rattle.gvdb_read.specs.declared.table.Table.{Table}
use Rattle.gvdb_read.specs.Tables.{region}
use Rattle.gvdb_write.specs.Salvaged.{HasNoShortText}
use Rattle.dconf_layers.specs.declared.layer.Layer.{Layer}
use Rattle.dconf_layers.specs.LayerSettings.{locks_of, settings_of}
use Rattle.dconf_layers.specs.LayerRows.{lock_name, lock_count, lock_name_at}
use Rattle.dconf_layers.specs.SoundTables.{AreOfSoundDatabase}
use Rattle.dconf_layers.proofs.EntryLaws.{name_utf8, short_path}
use Rattle.dconf_layers.proofs.PathTests.{any_gathered, any_of_gathered}
use Rattle.dconf_layers.proofs.SoundLayers.{item_of_lock, locks_at, none_is_named, said_of, settings_at}
use Rattle.dconf_model.specs.Databases.{gathered}

-- those of so many items, in their order
abbrev pub lock_names : Option Table → ℕ → List (List ℕ)
lock_names locks n = gathered (lock_name_at locks) n

-- ---- what the name of an item is found to be

no_lock : (u : Region) (i : ℕ) (o : Option (List ℕ)) → ((name : List ℕ) → o ≡ Some name → 65535 < length name) → lock_name o ≡ []
no_lock u i None long = refl
no_lock u i (Some name) long =
    by_bool (is_path name) (lock_name (Some name) ≡ [])
    (λ is. absurd (let a = short_path name is in let b = long name refl in omega (arith, a, b)))
    (λ other. rw other refl)

found_lock : (u : Region) (i : ℕ) (found : Option (String Global)) → IsSearchable u →
    IfSome found (λ name. HasName u i (string_bytes name)) → IfNone found (HasNoShortText u i) → lock_name (option_map string_bytes found) ≡ lock_name (name_of u i)
found_lock u i (Some name) s some none = ap lock_name (sym (name_of_named u i (string_bytes name) some))
found_lock u i None s some none =
    sym (no_lock u i (name_of u i) (λ name e. let h = named_of_name u i name e in none name h (name_utf8 u i name s h)))

pub found_lock_in : (values locks : Table) (i : ℕ) (found : Option (String Global)) → ∥ AreOfSoundDatabase values (Some locks) ∥₁ →
    IfSome found (λ name. HasName (region locks) i (string_bytes name)) → IfNone found (HasNoShortText (region locks) i) →
    lock_name (option_map string_bytes found) ≡ lock_name (name_of (region locks) i)
found_lock_in values locks i found h some none =
    ∥∥₁_elim h (Coded-set (coded_list (coded_list coded_ℕ)) _ _)
    (λ o. found_lock (region locks) i found ((locks_at (region values) (region locks) o.sound o.locks_are).holds.searchable) some none)

-- ---- the names are the locks

lock_given : (p : List ℕ) (o : Option (List ℕ)) → list_any (bytes_eq p) (lock_name o) ≡ true → (o ≡ Some p) × (is_path p ≡ true)
lock_given p None e = absurd (no_truth e)
lock_given p (Some name) e =
    by_bool (is_path name) ((Some name ≡ Some p) × (is_path p ≡ true))
    (λ is.
    let there : (bytes_eq p name || false) ≡ true = rw is at e in
    let same : p ≡ name = same_path p name (sym (or-false (bytes_eq p name)) ∙ there) in
    (ap (λ (n : List ℕ). Some n) (sym same), ap is_path same ∙ is))
    (λ other. absurd (let none : false ≡ true = rw other at e in no_truth none))

lock_listed : (p : List ℕ) → is_path p ≡ true → list_any (bytes_eq p) (lock_name (Some p)) ≡ true
lock_listed p is = rw is (or_left (bytes_eq p p) false (path_itself p p refl))

locks_named : (values : Table) (locks : Option Table) (p : List ℕ) → AreOfSoundDatabase values locks →
    list_any (bytes_eq p) (lock_names locks (lock_count locks)) ≡ list_any (bytes_eq p) (keys (settings_at (region values)).locks)
locks_named values None p o =
    let m = (settings_at (region values)).locks in
    same_bool false (list_any (bytes_eq p) (keys m)) (λ e. absurd (no_truth e))
    (λ e. absurd (none_is_named (region values) p o.sound o.locks_are ((said_of values None o p).0 (key_in m p ∙ e)).1))
locks_named values (Some locks) p o =
    let t = region values in
    let u = region locks in
    let m = (settings_at t).locks in
    let at = locks_at t u o.sound o.locks_are in
    same_bool (list_any (bytes_eq p) (lock_names (Some locks) (item_count u))) (list_any (bytes_eq p) (keys m))
    (λ e.
    let h = any_of_gathered p (lock_name_at (Some locks)) (item_count u) e in
    let given = lock_given p (name_of u h.0) h.2 in
    let named = subst (λ (u : Region). HasName u h.0 p) at.is (named_of_name u h.0 p given.0) in
    sym (key_in m p) ∙ (said_of values (Some locks) o p).1 (given.1, (o.locks_are.0, at.named, (h.0, named))))
    (λ e.
    let said = (said_of values (Some locks) o p).0 (key_in m p ∙ e) in
    let item = item_of_lock t u p o.sound o.locks_are said.1 in
    any_gathered p (lock_name_at (Some locks)) item.0 (item_count u) (counted u item.0 p item.1)
    (ap (λ (found : Option (List ℕ)). list_any (bytes_eq p) (lock_name found)) (name_of_named u item.0 p item.1) ∙ lock_listed p said.0))

pub locks_of_layer : (layer : Layer) (p : List ℕ) → list_any (bytes_eq p) (lock_names (locks_of layer) (lock_count (locks_of layer))) ≡ list_any (bytes_eq p) (keys (settings_of layer).locks)
locks_of_layer layer p = ∥∥₁_elim layer.sound (Bool-set _ _) (λ o. locks_named layer.values (locks_of layer) p o)
