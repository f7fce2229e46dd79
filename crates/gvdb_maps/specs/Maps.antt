-- The settings that the collections of a map stand for, and rows in the order in which they were given.
use Rattle.std.specs.Prelude.{◌≡◌, ℕ, List, map, true, Vec, IsTrue, [], ◌∷◌, ◌++◌, if◌then◌else◌}
use Rattle.std.specs.Borrow.{Bor}
use Rattle.std.specs.List.{All, fold}
use Rattle.std.specs.BTreeMap.{BTreeMap}
use Rattle.std.specs.BTreeSet.{BTreeSet}
use Rattle.std.specs.declared.string.String.{String}
use Rattle.std.specs.declared.alloc.Global.{Global}
use Rattle.std.specs.String.{string_bytes}
use Rattle.std.specs.Cmp.Lexicographic.{slice_cmp}
use Rattle.std.specs.Ordering.{nat_cmp}
use Rattle.std.specs.FinMap.{from_entries, empty, insert}
use Rattle.std.specs.FinMap.Entries.{is_sorted}
use Rattle.dconf_model.specs.Paths.{is_path, is_key_path}
use Rattle.dconf_model.specs.Settings.{AtPaths, Lock, Settings}
use Rattle.std.specs.Str.{bytes_eq}

abbrev pub value_entries : List (String Global × Vec ℕ Global) → List (List ℕ × List ℕ)
value_entries es = map {B = List ℕ × List ℕ} (λ e. (string_bytes e.0, e.1.items)) es

abbrev pub values_of : BTreeMap (String Global) (Vec ℕ Global) → AtPaths (List ℕ)
values_of m = from_entries (value_entries m.entries)

abbrev pub lock_entries : List (String Global) → List (List ℕ × Lock)
lock_entries ks = map {B = List ℕ × Lock} (λ k. (string_bytes k, tt)) ks

abbrev pub locks_of : BTreeSet (String Global) → AtPaths Lock
locks_of s = from_entries (lock_entries s.keys)

abbrev pub settings_of : BTreeMap (String Global) (Vec ℕ Global) → BTreeSet (String Global) → Settings
settings_of m s = record { values = values_of m; locks = locks_of s }

-- ---- entries that are lent

abbrev pub path_and_bytes : Bor (List ℕ) × Bor (List ℕ) → List ℕ × List ℕ
path_and_bytes e = (e.0.now, e.1.now)

abbrev pub lent_entries : List (Bor (List ℕ) × Bor (List ℕ)) → List (List ℕ × List ℕ)
lent_entries es = map path_and_bytes es

abbrev pub sorted_settings : List (List ℕ × List ℕ) → BTreeSet (String Global) → Settings
sorted_settings es s = record { values = from_entries es; locks = locks_of s }

-- each path precedes the next
abbrev pub AreSorted : List (List ℕ × List ℕ) → Type 0
AreSorted es = is_sorted (slice_cmp nat_cmp) es ≡ true

-- ---- texts

-- the bytes of texts
abbrev pub texts : List (String Global) → List (List ℕ)
texts ts = map string_bytes ts

-- each of these is the path of a key
abbrev pub AreKeyPaths : List (List ℕ) → Type 0
AreKeyPaths paths = All (λ path. IsTrue (is_key_path path)) paths

-- each of these is the path of a key or of a directory
abbrev pub ArePaths : List (List ℕ) → Type 0
ArePaths paths = All (λ path. IsTrue (is_path path)) paths

-- a path, and the bytes of its value
abbrev pub Entry : Type 0
Entry = List ℕ × List ℕ

-- each entry's bytes at its path, in the place of those of an entry before it
abbrev pub values_after : List Entry → AtPaths (List ℕ)
values_after es = fold (λ m e. insert m e.0 e.1) empty es

-- the same values, whatever comes after
abbrev pub StandForSame : List Entry → List Entry → Type 0
StandForSame es fs = (rest : List Entry) → values_after (es ++ rest) ≡ values_after (fs ++ rest)

abbrev pub settings_of_rows : List (String Global × Vec ℕ Global) → BTreeSet (String Global) → Settings
settings_of_rows rows s = record { values = values_after (value_entries rows); locks = locks_of s }

-- of entries of one path that come one after another the last
abbrev pub kept_from : Entry → List Entry → List Entry
kept_from x [] = x ∷ []
kept_from x (y ∷ es) = if bytes_eq y.0 x.0 then kept_from y es else x ∷ kept_from y es

abbrev pub kept : List Entry → List Entry
kept [] = []
kept (x ∷ es) = kept_from x es
