-- What a map of texts keeps at their bytes, as it is read.
use Rattle.std.specs.Prelude.{ℕ, List, map, IsTrue}
use Rattle.std.specs.List.{All}
use Rattle.std.specs.BTreeMap.{BTreeMap}
use Rattle.std.specs.declared.string.String.{String}
use Rattle.std.specs.declared.alloc.Global.{Global}
use Rattle.std.specs.String.{string_bytes}
use Rattle.std.specs.FinMap.{from_entries, contains_key}
use Rattle.dconf_model.specs.Paths.{is_key_path}
use Rattle.dconf_model.specs.Settings.{AtPaths}

abbrev pub entries_by : {V X : Type 0} → (V → X) → List (String Global × V) → List (List ℕ × X)
entries_by {V} {X} read es = map {B = List ℕ × X} (λ e. (string_bytes e.0, read e.1)) es

abbrev pub at_texts : {V X : Type 0} → (V → X) → BTreeMap (String Global) V → AtPaths X
at_texts read m = from_entries (entries_by read m.entries)

-- each path that something is kept at is the path of a key
abbrev pub IsAtKeys : {X : Type 0} → AtPaths X → Type 0
IsAtKeys m = (path : List ℕ) → IsTrue (contains_key m path) → IsTrue (is_key_path path)

-- each of these is at the path of a key
abbrev pub AreAtKeyPaths : {X : Type 0} → List (List ℕ × X) → Type 0
AreAtKeyPaths es = All (λ e. IsTrue (is_key_path e.0)) es
