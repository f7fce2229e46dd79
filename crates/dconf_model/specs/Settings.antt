-- Settings: a value at each path that has one, and the paths that are locked.
use Rattle.std.specs.Prelude.{ℕ, List, IsTrue, refl}
use Rattle.std.specs.Cmp.Lexicographic.{slice_cmp}
use Rattle.std.specs.Ordering.{nat_cmp}
use Rattle.std.specs.FinMap.{FinMap, empty, insert, contains_key, code}
use Rattle.std.specs.FinSet as set
use Rattle.std.specs.Coded.{Coded, code_by, coded×, coded_list, coded_ℕ}
use Rattle.dconf_model.specs.Paths.{is_path, is_key_path}

-- what is kept at paths, which are the bytes of texts, in their order
abbrev pub AtPaths : Type 0 → Type 0
AtPaths X = FinMap (slice_cmp nat_cmp) X

-- a lock says nothing beside the path that it occurs at
abbrev pub Lock : Type 0
Lock = Unit {0}

-- the bytes of the value at each path that has one, and a lock at each path that is locked
pub record Settings : Type 0 where
  pub values : AtPaths (List ℕ)
  pub locks : AtPaths Lock

abbrev pub settings_code : Coded Settings
settings_code =
    code_by (AtPaths (List ℕ) × AtPaths Lock)
    (coded× (code (coded_list coded_ℕ) (coded_list coded_ℕ)) (set.code (coded_list coded_ℕ)))
    (λ s. (s.values, s.locks)) (λ p. record { values = p.0; locks = p.1 }) (λ _. refl)

abbrev pub no_settings : Settings
no_settings = record { values = empty; locks = empty }

-- with this value at the path, and the same elsewhere
abbrev pub with_value : Settings → List ℕ → List ℕ → Settings
with_value s path value = record { values = insert s.values path value; locks = s.locks }

-- with this path locked, and the same elsewhere
abbrev pub with_lock : Settings → List ℕ → Settings
with_lock s path = record { values = s.values; locks = insert s.locks path tt }

-- each path that has a value is the path of a key; one that is locked may be a directory's too
pub record IsSettings (s : Settings) : Type 0 where
  pub valued : (path : List ℕ) → IsTrue (contains_key s.values path) → IsTrue (is_key_path path)
  pub locked : (path : List ℕ) → IsTrue (contains_key s.locks path) → IsTrue (is_path path)
