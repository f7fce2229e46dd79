-- Layers of settings, the databases of a profile: which value of a path is seen, and what a directory has. dconf(7),
-- "Profiles" and "Locks". The first layer's locks don't count. A lock of a later layer hides the values of the layers
-- before it.
use Rattle.std.specs.Prelude.{◌≡◌, ◌≢◌, ◌⊎◌, ℕ, ◌+◌, List, [], ◌∷◌, ◌++◌, length, take, drop, Contains, Option, Some, None, Bool, true, false, nat_lt, if◌then◌else◌, option_map, option_and_then, filter, flat_map, is_some, ◌==◌}
use Rattle.std.specs.List.{list_any}
use Rattle.std.specs.FinMap.{empty, get, keys}
use Rattle.gv_model.specs.Tree.{Tree}
use Rattle.dconf_model.specs.Settings.{Settings}
use Rattle.dconf_model.specs.Paths.{first_part}
use Rattle.dconf_model.specs.Locks.{covers, is_below}
use Rattle.dconf_model.specs.Order.{listing}
use Rattle.dconf_model.specs.Values.{held_value}

-- the layers, the first first, and whether the first may be written
pub record Layers : Type 0 where
  pub layers : List Settings
  pub writable : Bool

-- ---- locks

-- one of the layer's locks covers the path
abbrev pub locks_path : List ℕ → Settings → Bool
locks_path path s = list_any (λ lock. covers lock path) (keys s.locks)

abbrev pub later_or : ℕ → ℕ → ℕ
later_or later here = if later == 0 then here else later

-- the greatest index, counted from this one, of a layer that has P; else 0
abbrev pub greatest_from : ℕ → (Settings → Bool) → List Settings → ℕ
greatest_from from P [] = 0
greatest_from from P (s ∷ more) = later_or (greatest_from (from + 1) P more) (if P s then from else 0)

-- the greatest index of at least 1 whose layer locks the path; else 0
abbrev pub level : Layers → List ℕ → ℕ
level l path = greatest_from 1 (locks_path path) (drop 1 l.layers)

abbrev pub is_locked : Layers → List ℕ → Bool
is_locked l path = nat_lt 0 (level l path)

-- ---- values

-- a layer's index, and the bytes that it has at a path
abbrev pub Place : Type 0
Place = ℕ × List ℕ

abbrev pub place_or : ℕ → Option (List ℕ) → Option Place → Option Place
place_or i (Some bytes) later = Some (i, bytes)
place_or i None later = later

-- the first layer that has the path, its index counted from this one
abbrev pub first_from : ℕ → List Settings → List ℕ → Option Place
first_from i [] path = None
first_from i (s ∷ more) path = place_or i (get s.values path) (first_from (i + 1) more path)

-- where the value of a path is: in the first layer from the level on that has the path
abbrev pub place_of : Layers → List ℕ → Option Place
place_of l path = first_from (level l path) (drop (level l path) l.layers) path

abbrev pub origin : Layers → List ℕ → Option ℕ
origin l path = option_map (λ p. p.0) (place_of l path)

-- the bytes that are seen, and the value that they hold
abbrev pub visible_bytes : Layers → List ℕ → Option (List ℕ)
visible_bytes l path = option_map (λ p. p.1) (place_of l path)

abbrev pub visible : Layers → List ℕ → Option Tree
visible l path = option_and_then held_value (visible_bytes l path)

-- ---- without the user's values

abbrev pub emptied : List Settings → List Settings
emptied [] = []
emptied (s ∷ more) = record { values = empty; locks = s.locks } ∷ more

-- a first layer that may be written, emptied
abbrev pub without_user : Layers → Layers
without_user l = if l.writable then record { layers = emptied l.layers; writable = true } else l

-- ---- listings

-- of each path that starts with the directory, the first part of what follows it
abbrev pub parts_below : List ℕ → List (List ℕ) → List (List ℕ)
parts_below directory [] = []
parts_below directory (path ∷ more) =
    if is_below path directory then first_part (drop (length directory) path) ∷ parts_below directory more else parts_below directory more

abbrev pub all_paths : List Settings → List (List ℕ)
all_paths layers = flat_map (λ s. keys s.values) layers

abbrev pub all_locks : List Settings → List (List ℕ)
all_locks layers = flat_map (λ s. keys s.locks) layers

-- what a directory has in any layer, locks aside
abbrev pub child_names : Layers → List ℕ → List (List ℕ)
child_names l directory = listing (parts_below directory (all_paths l.layers))

-- the locks of the layers from 1 on that start with the directory
abbrev pub locks_below : Layers → List ℕ → List (List ℕ)
locks_below l directory = listing (filter (λ lock. is_below lock directory) (all_locks (drop 1 l.layers)))

-- whether a path has a value
abbrev pub has_value : Layers → List ℕ → Bool
has_value l path = is_some (visible_bytes l path)

-- the paths below a directory that have a value
abbrev pub paths_below : Layers → List ℕ → List (List ℕ)
paths_below l directory = listing (filter (λ path. if is_below path directory then has_value l path else false) (all_paths l.layers))

-- ---- law

-- What is seen otherwise through layers that are the same but for the first, or is locked in one
-- way alone, is a key of one of the first two.
abbrev pub FirstKeysAreEnough : Type 0
FirstKeysAreEnough =
    (l m : Layers) (path : List ℕ) → drop 1 l.layers ≡ drop 1 m.layers →
    (is_locked l path ≢ is_locked m path) ⊎ (visible l path ≢ visible m path) →
    Contains (all_paths (take 1 l.layers) ++ all_paths (take 1 m.layers)) path
