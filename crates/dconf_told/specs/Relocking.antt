-- Which paths are told to who asks what may be written: those of which that is otherwise than before.
use Rattle.std.specs.Prelude.{◌≡◌, ◌≢◌, ℕ, Bool, true, [], ◌∷◌, List, Contains, drop, filter, map, not, string_bytes, ◌&&◌, ◌++◌, false}
use Rattle.std.specs.List.{list_any}
use Rattle.std.specs.Str.{bytes_eq}
use Rattle.dconf_model.specs.Layers.{Layers, all_locks}
use Rattle.dconf_model.specs.Locks.{covers, is_below}
use Rattle.dconf_model.specs.Order.{IsRising, listing}
use Rattle.dconf_model.specs.Paths.{starts_with_slash}
use Rattle.dconf_model.specs.Settings.{Settings}
use Rattle.dconf_seen.specs.Waiting.{may_write}
use Rattle.dconf_told.specs.declared.sides.Side.{Side}

-- Each may be written otherwise than before, a key, or a directory as a whole. Each such path is told, by itself or by a directory above
-- it; and none twice.
pub record AreRelocked (l m : Layers) (paths : List (List ℕ)) : Type 0 where
  pub rising : IsRising paths
  pub otherwise : (path : List ℕ) → Contains paths path → may_write l path ≢ may_write m path
  pub all : (path : List ℕ) → starts_with_slash path ≡ true → may_write l path ≢ may_write m path → list_any (λ told. covers told path) paths ≡ true
  pub once : (path other : List ℕ) → Contains paths path → Contains paths other → covers path other ≡ true → path ≡ other

-- ---- words of private parts

-- all locks of these layers, in byte order
abbrev pub locks_in : List Settings → List (List ℕ)
locks_in layers = listing (filter (λ lock. is_below lock (47 ∷ [])) (all_locks layers))

-- what may be written on one side: nothing, or all that these locks leave
abbrev pub locks_beside : Side → List (List ℕ)
locks_beside s = map string_bytes s.locks.now

abbrev pub may_beside : Side → List ℕ → Bool
may_beside s path = s.writable && not (list_any (λ lock. covers lock path) (locks_beside s))

abbrev pub is_other : Bool → Bool → Bool
is_other true may = not may
is_other false may = may

abbrev pub other_beside : Side → Side → List ℕ → Bool
other_beside s t path = is_other (may_beside s path) (may_beside t path)

-- another path covers it
abbrev pub hides : List ℕ → List ℕ → Bool
hides path other = not (bytes_eq other path) && covers other path

abbrev pub is_covered : List (List ℕ) → List ℕ → Bool
is_covered paths path = list_any (hides path) paths

-- those of some paths that no other of all covers
abbrev pub left_of : List (List ℕ) → List (List ℕ) → List (List ℕ)
left_of all paths = filter (λ path. not (is_covered all path)) paths

abbrev pub outermost : List (List ℕ) → List (List ℕ)
outermost paths = left_of paths paths

-- of the locks of both sides, and of all paths, those of which it is otherwise
abbrev pub others_of : Side → Side → List (List ℕ)
others_of s t = filter (other_beside s t) (locks_beside s ++ (locks_beside t ++ (47 ∷ []) ∷ []))

abbrev pub told_between : Side → Side → List (List ℕ)
told_between s t = listing (outermost (listing (others_of s t)))

-- the side's locks are all that count of the layers
pub record IsSideOf (s : Side) (l : Layers) : Type 0 where
  pub writable : s.writable ≡ l.writable
  pub locks : locks_beside s ≡ locks_in (drop 1 l.layers)

-- the layers before but for the first count as those after
abbrev pub have_same : Bool → List Settings → Bool
have_same true (first ∷ _) = true
have_same _ _ = false
