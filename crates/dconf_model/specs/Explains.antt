-- What `explain` says of a key: a line for each database of the profile with the value and the lock that it has for the key,
-- then what is seen, and whether the key can be set. dconf(7), "Profiles" and "Locks"; the lines are this project's.
use Rattle.std.specs.Prelude.{ℕ, zero, suc, List, [], ◌∷◌, ◌++◌, length, take, slice_get, codes, decimal, Option, Some, None, option_map, option_and_then, unwrap_or, Bool, true, false, if◌then◌else◌, ◌&&◌}
use Rattle.std.specs.FinMap.{get, contains_key}
use Rattle.gv_model.specs.Tree.{Tree}
use Rattle.gv_model.specs.Printed.{printed, is_too_large, holds_double}
use Rattle.dconf_model.specs.Settings.{Settings}
use Rattle.dconf_model.specs.FaultTexts.{about}
use Rattle.dconf_model.specs.Locks.{covers}
use Rattle.dconf_model.specs.Profiles.{Database, database_text}
use Rattle.dconf_model.specs.Values.{held_value}
use Rattle.dconf_model.specs.Databases.{gathered}
use Rattle.dconf_model.specs.Layers.{Layers, visible, origin, is_locked}

-- ---- what a database has for a key

-- the longest start of the path, of so many bytes at most, that is a lock which covers the path
abbrev pub lock_within : (List ℕ → Bool) → List ℕ → ℕ → Option (List ℕ)
lock_within is_lock path zero = None
lock_within is_lock path (suc n) =
    if is_lock (take (suc n) path) && covers (take (suc n) path) path then Some (take (suc n) path) else lock_within is_lock path n

-- the lock that is named: the key's own, or else that of the nearest directory
abbrev pub nearest_lock : (List ℕ → Bool) → List ℕ → Option (List ℕ)
nearest_lock is_lock path = lock_within is_lock path (length path)

abbrev pub lock_of : List ℕ → Settings → Option (List ℕ)
lock_of path s = nearest_lock (λ lock. contains_key s.locks lock) path

-- the bytes, the value and the lock of the layer with this index; the first layer's locks don't count
abbrev pub bytes_in : Layers → List ℕ → ℕ → Option (List ℕ)
bytes_in l path i = option_and_then (λ s. get s.values path) (slice_get l.layers i)

abbrev pub value_in : Layers → List ℕ → ℕ → Option Tree
value_in l path i = option_and_then held_value (bytes_in l path i)

abbrev pub lock_in : Layers → List ℕ → ℕ → Option (List ℕ)
lock_in l path zero = None
lock_in l path (suc i) = option_and_then (lock_of path) (slice_get l.layers (suc i))

-- ---- the lines

-- three columns, with tabs between them
abbrev pub columns : List ℕ → List ℕ → List ℕ → List ℕ
columns first second third = first ++ (9 ∷ (second ++ (9 ∷ (third ++ 10 ∷ []))))

-- a database's index, and its line of the profile
abbrev pub place_name : List Database → ℕ → List ℕ
place_name databases i = about (decimal i) (unwrap_or (option_map database_text (slice_get databases i)) [])

abbrev pub place_if_any : List Database → Option ℕ → List ℕ
place_if_any databases None = []
place_if_any databases (Some i) = place_name databases i

-- a value's text, or why it has none
abbrev pub told_value : Option Tree → List ℕ
told_value None = []
told_value (Some v) =
    if is_too_large v then codes "too large, not printed" else if holds_double v then codes "a double, not printed" else printed v true

abbrev pub told_lock : Option (List ℕ) → List ℕ
told_lock None = []
told_lock (Some lock) = about (codes "locks") lock

-- whether a key can be set, or why `write` refuses it, where the first database may be written and the key is locked or not
abbrev pub writable_line : Bool → Bool → List ℕ
writable_line false locked = columns (codes "writable") (codes "no") (codes "NotWritable")
writable_line true true = columns (codes "writable") (codes "no") (codes "Locked")
writable_line true false = columns (codes "writable") (codes "yes") []

abbrev pub seen_line : List Database → Option Tree → Option ℕ → List ℕ
seen_line databases seen from = columns (codes "seen") (told_value seen) (place_if_any databases from)

-- what the databases have, each by its index, then what is seen, and from which of them, and whether the first may be
-- written and the key is locked
abbrev pub explained_by : List Database → (ℕ → Option Tree) → (ℕ → Option (List ℕ)) → Option Tree → Option ℕ → Bool → Bool → List ℕ
explained_by databases values locks seen from writable locked =
    gathered (λ i. columns (place_name databases i) (told_value (values i)) (told_lock (locks i))) (length databases)
    ++ (seen_line databases seen from ++ writable_line writable locked)

abbrev pub explained : List Database → Layers → List ℕ → List ℕ
explained databases l key =
    explained_by databases (value_in l key) (lock_in l key) (visible l key) (origin l key) l.writable (is_locked l key)
