-- Which paths a lock, or a path that is watched, stands for.
use Rattle.std.specs.Prelude.{◌≡◌, ◌||◌, ℕ, Bool, true, List, [], ◌∷◌}
use Rattle.std.specs.List.{list_any}
use Rattle.dconf_model.specs.Layers.{Layers, is_locked, locks_below}
use Rattle.dconf_model.specs.Locks.{covers}
use Rattle.dconf_model.specs.Paths.{starts_with_slash}

-- one is the other, or a directory above it
abbrev pub meets : List ℕ → List ℕ → Bool
meets one other = covers one other || covers other one

-- ---- law

-- A path is locked, be it a key's or a directory's, exactly if one of the locks covers it that the databases from the second on have.
abbrev pub LockedIsCovered : Type 0
LockedIsCovered =
    (l : Layers) (path : List ℕ) → starts_with_slash path ≡ true →
    is_locked l path ≡ list_any (λ lock. covers lock path) (locks_below l (47 ∷ []))
