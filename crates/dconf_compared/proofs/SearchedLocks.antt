-- Locks are in order, and what a search by halving says of a path among them.
use Rattle.std.specs.Prelude.{Err, Ok, Result, drop, filter, is_err, is_ok}
use Rattle.std.proofs.Common.{◌≡◌, ◌∙◌, ◌&&◌, ◌||◌, ℕ, Bool, true, false, List, [], ◌∷◌, ap, ap₂, not, refl}
use Rattle.std.specs.List.{list_any}
use Rattle.std.specs.Str.{bytes_eq}
use Rattle.dconf_model.specs.Layers.{Layers, all_locks, locks_below}
use Rattle.dconf_model.specs.Locks.{is_below}
use Rattle.dconf_model.specs.Order.{IsRising}
use Rattle.dconf_model.proofs.ListingOrder.{listing_is_once_each}
use Rattle.dconf_model.proofs.PathMaps.{eq_turned}
use Rattle.dconf_compared.specs.Compared.{is_none_of}

pub locks_rise : (l : Layers) (directory : List ℕ) → IsRising (locks_below l directory)
locks_rise l directory = (listing_is_once_each (filter (λ lock. is_below lock directory) (all_locks (drop 1 l.layers)))).rising

neither : (a b : Bool) → not (a || b) ≡ (not a && not b)
neither true b = refl
neither false b = refl

pub none_found : (path : List ℕ) (paths : List (List ℕ)) → not (list_any (bytes_eq path) paths) ≡ is_none_of paths path
none_found path [] = refl
none_found path (other ∷ more) =
    neither (bytes_eq path other) (list_any (bytes_eq path) more)
    ∙ ap₂ (λ (a b : Bool). a && b) (ap not (eq_turned path other)) (none_found path more)

pub missing : {X Y : Type 0} (r : Result X Y) → is_err r ≡ not (is_ok r)
missing (Ok x) = refl
missing (Err y) = refl
