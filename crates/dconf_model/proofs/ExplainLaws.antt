-- What explains a key is what rows, locks and the order of the databases give.
use Rattle.std.specs.Prelude.{◌≡◌, ◌&&◌, ℕ, zero, suc, Bool, List, [], ◌∷◌, drop, take, slice_get, Some, cond, nat_lt, option_and_then, refl}
use Rattle.std.proofs.Common.{ap, ◌∙◌}
use Rattle.std.specs.List.{list_any}
use Rattle.std.specs.Str.{bytes_eq}
use Rattle.std.specs.FinMap.{get}
use Rattle.dconf_model.specs.Bytes.{MaybeBytes}
use Rattle.dconf_model.specs.Settings.{Settings}
use Rattle.dconf_model.specs.Locks.{covers}
use Rattle.dconf_model.specs.Profiles.{Database, has_writable}
use Rattle.dconf_model.specs.Values.{held_value}
use Rattle.dconf_model.specs.Sources.{Given, last_value}
use Rattle.dconf_model.specs.Layers.{Layers, greatest_from, is_locked, locks_path}
use Rattle.dconf_model.specs.Explains.{explained, explained_by, lock_in, lock_of, lock_within, nearest_lock, value_in}
use Rattle.dconf_model.specs.Stores.{AllGive, OwnValues, StoreHolds, level_given}
use Rattle.dconf_model.specs.Programs.{explained_given, lock_given_in, value_given_in}
use Rattle.dconf_model.proofs.DatabasesGiven.{level_gives}
use Rattle.dconf_model.proofs.StoreValues.{origin_seen, value_seen}

-- the same locks have the same lock within
same_within : (p q : List ℕ → Bool) → ((lock : List ℕ) → p lock ≡ q lock) → (path : List ℕ) (n : ℕ) → lock_within p path n ≡ lock_within q path n
same_within p q same path zero = refl
same_within p q same path (suc n) =
    ap (λ b. cond (b && covers (take (suc n) path) path) (Some (take (suc n) path)) (lock_within p path n)) (same (take (suc n) path))
    ∙ ap (cond (q (take (suc n) path) && covers (take (suc n) path) path) (Some (take (suc n) path))) (same_within p q same path n)

later_value : (ss : List Settings) (gs : List Given) (key : List ℕ) (i : ℕ) → AllGive ss gs →
    option_and_then held_value (option_and_then (λ s. get s.values key) (slice_get ss i)) ≡ option_and_then (λ g. last_value g.values key) (slice_get gs i)
later_value [] [] key i h = refl
later_value [] (g ∷ gs) key i h = absurd h
later_value (s ∷ ss) [] key i h = absurd h
later_value (s ∷ ss) (g ∷ gs) key zero h = h.0.values key
later_value (s ∷ ss) (g ∷ gs) key (suc i) h = later_value ss gs key i h.1

later_lock : (ss : List Settings) (gs : List Given) (key : List ℕ) (i : ℕ) → AllGive ss gs →
    option_and_then (lock_of key) (slice_get ss i)
    ≡ option_and_then (λ g. nearest_lock (λ path. list_any (λ lock. bytes_eq lock.path path) g.locks) key) (slice_get gs i)
later_lock [] [] key i h = refl
later_lock [] (g ∷ gs) key i h = absurd h
later_lock (s ∷ ss) [] key i h = absurd h
later_lock (s ∷ ss) (g ∷ gs) key zero h = same_within _ _ h.0.locks key _
later_lock (s ∷ ss) (g ∷ gs) key (suc i) h = later_lock ss gs key i h.1

module _ (others : List MaybeBytes) (own : OwnValues) (gs : List Given) (l : Layers) (h : StoreHolds others own gs l) where
  value_there : (key : List ℕ) (i : ℕ) → value_in l key i ≡ value_given_in own gs key i
  value_there key zero = ap (λ ls. option_and_then held_value (option_and_then (λ s. get s.values key) (slice_get ls 0))) h.layers ∙ h.own_is key
  value_there key (suc i) =
      ap (λ ls. option_and_then held_value (option_and_then (λ s. get s.values key) (slice_get ls (suc i)))) h.layers ∙ later_value h.later gs key i h.gives

  lock_there : (key : List ℕ) (i : ℕ) → lock_in l key i ≡ lock_given_in gs key i
  lock_there key zero = refl
  lock_there key (suc i) = ap (λ ls. option_and_then (lock_of key) (slice_get ls (suc i))) h.layers ∙ later_lock h.later gs key i h.gives

  locked_there : (key : List ℕ) → is_locked l key ≡ nat_lt 0 (level_given 1 gs key)
  locked_there key =
      ap (λ ls. nat_lt 0 (greatest_from 1 (locks_path key) (drop 1 ls))) h.layers ∙ ap (nat_lt 0) (level_gives 1 h.later gs key h.gives)

  pub explained_seen : (databases : List Database) → l.writable ≡ has_writable databases → (key : List ℕ) →
      explained databases l key ≡ explained_given databases own gs key
  explained_seen databases writable key = λ i.
      explained_by databases (λ n. value_there key n i) (λ n. lock_there key n i) (value_seen others own gs l h key i)
      (origin_seen others own gs l h key i) (writable i) (locked_there key i)
