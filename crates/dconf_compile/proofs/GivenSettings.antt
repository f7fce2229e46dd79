-- The settings that rows and locks are put into are those that are given.
use Rattle.std.proofs.Math.Bool.{or-false}
use Rattle.std.proofs.Common.{◌≡◌, ℕ, Bool, true, false, ◌||◌, List, [], ◌∷◌, Option, Some, None, Result, refl, ap, ◌∙◌, cond, is_some}
use Rattle.std.specs.Prelude.{option_map}
use Rattle.std.specs.List.{list_any}
use Rattle.std.specs.Option.{option_or}
use Rattle.std.specs.Str.{bytes_eq}
use Rattle.std.specs.Cmp.Lexicographic.{slice_cmp}
use Rattle.std.specs.Ordering.{nat_cmp}
use Rattle.std.specs.FinMap.{get, contains_key, empty, get-empty}
use Rattle.dconf_model.specs.Locks.{LockLine}
use Rattle.dconf_model.specs.Settings.{Settings, AtPaths, Lock, no_settings, with_lock}
use Rattle.dconf_model.specs.Sources.{Assigned, FileFault, and_locks, last_value}
use Rattle.dconf_model.specs.Values.{stored}
use Rattle.dconf_model.proofs.LastValues.{get_all}
use Rattle.dconf_model.proofs.PathMaps.{get_inserted, or_swap}
use Rattle.dconf_compile.specs.Added.{AddsRows, AddsLocks, with_rows, with_locks}
use Rattle.dconf_compile.specs.Sources.{AreGivenBy}

-- ---- locks change locks alone

locks_values : (locks : List LockLine) (s : Settings) → (with_locks locks s).values ≡ s.values
locks_values [] s = refl
locks_values (lock ∷ locks) s = locks_values locks (with_lock s lock.path)

or_nothing : {X : Type 0} (o : Option X) → option_or o None ≡ o
or_nothing (Some x) = refl
or_nothing None = refl

value_at : (rows : List Assigned) (p : List ℕ) → get (with_rows rows no_settings).values p ≡ option_map stored (last_value rows p)
value_at rows p =
    get_all rows empty p ∙ (ap (option_or (option_map stored (last_value rows p))) (get-empty (slice_cmp nat_cmp) p) ∙ or_nothing (option_map stored (last_value rows p)))

-- ---- locks

either : (b : Bool) (v : Lock) (o : Option Lock) → is_some (cond b (Some v) o) ≡ (b || is_some o)
either true v o = refl
either false v o = refl

locked_at : (locks : List LockLine) (s : Settings) (p : List ℕ) → contains_key (with_locks locks s).locks p ≡ (list_any (λ lock. bytes_eq lock.path p) locks || contains_key s.locks p)
locked_at [] s p = refl
locked_at (lock ∷ locks) s p =
    locked_at locks (with_lock s lock.path) p
    ∙ (ap (λ b. list_any (λ lock. bytes_eq lock.path p) locks || b) (ap is_some (get_inserted s.locks lock.path tt p) ∙ either (bytes_eq lock.path p) tt (get s.locks p))
    ∙ or_swap (bytes_eq lock.path p) (list_any (λ lock. bytes_eq lock.path p) locks) (contains_key s.locks p))

lock_at : (locks : List LockLine) (s : Settings) (p : List ℕ) → s.locks ≡ empty → contains_key (with_locks locks s).locks p ≡ list_any (λ lock. bytes_eq lock.path p) locks
lock_at locks s p none =
    locked_at locks s p
    ∙ (ap (λ b. list_any (λ lock. bytes_eq lock.path p) locks || b) (ap (λ (m : AtPaths Lock). contains_key m p) none ∙ ap is_some (get-empty (slice_cmp nat_cmp) p))
    ∙ or-false (list_any (λ lock. bytes_eq lock.path p) locks))

-- ---- all that is given

pub given_settings : (values : Result (List Assigned) FileFault) (locks : Result (List LockLine) FileFault) (between new : Settings) →
    AddsRows values no_settings between → AddsLocks locks between new → AreGivenBy (and_locks values locks) new
given_settings values locks between new a b = record {
  gives = record { values = a.rows; locks = b.locks };
  read = rw (a.read, b.read) refl;
  limited = a.limited;
  settings = record {
    values = λ p. ap (λ (s : Settings). get s.values p) b.added
        ∙ (ap (λ (m : AtPaths (List ℕ)). get m p) (locks_values b.locks between) ∙ (ap (λ (s : Settings). get s.values p) a.added ∙ value_at a.rows p));
    locks = λ p. ap (λ (s : Settings). contains_key s.locks p) b.added
        ∙ lock_at b.locks between p (ap (λ (s : Settings). s.locks) a.added);
  };
}
