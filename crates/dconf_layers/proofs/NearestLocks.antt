-- The nearest lock that covers a path.
use Rattle.std.specs.Prelude.{IfSome, IsTrue, option_map, slice_index, unwrap_or}
use Rattle.std.proofs.Common.{◌≡◌, ◌<◌, ◌≤◌, ◌-◌, ◌+◌, ◌∙◌, ◌&&◌, ℕ, zero, suc, Bool, true, false, cond, List, length, take, Option, Some, None, ap, sym, subst, refl, arith, ⊎_elim}
use Rattle.std.specs.Coded.{coded_option, coded_list, coded_ℕ}
use Rattle.std.specs.FinMap.{contains_key}
use Rattle.std.specs.Str.{IsCharBoundary, IsUtf8}
use Rattle.std.proofs.Math.Logic.{∥∥₁_elim}
use Rattle.std.proofs.lemmas.Bool.{and_from, and_parts, cases_lt, false_from_ne_true}
use Rattle.std.proofs.lemmas.Str.{IsCharBoundary-after_ascii, IsCharBoundary-end}
use base.Stored.{Coded-set}
use Rattle.dconf_model.specs.Explains.{lock_of, lock_within}
use Rattle.dconf_model.specs.Locks.{covers}
use Rattle.dconf_model.specs.Paths.{is_key_path}
use Rattle.gvdb_read.specs.declared.table.Table.{Table}
use Rattle.gvdb_read.specs.Lookups.{IsCover}
use Rattle.gvdb_read.specs.Tables.{region}
use Rattle.gvdb_read.proofs.CoveredPaths.{covering_start}
use Rattle.dconf_layers.specs.SoundTables.{AreOfSoundDatabase}
use Rattle.dconf_layers.proofs.CoveringPaths.{covering_is_path}
use Rattle.dconf_layers.proofs.SoundLayers.{lock_is_found, lock_is_named, none_is_named, said_of, settings_at}

-- a text may be cut where a start of it covers it
pub cut_start : (path : List ℕ) (n : ℕ) → IsUtf8 path → 0 < n → n ≤ length path → covers (take n path) path ≡ true → IsCharBoundary path n
cut_start path n u some within c =
    ⊎_elim (λ (whole : n ≡ length path). subst (IsCharBoundary path) (sym whole) (IsCharBoundary-end path))
    (λ (slash : slice_index path (n - 1) ≡ 47).
    let step : n - 1 + 1 ≡ n = omega (arith, some) in
    subst (IsCharBoundary path) step (IsCharBoundary-after_ascii path (n - 1) u (omega (arith, some, within)) (omega (arith, slash))))
    (covering_start path n some within c)

-- ---- from a path's end on

module _ (is_lock : List ℕ → Bool) (path : List ℕ) where
  abbrev locks_start : ℕ → Bool
  locks_start n = is_lock (take n path) && covers (take n path) path

  none_within : (n : ℕ) → ((m : ℕ) → 0 < m → m ≤ n → locks_start m ≡ false) → lock_within is_lock path n ≡ None
  none_within zero none = refl
  none_within (suc n) none =
      ap (λ b. cond b (Some (take (suc n) path)) (lock_within is_lock path n)) (none (suc n) (omega arith) (omega arith))
      ∙ none_within n (λ m some less. none m some (omega (arith, less)))

  one_within : (n m : ℕ) → 0 < m → m ≤ n → locks_start m ≡ true → ((k : ℕ) → m < k → k ≤ n → locks_start k ≡ false) → lock_within is_lock path n ≡ Some (take m path)
  one_within zero m some within is later = absurd (omega (arith, some, within))
  one_within (suc n) m some within is later =
      ⊎_elim (λ (less : m < suc n).
      ap (λ b. cond b (Some (take (suc n) path)) (lock_within is_lock path n)) (later (suc n) less (omega arith))
      ∙ one_within n m some (omega (arith, less)) is (λ k more low. later k more (omega (arith, low))))
      (λ (last : suc n ≤ m).
      let same : m ≡ suc n = omega (arith, within, last) in
      ap (λ b. cond b (Some (take (suc n) path)) (lock_within is_lock path n)) (ap locks_start (sym same) ∙ is) ∙ ap (λ k. Some (take k path)) (sym same))
      (cases_lt m (suc n))

-- ---- the table of locks

module _ (values locks : Table) (path : List ℕ) (o : AreOfSoundDatabase values (Some locks)) (key : IsTrue (is_key_path path)) where
  abbrev locked : List ℕ → Bool
  locked lock = contains_key (settings_at (region values)).locks lock

  cover_locks : (n : ℕ) → IsCover (region locks) path n → locks_start locked path n ≡ true
  cover_locks n c =
      and_from (locked (take n path)) (covers (take n path) path)
      ((said_of values (Some locks) o (take n path)).1 (covering_is_path (take n path) path c.covering key, lock_is_named (region values) (region locks) (take n path) o.sound o.locks_are c.found)) c.covering

  no_cover : (n : ℕ) → 0 < n → n ≤ length path → ¬ IsCover (region locks) path n → locks_start locked path n ≡ false
  no_cover n some within none =
      false_from_ne_true (locks_start locked path n) (λ e.
      let both = and_parts (locked (take n path)) (covers (take n path) path) e in
      none (record {
        some = some;
        within = within;
        covering = both.1;
        found = lock_is_found (region values) (region locks) (take n path) o.sound o.locks_are ((said_of values (Some locks) o (take n path)).0 both.0).1;
      }))

  nearest : (found : Option ℕ) → IfSome found (IsCover (region locks) path) → ((n : ℕ) → unwrap_or found 0 < n → ¬ IsCover (region locks) path n) →
      lock_of path (settings_at (region values)) ≡ option_map (λ n. take n path) found
  nearest None some none = none_within locked path (length path) (λ m low within. no_cover m low within (none m low))
  nearest (Some n) c none =
      one_within locked path (length path) n c.some c.within (cover_locks n c) (λ k more within. no_cover k (omega (arith, more)) within (none k more))

pub nearest_is_lock : (values locks : Table) (path : List ℕ) (found : Option ℕ) → ∥ AreOfSoundDatabase values (Some locks) ∥₁ → IsTrue (is_key_path path) →
    IfSome found (IsCover (region locks) path) → ((n : ℕ) → unwrap_or found 0 < n → ¬ IsCover (region locks) path n) →
    lock_of path (settings_at (region values)) ≡ option_map (λ n. take n path) found
nearest_is_lock values locks path found h key some none = ∥∥₁_elim h (Coded-set (coded_option (coded_list coded_ℕ)) _ _) (λ o. nearest values locks path o key found some none)

pub no_locks_at_all : (values : Table) (path : List ℕ) → ∥ AreOfSoundDatabase values None ∥₁ → None ≡ lock_of path (settings_at (region values))
no_locks_at_all values path h =
    ∥∥₁_elim h (Coded-set (coded_option (coded_list coded_ℕ)) _ _) (λ o.
    let s = settings_at (region values) in
    sym (none_within (λ lock. contains_key s.locks lock) path (length path) (λ m some within.
    false_from_ne_true (contains_key s.locks (take m path) && covers (take m path) path) (λ e.
    let both = and_parts (contains_key s.locks (take m path)) (covers (take m path) path) e in
    none_is_named (region values) (take m path) o.sound o.locks_are ((said_of values None o (take m path)).0 both.0).1))))
