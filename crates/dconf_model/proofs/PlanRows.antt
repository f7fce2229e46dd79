-- A root table that is laid out by a plan holds the settings that the plan is of.
use Rattle.std.proofs.Common.{◌≡◌, ◌↔◌, ℕ, List, true, false, Some, refl, sym, ap, ◌∙◌, subst, codes}
use Rattle.std.specs.Prelude.{IsTrue}
use Rattle.std.specs.FinMap.{contains_key, get}
use Rattle.dconf_model.specs.Table.{Table, value_kind, table_of}
use Rattle.dconf_model.specs.Names.{HasName}
use Rattle.dconf_model.specs.Paths.{is_key_path, ends_with_slash}
use Rattle.dconf_model.specs.Settings.{Settings, IsSettings}
use Rattle.dconf_model.specs.Entries.{Entries, AreLaidLocks}
use Rattle.dconf_model.specs.Plans.{HasLocks, IsRootName, IsLockName, AreNamed, PlanIsSound, PlanHoldsValues, PlanHoldsLocks}
use Rattle.dconf_model.specs.Plans.IsRootName.{top, key, directory, locks}
use Rattle.dconf_model.proofs.LaidNames.{has_name, name_is, is_entry}
use Rattle.dconf_model.proofs.LaidSound.{laid_is_sound, rows_are_entries}

pub plan_is_sound : PlanIsSound
plan_is_sound t p by = laid_is_sound t p.root p.children p.locks by.laid

-- ---- values

pub plan_holds_values : PlanHoldsValues
plan_holds_values t s p is by path bytes = (
  λ rows.
      let e = (rows_are_entries t p.root path value_kind bytes by.laid.laid by.laid.entries).0 rows in
      ap (λ (n : List ℕ). get s.values n) e.2 ∙ (is.values e.0 e.1 e.3 ∙ ap (λ (b : List ℕ). Some b) (sym (by.values e.0 e.1 e.3) ∙ e.4)),
  λ at.
      let e = is.keys path bytes at in
      (rows_are_entries t p.root path value_kind bytes by.laid.laid by.laid.entries).1 (e.0, e.1, sym e.2, e.3, by.values e.0 e.1 e.3 ∙ e.4),
)

-- ---- locks

-- a name that doesn't start with a slash is none of the others
pub names_locks : (s : Settings) (name : List ℕ) → IsSettings s → name ≡ codes ".locks" → IsRootName s name → HasLocks s
names_locks s name is e (top t) = let bad : codes ".locks" ≡ codes "/" = sym e ∙ t in cc
names_locks s name is e (key k) = let bad : false ≡ true = subst (λ (n : List ℕ). IsTrue (is_key_path n)) e (is.valued name k) in cc
names_locks s name is e (directory path k d) = let bad : false ≡ true = subst (λ (n : List ℕ). IsTrue (ends_with_slash n)) e d.slash in cc
names_locks s name is e (locks l h) = h

-- the names in the table of locks are its entries
lock_names : (t : Table) (s : Settings) (l : Entries) → AreLaidLocks t l → AreNamed (IsLockName s) l → (path : List ℕ) → ((j : ℕ) × HasName t j path) ↔ IsTrue (contains_key s.locks path)
lock_names t s l are named path = (
  λ h.
      let j = h.0 in
      let here = is_entry t l j path are.laid h.1 in
      subst (λ (n : List ℕ). IsTrue (contains_key s.locks n)) (sym (name_is t l j path are.laid are.entries h.1)) (named.each j here),
  λ locked.
      let e = named.all path locked in
      (e.0, subst (HasName t e.0) e.2 (has_name t l e.0 are.laid are.entries e.1)),
)

pub plan_holds_locks : PlanHoldsLocks
plan_holds_locks t s p settings is by =
    let laid = by.laid.laid in
    let entries = by.laid.entries in
    record {
      there = λ some.
          let e = is.names.all (codes ".locks") (locks refl some) in
          (e.0, subst (HasName t e.0) e.2 (has_name t p.root e.0 laid entries e.1));
      needed = λ i h.
          let here = is_entry t p.root i (codes ".locks") laid h in
          names_locks s (p.root.entry i).name settings (sym (name_is t p.root i (codes ".locks") laid entries h)) (is.names.each i here);
      names = λ i h.
          let here = is_entry t p.root i (codes ".locks") laid h in
          lock_names (table_of t i) s p.locks (by.laid.locks i here (sym (name_is t p.root i (codes ".locks") laid entries h))) is.lock_names;
      values = λ i h.
          by.lock_values i (is_entry t p.root i (codes ".locks") laid h) (sym (name_is t p.root i (codes ".locks") laid entries h));
    }
