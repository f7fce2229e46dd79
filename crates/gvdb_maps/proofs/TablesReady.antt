-- The tables of a map's names are ready to be laid and written.
use Rattle.std.proofs.Common.{◌≡◌, ◌<◌, ◌≤◌, ℕ, List, length, Option, Some, refl, sym, ap, ◌∙◌, subst, codes}
use Rattle.std.specs.Prelude.{IsTrue}
use Rattle.dconf_model.specs.Bytes.{hash_of}
use Rattle.dconf_model.specs.Table.{list_kind}
use Rattle.dconf_model.specs.Settings.{Settings, IsSettings}
use Rattle.dconf_model.specs.Paths.{is_path}
use Rattle.dconf_model.specs.Entries.{IsSpelled, AreEntries}
use Rattle.dconf_model.specs.Opening.{root_of}
use Rattle.dconf_model.specs.Sound.{IsSound}
use Rattle.dconf_model.specs.Plans.{IsPlanOf, length_of, HoldsValues, HoldsLocks, HasLength}
use Rattle.dconf_model.proofs.PlanRows.{plan_is_sound, plan_holds_values, plan_holds_locks}
use Rattle.dconf_model.proofs.Renumbered.{name_is, kind_at as kind_by_number}
use Rattle.gvdb_maps.specs.declared.names.Content.{Content}
use Rattle.gvdb_maps.specs.declared.names.Named.{Named}
use Rattle.gvdb_maps.specs.declared.table.TablePlan.{TablePlan}
use Rattle.refused.specs.declared.Refused.{Refused}
use Rattle.refused.proofs.Faults.{OfFault-weaker}
use Rattle.gvdb_maps.specs.declared.write_fault.TooBig.{TooBig}
use Rattle.gvdb_maps.specs.Limits.{IsOver, IsRefusal}
use Rattle.gvdb_maps.specs.PlanWords.{content_bytes, entries_of, plan_of, named, name_at, kind_at, IsThere, AreNamesOf, AreLockNames}
use Rattle.gvdb_maps.specs.ItemOrder.{IsTableOf}
use Rattle.gvdb_maps.specs.LayoutParts.{CanBeLaid, AreLocks}
use Rattle.gvdb_maps.specs.PlannedTables.{AreItems, AreReady, IsFileOf}
use Rattle.gvdb_maps.proofs.PathTexts.{path_text}
use Rattle.gvdb_maps.proofs.TablePlans.{here_in_names, tables_are_plan}
use Rattle.gvdb_maps.proofs.TableWritten.{key_begins}
use Rattle.gv_model.specs.Limits.{limit}

-- ---- a table

module _ (names : List Named) (t : TablePlan) (is : IsTableOf names t) where
  are_items : ((k : ℕ) → k < length names → (named names k).hash ≡ hash_of (name_at names k)) → AreItems t
  are_items hashes = record {
    bucketed = is.bucketed;
    firsts = is.firsts;
    hashes = λ i here.
        let l = here_in_names names t is i here in
        is.hashes i here
        ∙ (hashes (is.order i) (is.renumbered.ordered i l)
        ∙ ap hash_of (sym (name_is (entries_of names) (entries_of t.items.items) is.order is.number i is.renumbered l)));
  }

  item_there : (name : List ℕ) (kind : ℕ) → IsThere names name kind → (i : ℕ) × (i < length t.items.items) × (kind_at t.items.items i ≡ kind)
  item_there name kind there = (
    is.number there.at,
    subst (λ (n : ℕ). is.number there.at < n) (sym is.renumbered.counted) (is.renumbered.numbered there.at there.counted),
    kind_by_number (entries_of names) (entries_of t.items.items) is.order is.number there.at is.renumbered there.counted ∙ there.of_kind,
  )

parent_within : (items : List Named) (i p : ℕ) (o : Option ℕ) → IsSpelled (entries_of items) i o → o ≡ Some p → p < length items
parent_within items i p o spelled is = (subst (λ (x : Option ℕ). IsSpelled (entries_of items) i x) is spelled).0

can_be_laid : (items : List Named) → AreEntries (entries_of items) → ((i : ℕ) → i < length items → length (name_at items i) ≤ 65535) → CanBeLaid items
can_be_laid items are short = record {
  from = key_begins items are;
  short = short;
  parents = λ i p here parent. parent_within items i p (named items i).parent (are.each i here).spelled parent;
}

short_path : (path : List ℕ) → IsTrue (is_path path) → length path ≤ 65535
short_path path is = (path_text path is).short

-- ---- both tables

locks_are : (lock_names : List Named) (s : Settings) (root locks : TablePlan) → AreLockNames s lock_names → IsTableOf lock_names locks → IsPlanOf s (plan_of root locks) → AreLocks locks.items.items
locks_are lock_names s root locks are is plan i here =
    let l = here_in_names lock_names locks is i here in (
      (plan.locks i here).value,
      ap (λ (c : Content). content_bytes c) (is.contents i here) ∙ (are.each (is.order i) (is.renumbered.ordered i l)).value,
    )

pub ready : (s : Settings) (names lock_names : List Named) (root locks : TablePlan) → IsSettings s → AreNamesOf s names → IsTableOf names root → AreLockNames s lock_names → IsTableOf lock_names locks → AreReady s root locks
ready s names lock_names root locks settings are is are_locks is_locks =
    let plan = tables_are_plan s names lock_names root locks settings are is are_locks is_locks in
    record {
      are_settings = settings;
      plan = plan;
      tables = record {
        settings = s;
        are_settings = settings;
        plan = plan;
        top = item_there names root is (codes "/") list_kind are.top;
        root_items = are_items names root is (λ k here. (are.good.placed k here).fit.hash);
        lock_items = are_items lock_names locks is_locks (λ k here. (are_locks.each k here).hash);
      };
      root_items = can_be_laid root.items.items plan.entries (λ i here. (plan.places i here).short);
      lock_items = can_be_laid locks.items.items plan.lock_entries
          (λ i here. short_path (name_at locks.items.items i) (settings.locked (name_at locks.items.items i) (plan.lock_names.each i here)));
      firsts = is.lists;
      are_locks = locks_are lock_names s root locks are_locks is_locks plan;
    }

-- ---- what it leads to

-- a database by a plan of the settings would be too long
pub refused : (s : Settings) (root locks : TablePlan) (e : Refused TooBig) → IsPlanOf s (plan_of root locks) → IsOver (length_of (plan_of root locks)) e → IsRefusal s e
refused s root locks e is = OfFault-weaker _ _ (λ _ over. (length_of (plan_of root locks), (plan_of root locks, is, refl), over)) e

-- a file that is laid by their plan holds the settings
pub file_is_sound : (root locks : TablePlan) (file : List ℕ) → IsFileOf root locks file → IsSound (root_of file)
file_is_sound root locks file is = plan_is_sound (root_of file) (plan_of root locks) is.laid

pub file_holds_values : (s : Settings) (root locks : TablePlan) (file : List ℕ) → AreReady s root locks → IsFileOf root locks file → HoldsValues (root_of file) s
file_holds_values s root locks file ready is = plan_holds_values (root_of file) s (plan_of root locks) ready.plan is.laid

pub file_holds_locks : (s : Settings) (root locks : TablePlan) (file : List ℕ) → AreReady s root locks → IsFileOf root locks file → HoldsLocks (root_of file) s
file_holds_locks s root locks file ready is = plan_holds_locks (root_of file) s (plan_of root locks) ready.are_settings ready.plan is.laid

pub file_has_length : (s : Settings) (root locks : TablePlan) (file : List ℕ) → AreReady s root locks → IsFileOf root locks file → HasLength s (length file)
file_has_length s root locks file ready is = (plan_of root locks, ready.plan, sym is.whole)

pub file_fits : (root locks : TablePlan) (file : List ℕ) → IsFileOf root locks file → length_of (plan_of root locks) ≤ limit → length file ≤ limit
file_fits root locks file is within = subst (λ (n : ℕ). n ≤ limit) (sym is.whole) within
