-- The tables of a layout can be written.
use Rattle.std.proofs.Common.{ℕ, ◌≤◌, ◌+◌, ◌*◌, length, sym, subst}
use Rattle.gv_model.specs.Limits.{limit}
use Rattle.gvdb_maps.specs.declared.contents.Contents.{Contents}
use Rattle.gvdb_maps.specs.declared.layout.Layout.{Layout}
use Rattle.gvdb_maps.specs.declared.table.TablePlan.{TablePlan}
use Rattle.dconf_model.specs.Settings.{Settings}
use Rattle.gvdb_maps.specs.PlannedTables.{AreContentsOf, IsLayoutOf, AreReady}
use Rattle.gvdb_maps.specs.WrittenParts.{CanBeWritten}
use Rattle.gvdb_maps.proofs.KnownContents.{contents_known, root_lists, lock_lists}
use Rattle.gvdb_maps.proofs.PartEnds.{few_root, few_locks, root_keys_fit, lists_fit}
use Rattle.gvdb_maps.proofs.TableWritten.{have_buckets}

pub root_writable : (s : Settings) (root locks : TablePlan) (layout : Layout) (c : Contents) → AreReady s root locks → IsLayoutOf root locks layout
    → AreContentsOf layout root.firsts.items layout.values.root.items c → CanBeWritten root layout.root.end c
root_writable s root locks layout c ready is contents =
    let few = few_root root locks layout ready.tables is in
    record {
      few = few;
      buckets = have_buckets root ready.tables.root_items few;
      bucketed = ready.tables.root_items.bucketed;
      items = ready.root_items;
      keys = root_keys_fit root locks layout ready.tables is;
      contents = contents_known root locks layout is _ _ c contents root.items.items is.root_places
          (root_lists root c ready.plan.children ready.firsts contents.firsts_is (subst (λ (n : ℕ). n + 4 * length root.children.items ≤ limit) (sym contents.lists_is) (lists_fit root locks layout ready.tables is)));
    }

pub locks_writable : (s : Settings) (root locks : TablePlan) (layout : Layout) (c : Contents) → AreReady s root locks → IsLayoutOf root locks layout
    → AreContentsOf layout root.firsts.items layout.values.locks.items c → CanBeWritten locks layout.locks.end c
locks_writable s root locks layout c ready is contents =
    let few = few_locks root locks layout ready.tables is in
    record {
      few = few;
      buckets = have_buckets locks ready.tables.lock_items few;
      bucketed = ready.tables.lock_items.bucketed;
      items = ready.lock_items;
      keys = is.lock_keys;
      contents = contents_known root locks layout is _ _ c contents locks.items.items is.lock_places (lock_lists locks.items.items c ready.are_locks);
    }
