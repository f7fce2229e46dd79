-- Two tables by which the database of settings is laid, the root table and that of the locks, and where everything is laid by them.
use Rattle.std.specs.Prelude.{ℕ, ◌+◌, ◌<◌, ◌≡◌, List, length, slice_index, ◌≤◌}
use Rattle.dconf_model.specs.Bytes.{hash_of}
use Rattle.dconf_model.specs.Table.{list_kind}
use Rattle.dconf_model.specs.Settings.{Settings, IsSettings}
use Rattle.dconf_model.specs.Entries.{AreFirsts, bucket_of}
use Rattle.dconf_model.specs.Plans.{IsPlanOf, IsLaidBy, length_of, all_values, once_each}
use Rattle.dconf_model.specs.Opening.{IsDatabase, root_of}
use Rattle.gvdb_maps.specs.declared.table.TablePlan.{TablePlan}
use Rattle.gvdb_maps.specs.PlanWords.{entries_of, plan_of, named, name_at, kind_at}
use Rattle.gvdb_maps.specs.LayoutParts.{CanBeLaid, AreLocks, all_keys_end, root_keys_at, lists_at, locks_at, lock_keys_at, values_at, IsShort, HavePlaces, ArePointers}
use Rattle.gvdb_values.specs.WrittenValues.{bytes_of_each}
use Rattle.gv_model.specs.Limits.{limit}
use Rattle.gvdb_maps.specs.declared.contents.Contents.{Contents}
use Rattle.gvdb_maps.specs.declared.layout.Layout.{Layout}

-- the items are in the order of their buckets, each with the hash of its name
pub record AreItems (t : TablePlan) : Type 0 where
  pub bucketed : length t.buckets.items ≡ length t.items.items
  pub firsts : AreFirsts (length t.items.items) (length t.items.items) (bucket_of (entries_of t.items.items)) (λ g. slice_index t.buckets.items g)
  pub hashes : (i : ℕ) → i < length t.items.items → (named t.items.items i).hash ≡ hash_of (name_at t.items.items i)

-- they are the plan of a database of some settings
pub record AreTables (root locks : TablePlan) : Type 0 where
  pub settings : Settings
  pub are_settings : IsSettings settings
  pub plan : IsPlanOf settings (plan_of root locks)
  pub top : (i : ℕ) × (i < length root.items.items) × (kind_at root.items.items i ≡ list_kind)
  pub root_items : AreItems root
  pub lock_items : AreItems locks

-- they are the plan of these settings, and can be laid
pub record AreReady (s : Settings) (root locks : TablePlan) : Type 0 where
  pub are_settings : IsSettings s
  pub plan : IsPlanOf s (plan_of root locks)
  pub tables : AreTables root locks
  pub root_items : CanBeLaid root.items.items
  pub lock_items : CanBeLaid locks.items.items
  pub firsts : length root.firsts.items ≡ length root.items.items + 1
  pub are_locks : AreLocks locks.items.items

-- the file is a database that is laid by their plan, and as long as the plan says
pub record IsFileOf (root locks : TablePlan) (file : List ℕ) : Type 0 where
  pub opens : IsDatabase file
  pub laid : IsLaidBy (root_of file) (plan_of root locks)
  pub whole : length file ≡ length_of (plan_of root locks)

-- the root table, its lists, the table of locks where there are locks, and each value once
pub record IsLayoutOf (root locks : TablePlan) (layout : Layout) : Type 0 where
  pub start_is : layout.root.start ≡ 24
  pub end_is : layout.root.end ≡ root_keys_at (plan_of root locks)
  pub lists_is : layout.lists ≡ lists_at (plan_of root locks)
  pub locks_start_is : 0 < length locks.items.items → layout.locks.start ≡ locks_at (plan_of root locks)
  pub locks_end_is : 0 < length locks.items.items → layout.locks.end ≡ lock_keys_at (plan_of root locks)
  pub locks_short : IsShort layout.locks
  pub lock_keys : all_keys_end layout.locks.end locks.items.items ≤ limit
  pub values : bytes_of_each layout.values.distinct.items ≡ once_each (all_values (plan_of root locks))
  pub root_places : HavePlaces root.items.items (bytes_of_each layout.values.distinct.items) layout.values.root.items
  pub lock_places : HavePlaces locks.items.items (bytes_of_each layout.values.distinct.items) layout.values.locks.items
  pub pointers : ArePointers (values_at (plan_of root locks)) (bytes_of_each layout.values.distinct.items) layout.pointers.items
  pub whole : layout.end ≡ length_of (plan_of root locks)
  pub within : length_of (plan_of root locks) ≤ limit

-- contents are where the layout says, by these places of first children and of values
pub record AreContentsOf (layout : Layout) (firsts places : List ℕ) (c : Contents) : Type 0 where
  pub lists_is : c.lists ≡ layout.lists
  pub firsts_is : c.firsts.now ≡ firsts
  pub table_is : c.table ≡ layout.locks
  pub places_is : c.places.now ≡ places
  pub pointers_is : c.pointers.now ≡ layout.pointers.items
