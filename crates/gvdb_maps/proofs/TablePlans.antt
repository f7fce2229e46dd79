-- The tables of a map's names are the plan of its database.
use Rattle.std.proofs.Common.{rules, arith, ◌≡◌, ◌<◌, ◌≤◌, ℕ, List, [], length, get_or, Option, Some, None, refl, sym, ap, ◌∙◌, subst, inl, inr, is_some}
use Rattle.std.proofs.lemmas.Grind.{common_steps}
use Rattle.std.specs.Prelude.{IsTrue, IsUtf8}
use Rattle.std.specs.FinMap.{get, keys}
use Rattle.std.proofs.lemmas.Bool.{cases_lt}
use Rattle.std.proofs.lemmas.Option.{same_Some}
use Rattle.dconf_model.specs.Table.{value_kind}
use Rattle.dconf_model.specs.Settings.{Settings, IsSettings}
use Rattle.dconf_model.specs.Paths.{is_path, starts_with_slash}
use Rattle.dconf_model.specs.Renumbered.{renumbered}
use Rattle.dconf_model.specs.Entries.{Entry, Entries, bucket_of, IsEntry, AreEntries, IsLockEntry, EachEntry}
use Rattle.dconf_model.specs.Plans.{IsRootName, IsLockName, AreNamed, Precedes, HasValueEntry, IsPlanOf}
use Rattle.dconf_model.proofs.Renumbered.{name_at as name_by_number, kind_at as kind_by_number, name_is, entries_renumbered, root_renumbered}
use Rattle.gvdb_maps.specs.declared.names.Named.{Named}
use Rattle.gvdb_maps.specs.declared.table.TablePlan.{TablePlan}
use Rattle.gvdb_maps.specs.ItemOrder.{ComesFirst, IsTableOf}
use Rattle.gvdb_maps.specs.PlanWords.{kind_of, content_bytes, no_name, entries_of, plan_of, named, name_at, IsBefore, AreAscending, AreNamesOf, AreLockNames}
use Rattle.gvdb_maps.proofs.NamesEntries.{are_entries, once_each, are_root_entries, path_there, all_there}
use Rattle.gvdb_maps.proofs.PathTexts.{IsPathText, path_text}
use Rattle.gvdb_maps.proofs.KeysRise.{keys_rise, kept_is_listed, kept_at}

module _ (names : List Named) (t : TablePlan) (is : IsTableOf names t) where
  pub here_in_names : (i : ℕ) → i < length t.items.items → i < length names
  here_in_names i here = subst (λ (n : ℕ). i < n) is.renumbered.counted here

  name_of_item : (i : ℕ) → i < length t.items.items → name_at t.items.items i ≡ name_at names (is.order i)
  name_of_item i here = name_is (entries_of names) (entries_of t.items.items) is.order is.number i is.renumbered (here_in_names i here)

  later : (i j : ℕ) → i < j → j < length t.items.items → is.order i ≤ is.order j → is.order i < is.order j
  later i j less here le = grind (arith, common_steps, cases_lt, here_in_names)

  precedes : AreAscending names → (i j : ℕ) → i < j → j < length t.items.items → Precedes (entries_of t.items.items) i j
  precedes ascending i j less here = by (is.ordered i j less here)
    where
      by : ComesFirst (bucket_of (entries_of t.items.items) i, is.order i) (bucket_of (entries_of t.items.items) j, is.order j) → Precedes (entries_of t.items.items) i j
      by (inl l) = inl l
      by (inr m) =
          let l = later i j less here m.1 in
          inr (
            m.0,
            subst (λ (x : List ℕ). IsBefore x (name_at t.items.items j)) (sym (name_of_item i (omega (arith, less, here))))
                (subst (λ (x : List ℕ). IsBefore (name_at names (is.order i)) x) (sym (name_of_item j here))
                (ascending (is.order i) (is.order j) l (is.renumbered.ordered j (here_in_names j here)))),
          )

  pub are_named : (IsName : List ℕ → Type 0) → AreAscending names → ((i : ℕ) → i < length names → IsName (name_at names i)) → ((name : List ℕ) → IsName name → (i : ℕ) × (i < length names) × (name_at names i ≡ name)) → AreNamed IsName (entries_of t.items.items)
  are_named IsName ascending each all = record {
    each = λ i here. subst IsName (sym (name_of_item i here)) (each (is.order i) (is.renumbered.ordered i (here_in_names i here)));
    all = λ name named.
        let f = all name named in (
          is.number f.0,
          subst (λ (n : ℕ). is.number f.0 < n) (sym is.renumbered.counted) (is.renumbered.numbered f.0 f.1),
          name_by_number (entries_of names) (entries_of t.items.items) is.order is.number f.0 is.renumbered f.1 ∙ f.2,
        );
    ordered = precedes ascending;
  }

module _ (s : Settings) (names : List Named) (t : TablePlan) (are : AreNamesOf s names) (is : IsTableOf names t) where
  pub root_values : (i : ℕ) → i < length t.items.items → kind_of (named t.items.items i).content ≡ value_kind → get s.values (name_at t.items.items i) ≡ Some (content_bytes (named t.items.items i).content)
  root_values i here kind = grind (arith, common_steps, here_in_names, name_of_item)

  root_keys : (locks : TablePlan) (path bytes : List ℕ) → get s.values path ≡ Some bytes → HasValueEntry (plan_of t locks) path bytes
  root_keys locks path bytes at =
      let f = path_there s names are path (ap (λ (o : Option (List ℕ)). is_some o) at) in
      let i = is.number f.at in
      let here : is.number f.at < length t.items.items = subst (λ (n : ℕ). is.number f.at < n) (sym is.renumbered.counted) (is.renumbered.numbered f.at f.counted) in
      let name : name_at t.items.items (is.number f.at) ≡ path = name_by_number (entries_of names) (entries_of t.items.items) is.order is.number f.at is.renumbered f.counted ∙ f.named in
      let kind : kind_of (named t.items.items (is.number f.at)).content ≡ value_kind = kind_by_number (entries_of names) (entries_of t.items.items) is.order is.number f.at is.renumbered f.counted ∙ f.of_kind in
      let held = root_values (is.number f.at) here kind in (
        is.number f.at,
        here,
        name,
        kind,
        same_Some (content_bytes (named t.items.items (is.number f.at)).content) bytes
            (sym (ap (λ (x : List ℕ). get s.values x) (sym name) ∙ held) ∙ at),
      )

  pub root_named : AreNamed (IsRootName s) (entries_of t.items.items)
  root_named = are_named names t is (IsRootName s) are.good.ascending (λ i here. are.each i no_name here) (all_there s names are)

  pub root_entries : AreEntries (entries_of t.items.items)
  root_entries = entries_renumbered (entries_of names) (entries_of t.items.items) is.order is.number is.renumbered (are_entries names are.good.placed are.good.ascending)

-- ---- the locks

starts : (path : List ℕ) → IsTrue (is_path path) → IsTrue (starts_with_slash path)
starts path is = grind (arith, common_steps)

abbrev lock_entry : List ℕ → Entry
lock_entry path = record { name = path; key = path; parent = None; kind = value_kind }

is_lock_entry : (path : List ℕ) → IsTrue (is_path path) → IsLockEntry (lock_entry path)
is_lock_entry path is = record { value = refl; whole = refl; absolute = starts path is }

renumbered_lock : (number : ℕ → ℕ) (x : Entry) → IsLockEntry x → IsLockEntry (renumbered number x)
renumbered_lock number x is = grind (arith, common_steps)

-- what an entry has to be, where it is the entry of a lock
lock_is_entry : (e : Entries) (i : ℕ) (path : List ℕ) → e.entry i ≡ lock_entry path → IsPathText path → IsUtf8 path → IsEntry e i
lock_is_entry e i path is text utf8 = search (rules, arith)

module _ (s : Settings) (names : List Named) (t : TablePlan) (settings : IsSettings s) (are : AreLockNames s names) (is : IsTableOf names t) where
  abbrev LockAt : ℕ → List ℕ
  LockAt i = get_or (keys s.locks) i []

  listed_here : (i : ℕ) → i < length names → i < length (keys s.locks)
  listed_here i here = subst (λ (n : ℕ). i < n) are.counted here

  lock_path : (i : ℕ) → i < length names → IsTrue (is_path (LockAt i))
  lock_path i here = settings.locked (LockAt i) (kept_is_listed s.locks i (listed_here i here))

  lock_name : (i : ℕ) → i < length names → name_at names i ≡ LockAt i
  lock_name i here = ap (λ (x : Entry). x.name) (are.each i here).entry

  locks_ascend : AreAscending names
  locks_ascend i j less here =
      subst (λ (x : List ℕ). IsBefore x (name_at names j)) (sym (lock_name i (omega (arith, less, here))))
      (subst (λ (x : List ℕ). IsBefore (LockAt i) x) (sym (lock_name j here)) ((keys_rise s.locks).rising i j less (listed_here j here)))

  lock_entries : AreEntries (entries_of names)
  lock_entries = record {
    each = λ i here. lock_is_entry (entries_of names) i (LockAt i) (are.each i here).entry (path_text (LockAt i) (lock_path i here)) (are.each i here).utf8;
    once = once_each names locks_ascend;
  }

  all_locks_there : (name : List ℕ) → IsLockName s name → (i : ℕ) × (i < length names) × (name_at names i ≡ name)
  all_locks_there name kept = grind (arith, common_steps, kept_at, lock_name)

  pub locks_named : AreNamed (IsLockName s) (entries_of t.items.items)
  locks_named =
      are_named names t is (IsLockName s) locks_ascend
      (λ i here. subst (λ (x : List ℕ). IsLockName s x) (sym (lock_name i here)) (kept_is_listed s.locks i (listed_here i here)))
      all_locks_there

  pub locks_entries : AreEntries (entries_of t.items.items)
  locks_entries = entries_renumbered (entries_of names) (entries_of t.items.items) is.order is.number is.renumbered lock_entries

  pub locks_are : EachEntry (entries_of t.items.items) (λ i. IsLockEntry ((entries_of t.items.items).entry i))
  locks_are i here =
      let l = here_in_names names t is i here in
      let o = is.renumbered.ordered i l in
      subst (λ (x : Entry). IsLockEntry x) (sym (is.renumbered.entries i l))
      (renumbered_lock is.number ((entries_of names).entry (is.order i))
      (subst (λ (x : Entry). IsLockEntry x) (sym (are.each (is.order i) o).entry) (is_lock_entry (LockAt (is.order i)) (lock_path (is.order i) o))))

-- ---- the plan

pub tables_are_plan : (s : Settings) (names lock_names : List Named) (root locks : TablePlan) → IsSettings s → AreNamesOf s names → IsTableOf names root → AreLockNames s lock_names → IsTableOf lock_names locks → IsPlanOf s (plan_of root locks)
tables_are_plan s names lock_names root locks settings are is locks_of is_locks = search (rules, arith, root_renumbered, are_entries, are_root_entries, root_values, root_keys, root_named, root_entries, lock_entries, locks_named, locks_entries, locks_are)
