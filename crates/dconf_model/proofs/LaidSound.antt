-- A root table that is laid out is sound, and its rows are its entries.
use Rattle.std.proofs.Common.{◌≡◌, ◌<◌, ◌≤◌, ◌+◌, ◌-◌, ◌⊎◌, ℕ, List, length, Option, Some, None, refl, sym, ap, ◌∙◌, subst, arith, inl, inr, ⊎_elim, codes}
use Rattle.std.specs.Prelude.{Contains, IsTrue}
use Rattle.std.proofs.lemmas.Option.{same_Some}
use Rattle.dconf_model.specs.Paths.{starts_with_slash}
use Rattle.dconf_model.specs.Table.{Table, item, key, value_kind, list_kind, table_kind, table_of}
use Rattle.dconf_model.specs.Names.{HasName}
use Rattle.dconf_model.specs.Searchable.{IsSearchable}
use Rattle.dconf_model.specs.Sound.{IsDirectoryPart, HasParent, HasPlace, list_length, listed, IsChild, ListsChildren, IsLock, IsLockTable, IsSound}
use Rattle.dconf_model.specs.Sound.Rule.{buckets, keys, chain, hash, span, bloom, once, content, place, lists, locks}
use Rattle.dconf_model.specs.Entries.{Entry, Entries, AreEntries, IsLaidOut, IsSpelled, IsTopEntry, IsPartEntry, EntryHasParent, IsChildEntry, IsRootEntry, Children, AreChildren, IsLaidList, IsLockEntry, AreLaidLocks, LaidIsSound, RowsAreEntries}
use Rattle.dconf_model.proofs.LaidGroups.{not_before_first, before_next, group_is}
use Rattle.dconf_model.proofs.LaidNames.{has_name, name_is, is_entry}
use Rattle.dconf_model.proofs.LaidSearchable.{laid_is_searchable, entry_at}

-- ---- places

top_is : (x : Entry) (kind : ℕ) (key : List ℕ) → kind ≡ x.kind → key ≡ x.key → IsTopEntry x → (kind ≡ list_kind) × (key ≡ codes "/") ⊎ (kind ≡ table_kind) × (key ≡ codes ".locks")
top_is x kind key k e (inl l) = inl (k ∙ l.0, e ∙ l.1)
top_is x kind key k e (inr r) = inr (k ∙ r.0, e ∙ r.1)

part_is : (x : Entry) (kind : ℕ) (key : List ℕ) → kind ≡ x.kind → key ≡ x.key → IsPartEntry x → (kind ≡ value_kind) × ¬ Contains key 47 ⊎ (kind ≡ list_kind) × IsDirectoryPart key
part_is x kind key k e (inl l) = inl (k ∙ l.0, subst (λ (b : List ℕ). ¬ Contains b 47) (sym e) l.1)
part_is x kind key k e (inr r) = inr (k ∙ r.0, subst (λ (b : List ℕ). IsDirectoryPart b) (sym e) r.1)

entry_parent : (t : Table) (e : Entries) (i : ℕ) → IsLaidOut t e → AreEntries e → i < e.count → (o : Option ℕ) → (e.entry i).parent ≡ o → EntryHasParent e i o → HasParent t i o
entry_parent t e i laid are here None is has_parent =
    let x = laid.items i here in top_is (e.entry i) (item t i).kind (key t i) x.of_kind x.key_is has_parent
entry_parent t e i laid are here (Some p) is has_parent =
    let x = laid.items i here in
    let there : p < e.count = parent_is_entry (are.each i here).spelled in
    ((laid.items p there).of_kind ∙ has_parent.0, part_is (e.entry i) (item t i).kind (key t i) x.of_kind x.key_is has_parent.1)
  where
    parent_is_entry : IsSpelled e i (e.entry i).parent → p < e.count
    parent_is_entry s = (subst (λ (o : Option ℕ). IsSpelled e i o) is s).0

has_place : (t : Table) (e : Entries) (i : ℕ) → IsLaidOut t e → AreEntries e → i < e.count → IsRootEntry e i → HasPlace t i
has_place t e i laid are here root =
    let x = laid.items i here in
    record {
      has_parent = subst (λ (o : Option ℕ). HasParent t i o) (sym x.parent) (entry_parent t e i laid are here (e.entry i).parent refl root.has_parent);
      short = λ name h. subst (λ (n : List ℕ). length n ≤ 65535) (sym (name_is t e i name laid are h)) root.short;
    }

-- ---- lists

is_child : (t : Table) (e : Entries) (i j : ℕ) → IsLaidOut t e → IsChildEntry e i j → IsChild t i j
is_child t e i j laid c = (let n = laid.counted in let l = c.0 in omega (arith, n, l), (laid.items j c.0).parent ∙ c.1)

is_child_entry : (t : Table) (e : Entries) (i j : ℕ) → IsLaidOut t e → IsChild t i j → IsChildEntry e i j
is_child_entry t e i j laid c =
    let here = entry_at t e j laid c.0 in (here, sym (laid.items j here).parent ∙ c.1)

-- a number of the list is that of a child
listed_child : (t : Table) (e : Entries) (c : Children) (i k : ℕ) → IsLaidOut t e → AreChildren e c → i < e.count → IsLaidList t c i → k < list_length t i → IsChild t i (listed t i k)
listed_child t e c i k laid are here list l =
    let size = list.size in
    let g = group_is c.count (e.count + 1) c.directory c.first are.firsts i (c.first i + k) (omega (arith, here)) (omega arith) (omega (arith, size, l)) in
    subst (λ (j : ℕ). IsChild t i j) (sym (list.numbers k l))
    (is_child t e i (c.child (c.first i + k)) laid (subst (λ (d : ℕ). IsChildEntry e d (c.child (c.first i + k))) g.1 (are.children (c.first i + k) g.0)))

-- and each child is in the list
child_is_listed : (t : Table) (e : Entries) (c : Children) (i j : ℕ) → IsLaidOut t e → AreChildren e c → i < e.count → IsLaidList t c i → IsChildEntry e i j → (k : ℕ) × (k < list_length t i) × (listed t i k ≡ j)
child_is_listed t e c i j laid are here list child =
    let at = are.each j i child in
    let m = at.0 in
    let own : c.directory m ≡ i = same_Some (c.directory m) i (sym (subst (λ (x : ℕ). (e.entry x).parent ≡ Some (c.directory m)) at.2 (are.children m at.1).1) ∙ child.1) in
    let from = not_before_first c.count (e.count + 1) c.directory c.first are.firsts m at.1 (omega (arith, own, here)) in
    let to = before_next c.count (e.count + 1) c.directory c.first are.firsts m at.1 (omega (arith, own, here)) in
    let first : c.first i ≤ m = subst (λ (d : ℕ). c.first d ≤ m) own from in
    let last : m < c.first (i + 1) = subst (λ (d : ℕ). m < c.first (d + 1)) own to in
    let size = list.size in
    let back : c.first i + (m - c.first i) ≡ m = omega (arith, first) in
    let inside : m - c.first i < list_length t i = omega (arith, first, last, size) in
    (m - c.first i, inside, list.numbers (m - c.first i) inside ∙ (ap c.child back ∙ at.2))

listed_once : (t : Table) (e : Entries) (c : Children) (i k m : ℕ) → AreChildren e c → i < e.count → IsLaidList t c i → k < list_length t i → m < list_length t i → listed t i k ≡ listed t i m → k ≡ m
listed_once t e c i k m are here list l n same =
    let size = list.size in
    let w = are.firsts.within (i + 1) (omega (arith, here)) in
    let e : c.first i + k ≡ c.first i + m = are.once (c.first i + k) (c.first i + m) (omega (arith, size, l, w)) (omega (arith, size, n, w)) (sym (list.numbers k l) ∙ (same ∙ list.numbers m n)) in
    omega (arith, e)

lists_children : (t : Table) (e : Entries) (c : Children) (i : ℕ) → IsLaidOut t e → AreEntries e → AreChildren e c → i < e.count → IsLaidList t c i → IsRootEntry e i → (e.entry i).kind ≡ list_kind → ListsChildren t i
lists_children t e c i laid entries are here list root kind = record {
  children_alone = λ k l. listed_child t e c i k laid are here list l;
  each_child = λ j child. child_is_listed t e c i j laid are here list (is_child_entry t e i j laid child);
  once = λ k m l n same. listed_once t e c i k m are here list l n same;
  empty_at_root = λ none. ⊎_elim
      (λ (is : (e.entry i).name ≡ codes "/"). subst (HasName t i) is (has_name t e i laid entries here))
      (λ (some : (j : ℕ) × IsChildEntry e i j).
      let at = child_is_listed t e c i some.0 laid are here list some.1 in
      let l = at.1 in absurd (omega (arith, l, none)))
      (root.child kind);
}

-- ---- locks

is_lock : (t : Table) (e : Entries) (i : ℕ) → IsLaidOut t e → i < e.count → IsLockEntry (e.entry i) → IsLock t i
is_lock t e i laid here lock =
    let x = laid.items i here in
    record {
      value = x.of_kind ∙ lock.value;
      whole = x.parent ∙ lock.whole;
      absolute = subst (λ (k : List ℕ). IsTrue (starts_with_slash k)) (sym x.key_is) lock.absolute;
    }

laid_locks : (t : Table) (e : Entries) → AreLaidLocks t e → IsLockTable t
laid_locks t e are = record {
  opens = are.opens;
  searchable = laid_is_searchable t e are.laid are.entries;
  locks = λ i here. let at = entry_at t e i are.laid here in is_lock t e i are.laid at (are.locks i at);
}

-- ---- all rules

pub laid_is_sound : LaidIsSound
laid_is_sound t e c l root = rules_kept
  where
    s : IsSearchable t
    s = laid_is_searchable t e root.laid root.entries

    rules_kept : IsSound t
    rules_kept buckets = s.buckets
    rules_kept keys = s.good_key
    rules_kept chain = s.chain
    rules_kept hash = s.hash
    rules_kept span = s.in_span
    rules_kept bloom = s.in_bloom
    rules_kept once = s.once
    rules_kept content = s.content
    rules_kept place = λ i here. let at = entry_at t e i root.laid here in has_place t e i root.laid root.entries at (root.root i at)
    rules_kept lists = λ i here kind.
        let at = entry_at t e i root.laid here in
        let list = sym (root.laid.items i at).of_kind ∙ kind in
        lists_children t e c i root.laid root.entries root.children at (root.lists i at list) (root.root i at) list
    rules_kept locks = λ i here h.
        let at = entry_at t e i root.laid here in
        laid_locks (table_of t i) l (root.locks i at (sym (name_is t e i (codes ".locks") root.laid root.entries h)))

-- ---- rows

pub rows_are_entries : RowsAreEntries
rows_are_entries t e name kind bytes laid are = (
  λ rows.
      let row = rows.1 in
      let here = is_entry t e rows.0 name laid row.named in
      (rows.0, here, name_is t e rows.0 name laid are row.named, sym (laid.items rows.0 here).of_kind ∙ row.of_kind, rows.2),
  λ at.
      let here = at.1 in
      let x = laid.items at.0 here in
      (at.0, record { named = subst (HasName t at.0) (sym at.2) (has_name t e at.0 laid are here); of_kind = x.of_kind ∙ at.3; valid = x.valid }, at.4),
)
