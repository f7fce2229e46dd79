-- Entries stay what they are by other numbers.
use Rattle.std.proofs.Common.{◌≡◌, ◌<◌, ◌≤◌, ℕ, List, ◌++◌, length, Option, Some, None, refl, sym, ap, ◌∙◌, subst, arith, inl, inr, ⊎_elim, codes}
use Rattle.std.specs.Prelude.{option_map, Contains, IsUtf8}
use Rattle.dconf_model.specs.Searchable.{IsKind}
use Rattle.dconf_model.specs.Sound.{IsDirectoryPart}
use Rattle.dconf_model.specs.Entries.{Entry, Entries, EachEntry, IsSpelled, IsEntry, AreEntries, EntryHasParent, IsTopEntry, IsPartEntry, IsChildEntry, IsRootEntry}
use Rattle.dconf_model.specs.Renumbered.{renumbered, AreRenumbered}

here : (e f : Entries) (order number : ℕ → ℕ) (i : ℕ) → AreRenumbered e f order number → i < f.count → i < e.count
here e f order number i r l = subst (λ (n : ℕ). i < n) r.counted l

-- entry (number p) of f has the name and kind of entry p of e
pub name_at : (e f : Entries) (order number : ℕ → ℕ) (p : ℕ) → AreRenumbered e f order number → p < e.count → (f.entry (number p)).name ≡ (e.entry p).name
name_at e f order number p r l = ap (λ (x : Entry). x.name) (r.entries (number p) (r.numbered p l)) ∙ ap (λ (q : ℕ). (e.entry q).name) (r.back p l)

pub kind_at : (e f : Entries) (order number : ℕ → ℕ) (p : ℕ) → AreRenumbered e f order number → p < e.count → (f.entry (number p)).kind ≡ (e.entry p).kind
kind_at e f order number p r l = ap (λ (x : Entry). x.kind) (r.entries (number p) (r.numbered p l)) ∙ ap (λ (q : ℕ). (e.entry q).kind) (r.back p l)

spelled_at : (e f : Entries) (order number : ℕ → ℕ) (i : ℕ) (x : Entry) → AreRenumbered e f order number → f.entry i ≡ renumbered number x → (j : ℕ) → e.entry j ≡ x → (o : Option ℕ) → IsSpelled e j o → IsSpelled f i (option_map number o)
spelled_at e f order number i x r is j at None s =
    ap (λ (y : Entry). y.name) is ∙ (sym (ap (λ (y : Entry). y.name) at) ∙ (s ∙ (ap (λ (y : Entry). y.key) at ∙ sym (ap (λ (y : Entry). y.key) is))))
spelled_at e f order number i x r is j at (Some p) s =
    let c = r.counted in
    let l = r.numbered p s.0 in (
      omega (arith, c, l),
      ap (λ (y : Entry). y.name) is ∙ (sym (ap (λ (y : Entry). y.name) at) ∙ (s.1
          ∙ (ap (λ (k : List ℕ). (e.entry p).name ++ k) (ap (λ (y : Entry). y.key) at ∙ sym (ap (λ (y : Entry). y.key) is))
          ∙ ap (λ (n : List ℕ). n ++ (f.entry i).key) (sym (name_at e f order number p r s.0))))),
    )

-- what is said of an entry's fields alone
key_is : (e f : Entries) (order number : ℕ → ℕ) (i : ℕ) → AreRenumbered e f order number → i < e.count → (f.entry i).key ≡ (e.entry (order i)).key
key_is e f order number i r l = ap (λ (y : Entry). y.key) (r.entries i l)

kind_is : (e f : Entries) (order number : ℕ → ℕ) (i : ℕ) → AreRenumbered e f order number → i < e.count → (f.entry i).kind ≡ (e.entry (order i)).kind
kind_is e f order number i r l = ap (λ (y : Entry). y.kind) (r.entries i l)

pub name_is : (e f : Entries) (order number : ℕ → ℕ) (i : ℕ) → AreRenumbered e f order number → i < e.count → (f.entry i).name ≡ (e.entry (order i)).name
name_is e f order number i r l = ap (λ (y : Entry). y.name) (r.entries i l)

parent_is : (e f : Entries) (order number : ℕ → ℕ) (i : ℕ) → AreRenumbered e f order number → i < e.count → (f.entry i).parent ≡ option_map number (e.entry (order i)).parent
parent_is e f order number i r l = ap (λ (y : Entry). y.parent) (r.entries i l)

is_entry : (e f : Entries) (order number : ℕ → ℕ) (i : ℕ) → AreRenumbered e f order number → AreEntries e → i < e.count → IsEntry f i
is_entry e f order number i r are l =
    let y = are.each (order i) (r.ordered i l) in
    let key = sym (key_is e f order number i r l) in
    record {
      spelled = subst (λ (o : Option ℕ). IsSpelled f i o) (sym (parent_is e f order number i r l))
          (spelled_at e f order number i (e.entry (order i)) r (r.entries i l) (order i) refl (e.entry (order i)).parent y.spelled);
      some = subst (λ (k : List ℕ). 0 < length k) key y.some;
      utf8 = subst (λ (k : List ℕ). IsUtf8 k) key y.utf8;
      no_nul = subst (λ (k : List ℕ). ¬ Contains k 0) key y.no_nul;
      of_kind = subst (λ (k : ℕ). IsKind k) (sym (kind_is e f order number i r l)) y.of_kind;
    }

pub entries_renumbered : (e f : Entries) (order number : ℕ → ℕ) → AreRenumbered e f order number → AreEntries e → AreEntries f
entries_renumbered e f order number r are = record {
  each = λ i l. is_entry e f order number i r are (here e f order number i r l);
  once = λ i j l m same.
      let a = here e f order number i r l in
      let b = here e f order number j r m in
      let one = are.once (order i) (order j) (r.ordered i a) (r.ordered j b) (sym (name_is e f order number i r a) ∙ (same ∙ name_is e f order number j r b)) in
      sym (r.forth i a) ∙ (ap number one ∙ r.forth j b);
}

-- ---- the entries of a root table

parent_at : (e f : Entries) (order number : ℕ → ℕ) (i : ℕ) → AreRenumbered e f order number → i < e.count → (o : Option ℕ) → IsSpelled e (order i) o → EntryHasParent e (order i) o → EntryHasParent f i (option_map number o)
parent_at e f order number i r l None spelled has_parent = top_at has_parent
  where
    top_at : IsTopEntry (e.entry (order i)) → IsTopEntry (f.entry i)
    top_at (inl a) = inl (kind_is e f order number i r l ∙ a.0, key_is e f order number i r l ∙ a.1)
    top_at (inr b) = inr (kind_is e f order number i r l ∙ b.0, key_is e f order number i r l ∙ b.1)
parent_at e f order number i r l (Some p) spelled has_parent =
    (kind_at e f order number p r spelled.0 ∙ has_parent.0, part_at has_parent.1)
  where
    part_at : IsPartEntry (e.entry (order i)) → IsPartEntry (f.entry i)
    part_at (inl a) = inl (kind_is e f order number i r l ∙ a.0, subst (λ (k : List ℕ). ¬ Contains k 47) (sym (key_is e f order number i r l)) a.1)
    part_at (inr b) = inr (kind_is e f order number i r l ∙ b.0, subst (λ (k : List ℕ). IsDirectoryPart k) (sym (key_is e f order number i r l)) b.1)

child_at : (e f : Entries) (order number : ℕ → ℕ) (i j : ℕ) → AreRenumbered e f order number → i < e.count → IsChildEntry e (order i) j → IsChildEntry f i (number j)
child_at e f order number i j r l child =
    let c = r.counted in
    let m = r.numbered j child.0 in (
      omega (arith, c, m),
      parent_is e f order number (number j) r m
          ∙ (ap (λ (q : ℕ). option_map number (e.entry q).parent) (r.back j child.0)
          ∙ (ap (λ (o : Option ℕ). option_map number o) child.1 ∙ ap (λ (q : ℕ). Some q) (r.forth i l))),
    )

pub root_renumbered : (e f : Entries) (order number : ℕ → ℕ) → AreRenumbered e f order number → AreEntries e → EachEntry e (IsRootEntry e) → EachEntry f (IsRootEntry f)
root_renumbered e f order number r are root i l =
    let m = here e f order number i r l in
    let y = root (order i) (r.ordered i m) in
    record {
      has_parent = subst (λ (o : Option ℕ). EntryHasParent f i o) (sym (parent_is e f order number i r m))
          (parent_at e f order number i r m (e.entry (order i)).parent (are.each (order i) (r.ordered i m)).spelled y.has_parent);
      short = subst (λ (n : List ℕ). length n ≤ 65535) (sym (name_is e f order number i r m)) y.short;
      child = λ kind. ⊎_elim
          (λ (is : (e.entry (order i)).name ≡ codes "/"). inl (name_is e f order number i r m ∙ is))
          (λ (some : (j : ℕ) × IsChildEntry e (order i) j). inr (number some.0, child_at e f order number i some.0 r m some.1))
          (y.child (sym (kind_is e f order number i r m) ∙ kind));
    }
