-- The items of a table in which entries are laid out have the entries' names.
use Rattle.std.proofs.Common.{◌≡◌, ◌<◌, ◌+◌, ◌↔◌, ℕ, zero, suc, List, [], ◌∷◌, ◌++◌, length, Option, Some, None, refl, sym, ap, ◌∙◌, subst, arith, length-append}
use Rattle.std.proofs.lemmas.Option.{same_Some}
use Rattle.dconf_model.specs.Table.{Table, item_count, key}
use Rattle.dconf_model.specs.Names.{HasName, IsItem}
use Rattle.dconf_model.specs.Entries.{Entries, IsSpelled, AreEntries, IsLaidOut}
use Rattle.dconf_model.proofs.ComputedNames.{name_of_named}
use Rattle.dconf_model.proofs.RowLaws.{counted}

pub is_counted : (t : Table) (e : Entries) (i : ℕ) → IsLaidOut t e → i < e.count → i < item_count t
is_counted t e i laid here = subst (λ (n : ℕ). i < n) (sym laid.counted) here

laid_item : (t : Table) (e : Entries) (i : ℕ) → IsLaidOut t e → i < e.count → IsItem t i
laid_item t e i laid here = record { counted = is_counted t e i laid here; key_inside = (laid.items i here).key_inside }

pub some_key : (t : Table) (e : Entries) (i : ℕ) → IsLaidOut t e → AreEntries e → i < e.count → 0 < length (key t i)
some_key t e i laid are here =
    subst (λ (k : List ℕ). 0 < length k) (sym (laid.items i here).key_is) (are.each i here).some

-- a directory's name is shorter
pub shorter : (name prefix back : List ℕ) → name ≡ prefix ++ back → 0 < length back → length prefix < length name
shorter name prefix back e some = let n : length name ≡ length prefix + length back = ap length e ∙ length-append prefix back in omega (arith, n, some)

named_by : (t : Table) (e : Entries) (i : ℕ) → IsLaidOut t e → AreEntries e → i < e.count → (o : Option ℕ) → (e.entry i).parent ≡ o → IsSpelled e i o → ((p : ℕ) → p < e.count → length (e.entry p).name < length (e.entry i).name → HasName t p (e.entry p).name) → HasName t i (e.entry i).name
named_by t e i laid are here None is spelled above =
    let x = laid.items i here in
    record { parents = []; chain = (laid_item t e i laid here, x.parent ∙ is); spelled = x.key_is ∙ sym spelled }
named_by t e i laid are here (Some p) is spelled above =
    let x = laid.items i here in
    let h = above p spelled.0 (shorter _ _ _ spelled.1 (are.each i here).some) in
    record {
      parents = p ∷ h.parents;
      chain = (laid_item t e i laid here, x.parent ∙ is, some_key t e i laid are here, h.chain);
      spelled = ap (λ (l : List ℕ). l ++ key t i) h.spelled ∙ (ap (λ (l : List ℕ). (e.entry p).name ++ l) x.key_is ∙ sym spelled.1);
    }

named_within : (n : ℕ) (t : Table) (e : Entries) (i : ℕ) → IsLaidOut t e → AreEntries e → i < e.count → length (e.entry i).name < n → HasName t i (e.entry i).name
named_within zero t e i laid are here few = absurd (omega (arith, few))
named_within (suc n) t e i laid are here few =
    named_by t e i laid are here (e.entry i).parent refl (are.each i here).spelled
    (λ p there less. named_within n t e p laid are there (omega (arith, few, less)))

-- each item has its entry's name, and no other
pub has_name : (t : Table) (e : Entries) (i : ℕ) → IsLaidOut t e → AreEntries e → i < e.count → HasName t i (e.entry i).name
has_name t e i laid are here = named_within (length (e.entry i).name + 1) t e i laid are here (omega arith)

pub one_name : (t : Table) (i : ℕ) (a b : List ℕ) → HasName t i a → HasName t i b → a ≡ b
one_name t i a b h k = same_Some a b (sym (name_of_named t i a h) ∙ name_of_named t i b k)

pub is_entry : (t : Table) (e : Entries) (i : ℕ) (name : List ℕ) → IsLaidOut t e → HasName t i name → i < e.count
is_entry t e i name laid h = subst (λ (n : ℕ). i < n) laid.counted (counted t i name h)

pub name_is : (t : Table) (e : Entries) (i : ℕ) (name : List ℕ) → IsLaidOut t e → AreEntries e → HasName t i name → name ≡ (e.entry i).name
name_is t e i name laid are h = one_name t i name (e.entry i).name h (has_name t e i laid are (is_entry t e i name laid h))

-- what an item is named is what an entry is named
pub named_as_entries : (t : Table) (e : Entries) (i : ℕ) (name : List ℕ) → IsLaidOut t e → AreEntries e → HasName t i name ↔ ((i < e.count) × (name ≡ (e.entry i).name))
named_as_entries t e i name laid are = (
  λ h. (is_entry t e i name laid h, name_is t e i name laid are h),
  λ p. subst (HasName t i) (sym p.1) (has_name t e i laid are p.0),
)
