-- Names that are placed, in order and with children are entries of a root table.
use Rattle.std.proofs.Common.{rules, arith, ◌≡◌, ◌<◌, ◌+◌, ◌-◌, ℕ, zero, suc, List, [], ◌∷◌, ◌++◌, length, get_or, take, Option, Some, None, sym, ap, ◌∙◌, subst, inl, inr, length-append}
use Rattle.std.proofs.lemmas.Grind.{common_steps}
use Rattle.std.specs.declared.cmp.Ordering.TheVariants.{Less, Equal}
use Rattle.std.specs.Cmp.Lexicographic.{slice_cmp}
use Rattle.std.specs.Ordering.{nat_cmp}
use Rattle.std.proofs.lemmas.Bool.{cases_lt}
use Rattle.std.proofs.lemmas.Cmp.{nat_list_cmp_total, tied_itself}
use Rattle.std.proofs.lemmas.List.{take_at, get_or-take, get_or_at}
use Rattle.dconf_model.specs.Table.{value_kind, list_kind}
use Rattle.dconf_model.specs.Settings.{Settings}
use Rattle.dconf_model.specs.Entries.{IsSpelled, IsEntry, AreEntries, IsPartEntry, EntryHasParent, IsRootEntry, EachEntry}
use Rattle.dconf_model.specs.Plans.{IsDirectoryOf, IsRootName}
use Rattle.dconf_model.specs.Plans.IsRootName.{top, key, directory, locks}
use Rattle.gvdb_maps.specs.declared.names.Named.{Named}
use Rattle.gvdb_maps.specs.PlanWords.{entry_of, entries_of, named, name_at, kind_at, IsSlash, EndsAs, IsFit, NameHasParent, IsPlaced, ArePlaced, AreAscending, AreGood, IsThere, AreNamesOf}
use Rattle.gvdb_maps.proofs.PathTexts.{end_is}
use Rattle.gvdb_maps.proofs.KeysRise.{kept_at}
use Rattle.std.specs.Prelude.{IsTrue}
use Rattle.std.specs.FinMap.{contains_key}

-- ---- entries

spelled : (names : List Named) (i : ℕ) → i < length names → (o : Option ℕ) → NameHasParent names i o → IsSpelled (entries_of names) i o
spelled names i here None s = grind (arith, common_steps)
spelled names i here (Some p) s = grind (arith, common_steps)

is_entry : (names : List Named) (i : ℕ) → i < length names → IsPlaced names i → IsEntry (entries_of names) i
is_entry names i here p = grind (arith, common_steps)

not_itself : (names : List Named) (i j : ℕ) → AreAscending names → i < j → j < length names → name_at names i ≡ name_at names j → ⊥
not_itself names i j ascending less here same =
    let tie : slice_cmp nat_cmp (name_at names i) (name_at names j) ≡ Equal =
    ap (λ (x : List ℕ). slice_cmp nat_cmp x (name_at names j)) same ∙ tied_itself nat_list_cmp_total (name_at names j) in
    let bad : Less ≡ Equal = sym (ascending i j less here) ∙ tie in
    cc

pub once_each : (names : List Named) → AreAscending names → (i j : ℕ) → i < length names → j < length names → name_at names i ≡ name_at names j → i ≡ j
once_each names ascending i j a b same = grind (arith, common_steps, cases_lt, not_itself)

pub are_entries : (names : List Named) → ArePlaced names → AreAscending names → AreEntries (entries_of names)
are_entries names placed ascending = record { each = λ i here. is_entry names i here (placed i here); once = once_each names ascending }

-- ---- of a root table

part_entry : (n : Named) → IsFit n → EndsAs n → IsPartEntry (entry_of n)
part_entry n fit (inl value) = grind (arith, common_steps)
part_entry n fit (inr list) = grind (arith, common_steps)

has_parent : (names : List Named) (i : ℕ) → IsFit (named names i) → (o : Option ℕ) → NameHasParent names i o → EntryHasParent (entries_of names) i o
has_parent names i fit None s = s.1
has_parent names i fit (Some p) s = (s.1.directory, part_entry (named names i) fit s.1.ends)

pub are_root_entries : (names : List Named) → AreGood names → EachEntry (entries_of names) (IsRootEntry (entries_of names))
are_root_entries names good i here = search (rules, arith, has_parent)

-- ---- each directory of a name is a name

itself : (names : List Named) (i k : ℕ) → i < length names → kind_at names i ≡ list_kind → k + 1 ≡ length (name_at names i) → IsThere names (take (k + 1) (name_at names i)) list_kind
itself names i k here list end = grind (arith, common_steps)

closed_by : (names : List Named) (i k : ℕ) → i < length names → (o : Option ℕ) → NameHasParent names i o → IsSlash (name_at names i) k
    → ((p : ℕ) → p < i → IsSlash (name_at names p) k → IsThere names (take (k + 1) (name_at names p)) list_kind)
    → IsThere names (take (k + 1) (name_at names i)) list_kind
closed_by names i k here None has_parent s above = grind (arith, common_steps)
closed_by names i k here (Some p) has_parent s above = grind (arith, common_steps)

closed_within : (n : ℕ) (names : List Named) → ArePlaced names → (i k : ℕ) → i < n → i < length names → IsSlash (name_at names i) k → IsThere names (take (k + 1) (name_at names i)) list_kind
closed_within zero names placed i k few here s = absurd (omega (arith, few))
closed_within (suc n) names placed i k few here s =
    closed_by names i k here (named names i).parent (placed i here).has_parent s
    (λ p before up. closed_within n names placed p k (omega (arith, few, before)) (omega (arith, before, here)) up)

pub closed : (names : List Named) → ArePlaced names → (i k : ℕ) → i < length names → IsSlash (name_at names i) k → IsThere names (take (k + 1) (name_at names i)) list_kind
closed names placed i k here s = closed_within (i + 1) names placed i k (omega arith) here s

-- a directory of a path is a prefix of it up to a slash
prefix_slash : (d path : List ℕ) → IsDirectoryOf d path → (k : ℕ) × IsSlash path k × (d ≡ take (k + 1) path)
prefix_slash d path is =
    let ends : d ≡ take (length d - 1) d ++ 47 ∷ [] = end_is d is.slash in
    let some : length d ≡ length (take (length d - 1) d) + 1 = ap (λ (x : List ℕ). length x) ends ∙ length-append (take (length d - 1) d) (47 ∷ []) in
    let long : length path ≡ length d + length is.more = ap (λ (x : List ℕ). length x) is.whole ∙ length-append d is.more in
    let n : length d ≡ length d - 1 + 1 = omega (arith, some) in
    let size : length (take (length d - 1) d) ≡ length d - 1 = omega (arith, some) in
    let at_d : get_or d (length d - 1) 0 ≡ 47 = ap (λ (x : List ℕ). get_or x (length d - 1) 0) ends ∙ get_or_at (take (length d - 1) d) 47 [] 0 (length d - 1) size in
    let prefix : take (length d - 1 + 1) path ≡ d = ap (λ (x : List ℕ). take (length d - 1 + 1) x) is.whole ∙ take_at d is.more (length d - 1 + 1) n in
    let at_path : get_or path (length d - 1) 0 ≡ 47 =
    sym (get_or-take (length d - 1 + 1) path (length d - 1) 0 (omega arith)) ∙ (ap (λ (x : List ℕ). get_or x (length d - 1) 0) prefix ∙ at_d) in
    (length d - 1, record { here = omega (arith, long, some); slash = at_path }, sym prefix)

-- the path of each value is there
pub path_there : (s : Settings) (names : List Named) → AreNamesOf s names → (path : List ℕ) → IsTrue (contains_key s.values path) → IsThere names path value_kind
path_there s names are path kept = let at = kept_at s.values path kept in subst (λ (x : List ℕ). IsThere names x value_kind) at.2 (are.keys at.0 [] at.1)

-- each name that a root table has to have is there
pub all_there : (s : Settings) (names : List Named) → AreNamesOf s names → (name : List ℕ) → IsRootName s name → (i : ℕ) × (i < length names) × (name_at names i ≡ name)
all_there s names are name (top is) = (are.top.at, are.top.counted, are.top.named ∙ sym is)
all_there s names are name (key kept) = let t = path_there s names are name kept in (t.at, t.counted, t.named)
all_there s names are name (directory path kept is) =
    let t = path_there s names are path kept in
    let f = prefix_slash name path is in
    let d = closed names are.good.placed t.at f.0 t.counted (subst (λ (x : List ℕ). IsSlash x f.0) (sym t.named) f.1) in
    (d.at, d.counted, d.named ∙ (ap (λ (x : List ℕ). take (f.0 + 1) x) t.named ∙ sym f.2))
all_there s names are name (locks is some) = let t = are.locks some in (t.at, t.counted, t.named ∙ sym is)
