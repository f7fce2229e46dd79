-- In a plan, `.locks` is the table of locks, which is there where there are locks.
use Rattle.std.proofs.Common.{◌≡◌, ◌<◌, ℕ, List, [], ◌∷◌, ◌++◌, true, false, Option, Some, None, sym, ap, ◌∙◌, subst, arith, inl, inr, codes, append_assoc}
use Rattle.std.specs.Prelude.{IsTrue, is_some}
use Rattle.dconf_model.specs.Table.{value_kind, list_kind, table_kind}
use Rattle.dconf_model.specs.Paths.{is_key_path, ends_with_slash}
use Rattle.dconf_model.specs.Sound.{IsDirectoryPart}
use Rattle.dconf_model.specs.Settings.{Settings, IsSettings}
use Rattle.dconf_model.specs.Entries.{Entries, IsSpelled, IsPartEntry, EntryHasParent}
use Rattle.dconf_model.specs.Plans.{Plan, IsPlanOf, HasLocks}
use Rattle.dconf_model.proofs.PlanRows.{names_locks}
use Rattle.dconf_model.proofs.PathLaws.{ends_in}

-- a directory's name ends in its slash
part_ends : (directory key : List ℕ) → IsDirectoryPart key → ends_with_slash (directory ++ key) ≡ true
part_ends directory key part =
    ends_in (directory ++ key) (directory ++ part.name)
    (ap (λ (k : List ℕ). directory ++ k) part.whole ∙ sym (append_assoc directory part.name (47 ∷ [])))

not_a_path : (s : Settings) (p : Plan) (i : ℕ) → IsSettings s → IsPlanOf s p → i < p.root.count → (p.root.entry i).name ≡ codes ".locks" → (p.root.entry i).kind ≡ value_kind → ⊥
not_a_path s p i settings is here name kind =
    let kept = ap (λ (o : Option (List ℕ)). is_some o) (is.values i here kind) in
    let bad : false ≡ true = subst (λ (n : List ℕ). IsTrue (is_key_path n)) name (settings.valued (p.root.entry i).name kept) in
    cc

locks_kind_under : (s : Settings) (p : Plan) (i : ℕ) → IsSettings s → IsPlanOf s p → i < p.root.count → (p.root.entry i).name ≡ codes ".locks" → (o : Option ℕ) → IsSpelled p.root i o → EntryHasParent p.root i o → (p.root.entry i).kind ≡ table_kind
locks_kind_under s p i settings is here name None spelled (inl top) = let bad : codes ".locks" ≡ codes "/" = sym name ∙ (spelled ∙ top.1) in cc
locks_kind_under s p i settings is here name None spelled (inr locks) = locks.0
locks_kind_under s p i settings is here name (Some d) spelled has_parent = by has_parent.1
  where
    by : IsPartEntry (p.root.entry i) → (p.root.entry i).kind ≡ table_kind
    by (inl value) = absurd (not_a_path s p i settings is here name value.0)
    by (inr list) =
        let bad : false ≡ true = subst (λ (n : List ℕ). ends_with_slash n ≡ true) (sym spelled.1 ∙ name) (part_ends (p.root.entry d).name (p.root.entry i).key list.1) in
        cc

pub locks_kind : (s : Settings) (p : Plan) (i : ℕ) → IsSettings s → IsPlanOf s p → i < p.root.count → (p.root.entry i).name ≡ codes ".locks" → (p.root.entry i).kind ≡ table_kind
locks_kind s p i settings is here name =
    locks_kind_under s p i settings is here name (p.root.entry i).parent (is.entries.each i here).spelled (is.places i here).has_parent

locks_name_under : (e : Entries) (i : ℕ) → (e.entry i).kind ≡ table_kind → (o : Option ℕ) → IsSpelled e i o → EntryHasParent e i o → (e.entry i).name ≡ codes ".locks"
locks_name_under e i kind None spelled (inl top) = let bad : list_kind ≡ table_kind = sym top.0 ∙ kind in absurd (omega (arith, bad))
locks_name_under e i kind None spelled (inr locks) = spelled ∙ locks.1
locks_name_under e i kind (Some d) spelled has_parent = by has_parent.1
  where
    by : IsPartEntry (e.entry i) → (e.entry i).name ≡ codes ".locks"
    by (inl value) = let bad : value_kind ≡ table_kind = sym value.0 ∙ kind in absurd (omega (arith, bad))
    by (inr list) = let bad : list_kind ≡ table_kind = sym list.0 ∙ kind in absurd (omega (arith, bad))

-- where there is a table, there are locks
pub table_has_locks : (s : Settings) (p : Plan) (i : ℕ) → IsSettings s → IsPlanOf s p → i < p.root.count → (p.root.entry i).kind ≡ table_kind → 0 < p.locks.count
table_has_locks s p i settings is here kind =
    let name = locks_name_under p.root i kind (p.root.entry i).parent (is.entries.each i here).spelled (is.places i here).has_parent in
    let locked : HasLocks s = names_locks s (p.root.entry i).name settings name (is.names.each i here) in
    let found = is.lock_names.all locked.0 locked.1 in
    let l = found.1 in
    omega (arith, l)
