-- Items that have a place: their parents, and the table of locks.
use Rattle.std.proofs.Common.{ℕ, ◌<◌, ◌≡◌, List, [], ◌∷◌, ◌++◌, Some, None, sym, ◌∙◌, ap, subst, arith, inl, inr}
use Rattle.std.specs.Prelude.{codes}
use Rattle.dconf_model.specs.Table.{Table, item, item_count, key, list_kind, table_kind}
use Rattle.dconf_model.specs.Names.{HasName, HasParents, joined}
use Rattle.dconf_model.specs.Sound.{IsTop, KeepsAll, HasParent}
use Rattle.dconf_model.specs.Sound.Rule.{place}

pub parent_is_list : (t : Table) (i p : ℕ) → KeepsAll t place → i < item_count t → (item t i).parent ≡ Some p → (item t p).kind ≡ list_kind
parent_is_list t i p places counted up =
    let has_parent : HasParent t i (Some p) = subst (HasParent t i) up (places i counted).has_parent in has_parent.0

is_top : (t : Table) (i : ℕ) → KeepsAll t place → i < item_count t → (item t i).parent ≡ None → IsTop t i
is_top t i places counted none = subst (HasParent t i) none (places i counted).has_parent

list_is_no_table : (kind : ℕ) → kind ≡ list_kind → kind ≡ table_kind → ⊥
list_is_no_table kind one other = omega (arith, one, other)

-- the name of a directory begins with a slash
begins_with_slash : (t : Table) → KeepsAll t place → (ps : List ℕ) (i : ℕ) → HasParents t i ps → (item t i).kind ≡ list_kind → (rest : List ℕ) × (joined t i ps ≡ 47 ∷ rest)
begins_with_slash t places [] i chain of_kind = elim (is_top t i places chain.0.counted chain.1) [
  | inl root ↦ ([], root.1)
  | inr other ↦ absurd (list_is_no_table (item t i).kind of_kind other.0)
]
begins_with_slash t places (p ∷ ps) i chain of_kind =
    let up = begins_with_slash t places ps p chain.3 (parent_is_list t i p places chain.0.counted chain.1) in
    (up.0 ++ key t i, ap (λ (prefix : List ℕ). prefix ++ key t i) up.1)

abbrev first : List ℕ → ℕ
first [] = 0
first (x ∷ xs) = x

no_slash_first : (rest : List ℕ) → 47 ∷ rest ≡ codes ".locks" → ⊥
no_slash_first rest e = let other : 47 ≡ 46 = ap first e in omega (arith, other)

-- so that only a table has this name
locks_by_parents : (t : Table) → KeepsAll t place → (i : ℕ) (ps : List ℕ) → HasParents t i ps → joined t i ps ≡ codes ".locks" → (item t i).kind ≡ table_kind
locks_by_parents t places i [] chain spelled = elim (is_top t i places chain.0.counted chain.1) [
  | inl root ↦ absurd (no_slash_first [] (sym root.1 ∙ spelled))
  | inr locks ↦ locks.0
]
locks_by_parents t places i (p ∷ ps) chain spelled =
    let up = begins_with_slash t places ps p chain.3 (parent_is_list t i p places chain.0.counted chain.1) in
    absurd (no_slash_first (up.0 ++ key t i) (sym (ap (λ (prefix : List ℕ). prefix ++ key t i) up.1) ∙ spelled))

pub locks_is_table : (t : Table) (i : ℕ) → KeepsAll t place → HasName t i (codes ".locks") → (item t i).kind ≡ table_kind
locks_is_table t i places named = locks_by_parents t places i named.parents named.chain named.spelled
