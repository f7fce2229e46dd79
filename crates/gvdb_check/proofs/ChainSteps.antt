-- A walk from an item up its parents.
use Rattle.std.proofs.Common.{◌≡◌, ◌<◌, ◌≤◌, ◌+◌, ℕ, List, [], ◌∷◌, length, Some, subst, arith, sym, ◌∙◌}
use Rattle.std.proofs.lemmas.Option.{none-some, same_Some}
use Rattle.dconf_model.specs.Table.{Table, item, item_count}
use Rattle.dconf_model.specs.Searchable.{EachItem, HasGoodKey, LeadsUp}
use Rattle.dconf_model.proofs.ParentLaws.{parent_counted, few_steps}

-- from item i so many steps up lead to this one
pub record Climbs (t : Table) (i at steps : ℕ) : Type 0 where
  pub counted : at < item_count t
  pub ahead : (qs : List ℕ) → LeadsUp t at qs → (ps : List ℕ) × LeadsUp t i ps
  pub after : (ps : List ℕ) → LeadsUp t i ps → (qs : List ℕ) × LeadsUp t at qs × (length qs + steps ≡ length ps)

pub at_start : (t : Table) (i : ℕ) → i < item_count t → Climbs t i i 0
at_start t i counted = record { counted = counted; ahead = λ qs up. (qs, up); after = λ ps up. (ps, up, omega arith) }

above : (t : Table) (at p n m : ℕ) (qs : List ℕ) → (item t at).parent ≡ Some p → LeadsUp t at qs → length qs + n ≡ m → (rs : List ℕ) × LeadsUp t p rs × (length rs + (n + 1) ≡ m)
above t at p n m [] up leads e = absurd (none-some p (sym leads ∙ up))
above t at p n m (q ∷ qs) up leads e =
    (qs, subst (λ (x : ℕ). LeadsUp t x qs) (same_Some q p (sym leads.0 ∙ up)) leads.1, omega (arith, e))

-- one step more
pub climbs_more : (t : Table) (i at p n : ℕ) → EachItem t (HasGoodKey t) → Climbs t i at n → (item t at).parent ≡ Some p → Climbs t i p (n + 1)
climbs_more t i at p n good climbs up = record {
  counted = parent_counted t at p good climbs.counted up;
  ahead = λ qs leads. climbs.ahead (p ∷ qs) (up, leads);
  after = λ ps leads. let r = climbs.after ps leads in above t at p n (length ps) r.0 up r.1 r.2;
}

-- as many steps as there are items lead round in a circle
pub in_a_circle : (t : Table) (i at n : ℕ) → EachItem t (HasGoodKey t) → i < item_count t → Climbs t i at n → item_count t ≤ n → (ps : List ℕ) → LeadsUp t i ps → ⊥
in_a_circle t i at n good counted climbs all ps leads =
    let r = climbs.after ps leads in
    let few = few_steps t i ps good counted leads in
    omega (arith, few, all, r.2)

-- the parents of an item's parent end where its own do
pub goes_on : (t : Table) (i p : ℕ) (ps : List ℕ) → (item t i).parent ≡ Some p → LeadsUp t i ps → (qs : List ℕ) × LeadsUp t p qs
goes_on t i p ps up leads = let r = above t i p 0 (length ps) ps up leads (omega arith) in (r.0, r.1)
