-- Items whose keys and parents are the same have the same names.
use Rattle.std.specs.Prelude.{option_map, nat_lt}
use Rattle.std.proofs.Common.{◌≡◌, ◌<◌, ◌∙◌, ◌++◌, ℕ, zero, suc, Bool, true, false, cond, ltb-true, le-leb, List, length, Option, Some, None, ap, ap₂, sym, subst, refl}
use Rattle.dconf_model.specs.Names.{HasName, name_by, name_within}
use Rattle.dconf_model.specs.Table.{Table, item, item_count, key}
use Rattle.dconf_model.proofs.NameSteps.{at_root, ends_in_key, is_item, moves_up}
use Rattle.gvdb_alike.specs.NamesAlike.{AreNamedAlike, AreStepsAlike, GoesByName, HasSameKey}

module _ (t u : Table) where
  abbrev joins : List ℕ → Option (List ℕ) → Option (List ℕ)
  joins k above = cond (nat_lt 0 (length k)) (option_map (λ prefix. prefix ++ k) above) None

  named_by : (above below : ℕ → Option (List ℕ)) (i : ℕ) → ((j : ℕ) → above j ≡ below j) → key t i ≡ key u i → (p : Option ℕ) → name_by above t i p ≡ name_by below u i p
  named_by above below i same keys None = ap (λ k. Some k) keys
  named_by above below i same keys (Some p) = ap₂ joins keys (same p)

module _ (t u : Table) (counted : item_count t ≡ item_count u) (steps : (i : ℕ) → i < item_count t → AreStepsAlike t u i) where
  step_named : (n i : ℕ) → ((j : ℕ) → name_within n t j ≡ name_within n u j) → name_within (suc n) t i ≡ name_within (suc n) u i
  step_named n i above = go (nat_lt i (item_count t)) refl
    where
      go : (b : Bool) → nat_lt i (item_count t) ≡ b → name_within (suc n) t i ≡ name_within (suc n) u i
      go false e = rw (e, sym (ap (λ k. nat_lt i k) counted) ∙ e) refl
      go true e =
          let s = steps i (ltb-true i (item_count t) e) in
          rw (e, sym (ap (λ k. nat_lt i k) counted) ∙ e, le-leb _ _ s.inside, le-leb _ _ s.also_inside)
          (named_by t u (name_within n t) (name_within n u) i above s.key (item t i).parent
          ∙ ap (λ p. name_by (name_within n u) u i p) s.parent)

  named_within : (n i : ℕ) → name_within n t i ≡ name_within n u i
  named_within zero i = refl
  named_within (suc n) i = step_named n i (named_within n)

  pub steps_name : AreNamedAlike t u
  steps_name = record { counted = counted; named = λ i. named_within (item_count t) i ∙ ap (λ n. name_within n u i) counted }

-- ---- names that have the same parts

module _ (t u : Table) (i j : ℕ) (same : HasSameKey t i u j) where
  -- a name ends in its item's key
  ends : (name : List ℕ) → HasName t i name → (prefix : List ℕ) × (name ≡ prefix ++ key t i)
  ends name h = let e = ends_in_key t i h.parents in (e.0, sym h.spelled ∙ e.1)

  pub go_by_root : (item t i).parent ≡ None → (item u j).parent ≡ None → GoesByName t i u j
  go_by_root here there name h =
      let e = ends name h in
      (at_root u j e.0 name same.there there (e.1 ∙ ap (λ (k : List ℕ). e.0 ++ k) same.key)).0
      ((at_root t i e.0 name (is_item t i name h) here e.1).1 h)

  pub go_by_parents : (p q : ℕ) → (item t i).parent ≡ Some p → (item u j).parent ≡ Some q → GoesByName t p u q → GoesByName t i u j
  go_by_parents p q here there above name h =
      let e = ends name h in
      let long : 0 < length (key t i) = subst (λ (k : List ℕ). 0 < length k) (sym same.key) same.some in
      (moves_up u j q e.0 name same.there there same.some (e.1 ∙ ap (λ (k : List ℕ). e.0 ++ k) same.key)).0
      (above e.0 ((moves_up t i p e.0 name (is_item t i name h) here long e.1).1 h))
