-- One item of a walk along parents, against the end of a name.
use Rattle.std.proofs.Common.{ℕ, List, Some, None, [], ◌∷◌, ◌++◌, ◌≡◌, ◌≢◌, ◌<◌, ◌↔◌, length, refl, sym, ◌∙◌, ap, subst}
use Rattle.std.proofs.lemmas.List.{append_cancel_right}
use Rattle.std.proofs.lemmas.Option.{none-some, same_Some}
use Rattle.dconf_model.specs.Table.{Table, item, key}
use Rattle.dconf_model.specs.Names.{HasName, HasParents, IsItem, joined}

pub parents_item : (t : Table) (i : ℕ) (ps : List ℕ) → HasParents t i ps → IsItem t i
parents_item t i [] h = h.0
parents_item t i (p ∷ ps) h = h.0

pub is_item : (t : Table) (i : ℕ) (name : List ℕ) → HasName t i name → IsItem t i
is_item t i name h = parents_item t i h.parents h.chain

pub ends_in_key : (t : Table) (i : ℕ) (ps : List ℕ) → (prefix : List ℕ) × (joined t i ps ≡ prefix ++ key t i)
ends_in_key t i [] = ([], refl)
ends_in_key t i (p ∷ ps) = (joined t p ps, refl)

-- a name ends in its item's key
pub no_suffix : (t : Table) (i : ℕ) (name : List ℕ) → ((prefix : List ℕ) → name ≢ prefix ++ key t i) → HasName t i name → ⊥
no_suffix t i name none h = let e = ends_in_key t i h.parents in none e.0 (sym h.spelled ∙ e.1)

root_parents : (t : Table) (i : ℕ) (ps : List ℕ) → (item t i).parent ≡ None → HasParents t i ps → joined t i ps ≡ key t i
root_parents t i [] none h = refl
root_parents t i (p ∷ ps) none h = absurd (none-some p (sym none ∙ h.1))

-- at an item without parent the name is the key
pub at_root : (t : Table) (i : ℕ) (prefix name : List ℕ) → IsItem t i → (item t i).parent ≡ None → name ≡ prefix ++ key t i → (prefix ≡ []) ↔ HasName t i name
at_root t i prefix name here none is = (
  λ e. record { parents = []; chain = (here, none); spelled = sym (is ∙ ap (λ (l : List ℕ). l ++ key t i) e) },
  λ h. append_cancel_right prefix [] (key t i) (sym is ∙ (sym h.spelled ∙ root_parents t i h.parents none h.chain)),
)

up_parents : (t : Table) (i p : ℕ) (ps : List ℕ) (prefix : List ℕ) → (item t i).parent ≡ Some p → HasParents t i ps → joined t i ps ≡ prefix ++ key t i → (0 < length (key t i)) × HasName t p prefix
up_parents t i p [] prefix some h e = absurd (none-some p (sym h.1 ∙ some))
up_parents t i p (q ∷ ps) prefix some h e =
    let same : q ≡ p = same_Some q p (sym h.1 ∙ some) in
    (h.2, subst (λ (k : ℕ). HasName t k prefix) same record { parents = ps; chain = h.3; spelled = append_cancel_right (joined t q ps) prefix (key t i) e })

-- at another the rest is the parent's name
pub moves_up : (t : Table) (i p : ℕ) (prefix name : List ℕ) → IsItem t i → (item t i).parent ≡ Some p → 0 < length (key t i) → name ≡ prefix ++ key t i → HasName t p prefix ↔ HasName t i name
moves_up t i p prefix name here some long is = (
  λ h. record { parents = p ∷ h.parents; chain = (here, some, long, h.chain); spelled = ap (λ (l : List ℕ). l ++ key t i) h.spelled ∙ sym is },
  λ h. (up_parents t i p h.parents prefix some h.chain (h.spelled ∙ is)).1,
)

pub empty_key : (t : Table) (i p : ℕ) (prefix name : List ℕ) → (item t i).parent ≡ Some p → name ≡ prefix ++ key t i → HasName t i name → 0 < length (key t i)
empty_key t i p prefix name some is h = (up_parents t i p h.parents prefix some h.chain (h.spelled ∙ is)).0
