-- A walk from an item up its parents, with the bytes of the keys that it has passed.
use Rattle.std.proofs.Common.{◌≡◌, ◌<◌, ◌≤◌, ◌+◌, ℕ, List, [], ◌++◌, length, Some, None, IsTrue, true, false, refl, sym, ◌∙◌, ap, subst, arith, append_assoc, length-append}
use Rattle.std.proofs.lemmas.List.{append-nil}
use Rattle.dconf_model.specs.Table.{Table, item, key}
use Rattle.dconf_model.specs.Names.{HasName, IsItem}
use Rattle.gvdb_format.specs.NameLinks.{MayLead}
use Rattle.dconf_model.proofs.NameSteps.{is_item, ends_in_key, at_root, moves_up, empty_key}

-- a test answers no where P can't be
pub never : {P : Type 0} → (P → ⊥) → (IsTrue false → P) × (P → IsTrue false)
never refuted = (λ h. let bad : false ≡ true = h in cc, λ p. absurd (refuted p))

-- the name of item i is that of the item at hand, and then these bytes
pub record LeadsTo (t : Table) (i at : ℕ) (back : List ℕ) : Type 0 where
  pub down : (prefix : List ℕ) → HasName t at prefix → HasName t i (prefix ++ back)
  pub up : (name : List ℕ) → HasName t i name → (prefix : List ℕ) × HasName t at prefix × (name ≡ prefix ++ back)

pub leads_from : (t : Table) (i : ℕ) → LeadsTo t i i []
leads_from t i = record {
  down = λ prefix h. subst (HasName t i) (sym (append-nil prefix)) h;
  up = λ name h. (name, h, sym (append-nil name));
}

-- the name of the item at hand ends in its key
ends_so : (t : Table) (at : ℕ) (prefix : List ℕ) → HasName t at prefix → (above : List ℕ) × (prefix ≡ above ++ key t at)
ends_so t at prefix h = let e = ends_in_key t at h.parents in (e.0, sym h.spelled ∙ e.1)

-- an item that has a name may lead to it
pub named_leads : (t : Table) (at : ℕ) (name : List ℕ) → HasName t at name → MayLead t at
named_leads t at name h = record {
  here = is_item t at name h;
  takes = λ p some. let e = ends_so t at name h in empty_key t at p e.0 name some e.1 h;
}

-- so the whole name has the bytes of this key and those passed at its end
pub ends_in_all : (t : Table) (i at : ℕ) (back name : List ℕ) → LeadsTo t i at back → HasName t i name → (above : List ℕ) × (name ≡ above ++ (key t at ++ back))
ends_in_all t i at back name leads h =
    let u = leads.up name h in
    let e = ends_so t at u.0 u.1 in
    (e.0, u.2 ∙ (ap (λ (l : List ℕ). l ++ back) e.1 ∙ append_assoc e.0 (key t at) back))

pub is_as_long : (t : Table) (i at : ℕ) (back name : List ℕ) → LeadsTo t i at back → HasName t i name → length (key t at) + length back ≤ length name
is_as_long t i at back name leads h =
    let e = ends_in_all t i at back name leads h in
    omega (arith, ap (λ (l : List ℕ). length l) e.1, length-append e.0 (key t at ++ back), length-append (key t at) back)

-- a name goes through the item at hand alone where that may lead
pub no_way : (t : Table) (i at : ℕ) (back name : List ℕ) → LeadsTo t i at back → (MayLead t at → ⊥) → HasName t i name → ⊥
no_way t i at back name leads none h = let u = leads.up name h in none (named_leads t at u.0 u.1)

-- one item more
pub leads_more : (t : Table) (i at p : ℕ) (back : List ℕ) → LeadsTo t i at back → IsItem t at → (item t at).parent ≡ Some p → 0 < length (key t at) → LeadsTo t i p (key t at ++ back)
leads_more t i at p back leads here some long = record {
  down = λ prefix h.
      subst (HasName t i) (append_assoc prefix (key t at) back)
      (leads.down (prefix ++ key t at) ((moves_up t at p prefix (prefix ++ key t at) here some long refl).0 h));
  up = λ name h.
      let u = leads.up name h in
      let e = ends_so t at u.0 u.1 in
      (e.0, (moves_up t at p e.0 u.0 here some long e.1).1 u.1, u.2 ∙ (ap (λ (l : List ℕ). l ++ back) e.1 ∙ append_assoc e.0 (key t at) back));
}

-- at the last item the key and the bytes passed are the name
pub joined_name : (t : Table) (i at : ℕ) (back : List ℕ) → LeadsTo t i at back → IsItem t at → (item t at).parent ≡ None → HasName t i (key t at ++ back)
joined_name t i at back leads here none = leads.down (key t at) ((at_root t at [] (key t at) here none refl).0 refl)

-- and the only name
pub only_name : (t : Table) (i at : ℕ) (back name : List ℕ) → LeadsTo t i at back → IsItem t at → (item t at).parent ≡ None → HasName t i name → name ≡ key t at ++ back
only_name t i at back name leads here none h =
    let u = leads.up name h in
    let e = ends_so t at u.0 u.1 in
    let first : e.0 ≡ [] = (at_root t at e.0 u.0 here none e.1).1 u.1 in
    u.2 ∙ ap (λ (l : List ℕ). l ++ back) (e.1 ∙ ap (λ (l : List ℕ). l ++ key t at) first)
