-- The computed name is the name that the relation says.
use Rattle.std.proofs.Common.{ℕ, suc, zero, ◌≤◌, ◌<◌, ◌≡◌, Bool, true, false, cond, ◌&&◌, ◌||◌, List, [], ◌∷◌, ◌++◌, length, Option, Some, None, option_map, refl, sym, ◌∙◌, ap, subst, arith, eqb}
use Rattle.std.specs.List.{list_any}
use Rattle.std.proofs.lemmas.Bool.{eqb-true, lt-ltb, ltb-true}
use Rattle.std.specs.Prelude.{nat_lt, nat_le}
use Rattle.std.proofs.lemmas.Bool.Decides.{nat_tests}
use Rattle.dconf_model.specs.Table.{Table, item, item_count, key}
use Rattle.dconf_model.specs.Names.{HasName, HasParents, IsItem, joined, name_within, name_by, name_of}
use Rattle.dconf_model.specs.Searchable.{LeadsUp}
use Rattle.dconf_model.proofs.ParentLaws.{by_bool, few_above}

-- each of the item and its parents is an item
below : (t : Table) (i q : ℕ) (ps : List ℕ) → HasParents t i ps → list_any (eqb q) (i ∷ ps) ≡ true → q < item_count t
below t i q [] h e =
    by_bool (eqb q i) (q < item_count t)
    (λ same. subst (λ (x : ℕ). x < item_count t) (sym (eqb-true q i same)) h.0.counted)
    (λ other. let bad : false ≡ true = sym (ap (λ b. b || false) other) ∙ e in cc)
below t i q (p ∷ ps) h e =
    by_bool (eqb q i) (q < item_count t)
    (λ same. subst (λ (x : ℕ). x < item_count t) (sym (eqb-true q i same)) h.0.counted)
    (λ other. below t p q ps h.3 (sym (ap (λ b. b || list_any (eqb q) (p ∷ ps)) other) ∙ e))

pub leads_up : (t : Table) (i : ℕ) (ps : List ℕ) → HasParents t i ps → LeadsUp t i ps
leads_up t i [] h = h.1
leads_up t i (p ∷ ps) h = (h.1, leads_up t p ps h.3)

-- so there are fewer parents than items
few_parents : (t : Table) (i : ℕ) (ps : List ℕ) → HasParents t i ps → length ps < item_count t
few_parents t i ps h = few_above t i ps (leads_up t i ps h) (λ q e. below t i q ps h e)

-- one step of the computed name
abbrev pub tested : Table → ℕ → Bool
tested t i = nat_lt i (item_count t) && nat_le (item t i).key_end (length t.file)

pub is_tested : (t : Table) (i : ℕ) → IsItem t i → tested t i ≡ true
is_tested t i h = let a : i < item_count t = h.counted in let b : (item t i).key_end ≤ length t.file = h.key_inside in grind (arith, nat_tests)

pub was_tested : (t : Table) (i : ℕ) → tested t i ≡ true → IsItem t i
was_tested t i e = record { counted = grind (arith, nat_tests, e); key_inside = grind (arith, nat_tests, e) }

long_key : (t : Table) (i : ℕ) → 0 < length (key t i) → nat_lt 0 (length (key t i)) ≡ true
long_key t i h = lt-ltb 0 (length (key t i)) h

-- by as many steps as there are parents and one more
within : (t : Table) (i : ℕ) (ps : List ℕ) (n : ℕ) → length ps < n → HasParents t i ps → name_within n t i ≡ Some (joined t i ps)
within t i ps zero lt h = absurd (omega arith)
within t i [] (suc n) lt h = ap (λ b. cond b (name_by (name_within n t) t i (item t i).parent) None) (is_tested t i h.0) ∙ ap (λ (o : Option ℕ). name_by (name_within n t) t i o) h.1
within t i (p ∷ ps) (suc n) lt h =
    ap (λ b. cond b (name_by (name_within n t) t i (item t i).parent) None) (is_tested t i h.0) ∙ ap (λ (o : Option ℕ). name_by (name_within n t) t i o) h.1
    ∙ ap (λ b. cond b (option_map (λ prefix. prefix ++ key t i) (name_within n t p)) None) (long_key t i h.2)
    ∙ ap (option_map (λ prefix. prefix ++ key t i)) (within t p ps n (omega arith) h.3)

pub name_of_named : (t : Table) (i : ℕ) (name : List ℕ) → HasName t i name → name_of t i ≡ Some name
name_of_named t i name h = within t i h.parents (item_count t) (few_parents t i h.parents h.chain) h.chain ∙ ap (λ (x : List ℕ). Some x) h.spelled

above_named : (t : Table) (i p : ℕ) (name : List ℕ) (o : Option (List ℕ)) → ((prefix : List ℕ) → o ≡ Some prefix → HasName t p prefix) → IsItem t i → (item t i).parent ≡ Some p → 0 < length (key t i) → option_map (λ prefix. prefix ++ key t i) o ≡ Some name → HasName t i name
above_named t i p name None up here is long f = let bad : None ≡ Some name = f in cc
above_named t i p name (Some prefix) up here is long f =
    let h = up prefix refl in
    let same : prefix ++ key t i ≡ name = let s : Some (prefix ++ key t i) ≡ Some name = f in cc in
    record { parents = p ∷ h.parents; chain = (here, is, long, h.chain); spelled = ap (λ (l : List ℕ). l ++ key t i) h.spelled ∙ same }

named_at : (t : Table) (i : ℕ) (name : List ℕ) (above : ℕ → Option (List ℕ)) (o : Option ℕ) → ((p : ℕ) (prefix : List ℕ) → above p ≡ Some prefix → HasName t p prefix) → (item t i).parent ≡ o → IsItem t i → name_by above t i o ≡ Some name → HasName t i name
named_at t i name above None up is here f = record { parents = []; chain = (here, is); spelled = let s : Some (key t i) ≡ Some name = f in cc }
named_at t i name above (Some p) up is here f =
    by_bool (nat_lt 0 (length (key t i))) (HasName t i name)
    (λ long. above_named t i p name (above p) (up p) here is (ltb-true 0 (length (key t i)) long) (sym (ap (λ b. cond b (option_map (λ prefix. prefix ++ key t i) (above p)) None) long) ∙ f))
    (λ short. let bad : None ≡ Some name = sym (ap (λ b. cond b (option_map (λ prefix. prefix ++ key t i) (above p)) None) short) ∙ f in cc)

named_within : (n : ℕ) (t : Table) (i : ℕ) (name : List ℕ) → name_within n t i ≡ Some name → HasName t i name
named_within zero t i name e = let bad : None ≡ Some name = e in cc
named_within (suc n) t i name e =
    by_bool (tested t i) (HasName t i name)
    (λ pass. named_at t i name (name_within n t) (item t i).parent (λ p prefix f. named_within n t p prefix f) refl (was_tested t i pass) (sym (ap (λ b. cond b (name_by (name_within n t) t i (item t i).parent) None) pass) ∙ e))
    (λ fail. let bad : None ≡ Some name = sym (ap (λ b. cond b (name_by (name_within n t) t i (item t i).parent) None) fail) ∙ e in cc)

pub named_of_name : (t : Table) (i : ℕ) (name : List ℕ) → name_of t i ≡ Some name → HasName t i name
named_of_name t i name e = named_within (item_count t) t i name e
