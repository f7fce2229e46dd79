-- The places of values that are stored once.
use Rattle.std.proofs.lemmas.Grind.{common_steps, get_or-set_at}
use Rattle.std.proofs.Common.{ℕ, zero, suc, ◌≡◌, ◌≢◌, ◌<◌, ◌≤◌, ◌-◌, ◌%◌, ◌⊎◌, Bool, true, false, cond, List, [], ◌∷◌, ◌++◌, length, get_or, set, Option, is_some, Some, None, Bor, refl, sym, ap, ◌∙◌, subst, arith, length-append, inl, inr}
use Rattle.std.specs.List.{list_any}
use Rattle.std.specs.Str.{bytes_eq}
use Rattle.std.specs.BTreeMap.{get}
use Rattle.std.specs.Ordering.{eq_by_cmp}
use Rattle.std.proofs.lemmas.List.{get_or_append_left, get_or_push, get_or-set_other, get_or_default, length-set}
use Rattle.std.proofs.lemmas.Bool.{cases_eq}
use Rattle.std.proofs.lemmas.List.Folds.{list_any_at, list_any-append}
use Rattle.std.proofs.lemmas.Nat.{mod_below}
use Rattle.std.proofs.lemmas.Option.{same_Some}
use Rattle.dconf_model.specs.Plans.{with_new}
use Rattle.dconf_model.proofs.SameBytes.{itself, path_itself, other_path, same_path as same_bytes}
use Rattle.dconf_model.specs.Bytes.{hash_of}
use Rattle.gvdb_maps.specs.LayoutParts.{ArePlaces, Others, by_bytes, place_by, slot_of}
use Rattle.gvdb_maps.proofs.Read.{same_path}

-- a value that has no place is not there, and one that has a place is there
abbrev pub IsPlaceOf : List (List ℕ) → List ℕ → Option ℕ → Type 0
IsPlaceOf values value None = list_any (bytes_eq value) values ≡ false
IsPlaceOf values value (Some k) = (k < length values) × (get_or values k [] ≡ value)

-- what is there already
pub there : (values : List (List ℕ)) (value : List ℕ) (k : ℕ) → IsPlaceOf values value (Some k) → with_new values value ≡ values
there values value k is = grind (arith, common_steps, list_any_at, itself)

-- what is found where the slot has something
pub placed : (others : Others) (values : List (List ℕ)) (q : Bor (List ℕ)) (first : ℕ) (b : Bool) → first ≢ 0 → bytes_eq (get_or values (first - 1) []) q.now ≡ b → place_by others values q first ≡ cond b (Some (first - 1)) (get by_bytes others q)
placed others values q zero b some e = absurd (some refl)
placed others values q (suc k) b some e =
    let n : suc k - 1 ≡ k = omega arith in
    ap (λ (c : Bool). cond c (Some k) (get by_bytes others q)) (ap (λ (j : ℕ). bytes_eq (get_or values j []) q.now) (sym n) ∙ e)
    ∙ ap (λ (j : ℕ). cond b (Some j) (get by_bytes others q)) (sym n)

-- what is found of a value is there
found : (others : Others) (values : List (List ℕ)) (q : Bor (List ℕ)) (first k : ℕ) → first ≤ length values
    → ((j : ℕ) → get by_bytes others q ≡ Some j → IsPlaceOf values q.now (Some j)) → place_by others values q first ≡ Some k → IsPlaceOf values q.now (Some k)
found others values q zero k within held e = let bad : None ≡ Some k = e in cc
found others values q (suc j) k within held e = by (bytes_eq (get_or values j []) q.now) refl
  where
    at : (b : Bool) → bytes_eq (get_or values j []) q.now ≡ b → cond b (Some j) (get by_bytes others q) ≡ Some k
    at b same = ap (λ (c : Bool). cond c (Some j) (get by_bytes others q)) (sym same) ∙ e

    by : (b : Bool) → bytes_eq (get_or values j []) q.now ≡ b → IsPlaceOf values q.now (Some k)
    by true same = subst (λ (i : ℕ). IsPlaceOf values q.now (Some i)) (same_Some j k (at true same)) (omega (arith, within), same_bytes (get_or values j []) q.now same)
    by false other = held k (at false other)

-- the slot of a value's hash, as the code reads it
pub record IsSlot (slots value : List ℕ) (slot first : ℕ) : Type 0 where
  pub slot_is : slot ≡ hash_of value % length slots
  pub within : slot < length slots
  pub first_is : first ≡ slot_of slots value

pub is_slot : (slots value : List ℕ) (hash len first : ℕ) → 0 < length slots → hash ≡ hash_of value → len ≡ length slots → first ≡ get_or slots (hash % len) first → IsSlot slots value (hash % len) first
is_slot slots value hash len first some h n is =
    let e : hash % len ≡ hash_of value % length slots = ap (λ (x : ℕ). x % len) h ∙ ap (λ (x : ℕ). hash_of value % x) n in
    let within : hash % len < length slots = let l = mod_below hash len (omega (arith, some, n)) in omega (arith, l, n) in
    record { slot_is = e; within = within; first_is = is ∙ (get_or_default slots (hash % len) first 0 within ∙ ap (λ (i : ℕ). get_or slots i 0) e) }

pub place_is : (slots : List ℕ) (others : Others) (values : List (List ℕ)) (q : Bor (List ℕ)) (slot first : ℕ) → ArePlaces slots others values → IsSlot slots q.now slot first
    → (o : Option ℕ) → place_by others values q first ≡ o → IsPlaceOf values q.now o
place_is slots others values q slot first are at None e = are.absent q (ap (place_by others values q) (sym at.first_is) ∙ e)
place_is slots others values q slot first are at (Some k) e =
    let within = are.within (hash_of q.now % length slots) in
    let is = at.first_is in
    found others values q first k (omega (arith, within, is)) (are.held q) e

both_none : (b c : Bool) (x y o : Option ℕ) → is_some x ≡ true → is_some y ≡ true → cond b x (cond c y o) ≡ None → (c ≡ false) × (cond b x o ≡ None)
both_none true c x y o some also e = let bad : true ≡ false = sym some ∙ ap is_some e in cc
both_none false true x y o some also e = let bad : true ≡ false = sym also ∙ ap is_some e in cc
both_none false false x y o some also e = (refl, e)

-- ---- one value more, which is not there

module _ (slots : List ℕ) (others : Others) (values : List (List ℕ)) (value : Bor (List ℕ)) (are : ArePlaces slots others values) where
  last : IsPlaceOf (values ++ value.now ∷ []) value.now (Some (length values))
  last = (let l = length-append values (value.now ∷ []) in omega (arith, l), get_or_push values value.now [] (length values) refl)

  still : (q : List ℕ) (k : ℕ) → IsPlaceOf values q (Some k) → IsPlaceOf (values ++ value.now ∷ []) q (Some k)
  still q k is = grind (arith, common_steps, length-append, get_or_append_left)

  absent_still : (q : Bor (List ℕ)) → q.now ≢ value.now → place_by others values q (slot_of slots q.now) ≡ None → list_any (bytes_eq q.now) (values ++ value.now ∷ []) ≡ false
  absent_still q other none = grind (arith, common_steps, list_any-append, other_path)

  -- a value that was there is found as before
  as_before : (q : Bor (List ℕ)) (first : ℕ) → first ≤ length values → place_by others (values ++ value.now ∷ []) q first ≡ place_by others values q first
  as_before q zero within = grind (arith, common_steps, get_or_append_left, within)
  as_before q (suc k) within = grind (arith, common_steps, get_or_append_left, within)

  -- the value at its slot, which had none
  pub slot_filled : (i : ℕ) → i ≡ hash_of value.now % length slots → i < length slots → get_or slots i 0 ≡ 0 → ArePlaces (set slots i (suc (length values))) others (values ++ value.now ∷ [])
  slot_filled i is inside none = record {
    some = let some = are.some in omega (arith, some, len);
    within = λ j. within j (cases_eq j i);
    held = λ q k e. still q.now k (are.held q k e);
    absent = λ q nothing. absent q (cases_eq (hash_of q.now % length slots) i) (sym (ap (place_by others (values ++ value.now ∷ []) q) (seen q)) ∙ nothing);
  }
    where
      new : List ℕ
      new = set slots i (suc (length values))

      len : length new ≡ length slots
      len = length-set slots i (suc (length values))

      seen : (q : Bor (List ℕ)) → slot_of new q.now ≡ get_or new (hash_of q.now % length slots) 0
      seen q = ap (λ (n : ℕ). get_or new (hash_of q.now % n) 0) len

      within : (j : ℕ) → (j ≡ i) ⊎ (j ≢ i) → get_or new j 0 ≤ length (values ++ value.now ∷ [])
      within j (inl same) = let e = get_or-set_at slots i j (suc (length values)) 0 same inside in let l = length-append values (value.now ∷ []) in omega (arith, e, l)
      within j (inr other) =
          let e = get_or-set_other slots i j (suc (length values)) 0 other in let w = are.within j in let l = length-append values (value.now ∷ []) in omega (arith, e, w, l)

      absent : (q : Bor (List ℕ)) → (hash_of q.now % length slots ≡ i) ⊎ (hash_of q.now % length slots ≢ i)
          → place_by others (values ++ value.now ∷ []) q (get_or new (hash_of q.now % length slots) 0) ≡ None → list_any (bytes_eq q.now) (values ++ value.now ∷ []) ≡ false
      absent q (inl same) nothing =
          let first = get_or-set_at slots i (hash_of q.now % length slots) (suc (length values)) 0 same inside in
          absent_still q
          (λ e. let found : Some (length values) ≡ None =
          sym (ap (λ (b : Bool). cond b (Some (length values)) (get by_bytes others q)) (path_itself _ q.now (last.1 ∙ sym e)))
          ∙ (sym (ap (place_by others (values ++ value.now ∷ []) q) first) ∙ nothing) in cc)
          (ap (place_by others values q) (ap (λ (k : ℕ). get_or slots k 0) same ∙ none))
      absent q (inr other) nothing =
          absent_still q (λ e. other (ap (λ (v : List ℕ). hash_of v % length slots) e ∙ sym is))
          (sym (as_before q (slot_of slots q.now) (are.within (hash_of q.now % length slots)))
          ∙ (sym (ap (place_by others (values ++ value.now ∷ []) q) (get_or-set_other slots i (hash_of q.now % length slots) (suc (length values)) 0 other)) ∙ nothing))

  -- the value among the others, since its slot has another one
  pub others_added : (new : Others) → ((q : Bor (List ℕ)) → get by_bytes new q ≡ cond (eq_by_cmp by_bytes value q) (Some (length values)) (get by_bytes others q))
      → 0 < slot_of slots value.now → ArePlaces slots new (values ++ value.now ∷ [])
  others_added new updates taken = record {
    some = are.some;
    within = λ j. let w = are.within j in let l = length-append values (value.now ∷ []) in omega (arith, w, l);
    held = λ q k e. held q k (eq_by_cmp by_bytes value q) refl (sym (updates q) ∙ e);
    absent = λ q nothing. absent q (slot_of slots q.now) refl nothing;
  }
    where
      held : (q : Bor (List ℕ)) (k : ℕ) (b : Bool) → eq_by_cmp by_bytes value q ≡ b → cond b (Some (length values)) (get by_bytes others q) ≡ Some k → IsPlaceOf (values ++ value.now ∷ []) q.now (Some k)
      held q k true same e =
          subst (λ (v : List ℕ). IsPlaceOf (values ++ value.now ∷ []) v (Some k)) (sym (same_bytes q.now value.now (same_path q.now value.now ∙ same)))
          (subst (λ (j : ℕ). IsPlaceOf (values ++ value.now ∷ []) value.now (Some j)) (same_Some _ _ e) last)
      held q k false other e = still q.now k (are.held q k e)

      absent : (q : Bor (List ℕ)) (first : ℕ) → slot_of slots q.now ≡ first → place_by new (values ++ value.now ∷ []) q first ≡ None → list_any (bytes_eq q.now) (values ++ value.now ∷ []) ≡ false
      absent q zero is nothing =
          absent_still q (λ e. let same : slot_of slots q.now ≡ slot_of slots value.now = ap (slot_of slots) e in omega (arith, same, is, taken)) (ap (place_by others values q) is)
      absent q (suc k) is nothing =
          let more : List (List ℕ) = values ++ value.now ∷ [] in
          let both = both_none (bytes_eq (get_or more k []) q.now) (eq_by_cmp by_bytes value q) (Some k) (Some (length values)) (get by_bytes others q) refl refl
          (sym (ap (λ (o : Option ℕ). cond (bytes_eq (get_or more k []) q.now) (Some k) o) (updates q)) ∙ nothing) in
          let within = are.within (hash_of q.now % length slots) in
          absent_still q (λ e. let same : bytes_eq q.now value.now ≡ true = path_itself q.now value.now e in let other = same_path q.now value.now ∙ both.0 in let bad : true ≡ false = sym same ∙ other in cc)
          (ap (place_by others values q) is ∙ (sym (as_before q (suc k) (omega (arith, within, is))) ∙ both.1))
