use Rattle.std.proofs.Common.{ℕ, ◌≡◌, ◌+◌, ◌%◌, ◌∷◌, ◌++◌, [], set, cond, get_or, List, Some, length, refl, sym, ap, ◌∙◌, subst, arith, Bor}
use Rattle.std.proofs.lemmas.List.{length-map, map-append, get_or_default}
use Rattle.std.specs.BTreeMap.{get}
use Rattle.std.specs.Ordering.{eq_by_cmp}
use Rattle.gvdb_maps.specs.declared.values.Values.{Values}
use Rattle.gvdb_maps.specs.LayoutParts.{by_bytes, ArePlaces}
use Rattle.gvdb_values.specs.WrittenValues.{bytes_of_each}
use Rattle.gvdb_maps.proofs.ValuePlaces.{IsPlaceOf, is_slot, place_is, there, slot_filled, others_added}
use Rattle.gvdb_maps.proofs.values.Values.add.Goals as goal
use Rattle.gvdb_maps.proofs.values.Values.add.Goals.{then-index-eq0, else-index-eq0+in_ok-insert}

found : (c : goal.In-Some) → IsPlaceOf (bytes_of_each c.args.self.now.distinct.items) c.args.value.now (Some c.in-Some.place)
found c =
    let slots = c.args.self.now.slots.items in
    place_is slots c.args.self.now.others (bytes_of_each c.args.self.now.distinct.items) c.args.value (c.hash.result % c.len.result) c.index.result.now c.requires.places
    (is_slot slots c.args.value.now c.hash.result c.len.result c.index.result.now c.requires.places.some c.hash.ensures (c.len.ensures ∙ c.args.self.now.slots.ok.0) c.index.ensures)
    (Some c.in-Some.place) (sym c.place.ensures ∙ c.in-Some.is)

pub returns-in-Some-clause-distinct : goal.returns-in-Some-clause-distinct
returns-in-Some-clause-distinct c = sym (there (bytes_of_each c.args.self.now.distinct.items) c.args.value.now c.in-Some.place (found c))

pub returns-in-Some-clause-within : goal.returns-in-Some-clause-within
returns-in-Some-clause-within c =
    let w = (found c).0 in
    let n = length-map c.args.self.now.distinct.items (λ (v : Bor (List ℕ)). v.now) in
    omega (arith, w, n)

pub returns-clause-places : goal.returns-clause-places
returns-clause-places c =
    let slots = c.args.self.now.slots.items in
    let others = c.args.self.now.others in
    let values = bytes_of_each c.args.self.now.distinct.items in
    let value = c.args.value in
    let slot = c.hash.result % c.len.result in
    let at = is_slot slots value.now c.hash.result c.len.result c.index.result.now c.requires.places.some c.hash.ensures (c.len.ensures ∙ c.args.self.now.slots.ok.0) c.index.ensures in
    let n = length-map c.args.self.now.distinct.items (λ (v : Bor (List ℕ)). v.now) in
    let count : c.len-place.result ≡ length values = omega (arith, n) in
    let again : c.index-2.result.now ≡ get_or slots slot 0 = c.index-2.ensures ∙ get_or_default slots slot c.index-2.result.now 0 at.within in
    let more : (v : Values) → c.if-index-eq0.self ≡ v → v.distinct.items ≡ c.args.self.now.distinct.items → bytes_of_each c.push.new.self.items ≡ values ++ value.now ∷ [] =
    λ v is same. ap bytes_of_each (c.in_ok-push.ensures.items ∙ ap (λ (l : List (Bor (List ℕ))). l ++ value ∷ []) (ap (λ (x : Values). x.distinct.items) is ∙ same)) ∙ map-append _ _ _ in
    elim c.if-index-eq0.branch [
      | then-index-eq0 w ↦
          subst (λ (v : Values). ArePlaces v.slots.items v.others (bytes_of_each c.push.new.self.items)) (sym w.self-is)
          (subst (λ (vs : List (List ℕ)). ArePlaces (set slots slot (c.len-place.result + 1)) others vs) (sym (more _ w.self-is refl))
          (subst (λ (n : ℕ). ArePlaces (set slots slot n) others (values ++ value.now ∷ [])) (omega (arith, count))
          (slot_filled slots others values value c.requires.places slot at.slot_is at.within (sym again ∙ w.if-index-eq0.true))))
      | else-index-eq0+in_ok-insert w ↦
          subst (λ (v : Values). ArePlaces v.slots.items v.others (bytes_of_each c.push.new.self.items)) (sym w.self-is)
          (subst (λ (vs : List (List ℕ)). ArePlaces slots w.insert.new.self vs) (sym (more _ w.self-is refl))
          (others_added slots others values value c.requires.places w.insert.new.self
          (subst (λ (k : ℕ). (q : Bor (List ℕ)) → get by_bytes w.insert.new.self q ≡ cond (eq_by_cmp by_bytes value q) (Some k) (get by_bytes others q)) count w.in_ok-insert.ensures.updates.0)
          (let taken = w.if-index-eq0.false in let e = ap (λ (i : ℕ). get_or slots i 0) (sym at.slot_is) in omega (arith, e, again, taken))))
    ]
