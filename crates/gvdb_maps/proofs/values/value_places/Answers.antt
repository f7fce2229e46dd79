use Rattle.std.proofs.Common.{ℕ, ◌≡◌, ◌≤◌, ◌+◌, length, List, ◌∷◌, [], ◌++◌, sym, ap, ◌∙◌, subst, arith, Bor}
use Rattle.std.proofs.lemmas.List.{length-map}
use Rattle.gvdb_maps.specs.declared.values.Values.{Values}
use Rattle.gvdb_maps.specs.LayoutParts.{ArePlaces}
use Rattle.gvdb_values.specs.WrittenValues.{bytes_of_each}
use Rattle.gvdb_maps.proofs.FoundValues.{AreFound, new_count, none_found, value_found, other_found, all_found, all_distinct}
use Rattle.gvdb_maps.proofs.values.value_places.Goals as goal
use Rattle.gvdb_maps.proofs.values.value_places.Goals.{in-Value+in_ok-place-in-Value, in_default}

pub loop-named-init : goal.loop-named-init
loop-named-init c = record {
  known = c.requires.places;
  count = omega arith;
  so_far = none_found c.args.items.now (bytes_of_each c.args.values.now.distinct.items) c.in_ok-places.places.items c.in_ok-places.ensures.items;
}

abbrev AreKnown : Values → Type 0
AreKnown values = ArePlaces values.slots.items values.others (bytes_of_each values.distinct.items)

pub loop-named-preserved : goal.loop-named-preserved
loop-named-preserved c =
    let items = c.args.items.now in
    let n = c.loop-named.named-index in
    let old = c.loop-named.places.items in
    let new = c.push.new.self.items in
    let first = bytes_of_each c.args.values.now.distinct.items in
    let so_far = c.loop-named.invariant.so_far in
    let pushed : new ≡ old ++ c.match-named.place ∷ [] = c.in_ok-push.ensures.items in
    let here = c.loop-named-test.true in
    let HasRoom : ℕ → Values → Type 0 = λ k v. length v.distinct.items ≤ length c.args.values.now.distinct.items + k in
    elim c.match-named.branch [
      | in-Value+in_ok-place-in-Value w ↦
          let values = w.add.new.self.distinct.items in
          let place = w.in_ok-place-in-Value.place in
          let added = w.in_ok-place-in-Value.ensures in
          let count = length-map values (λ (v : Bor (List ℕ)). v.now) in
          let within = added.within in
          let grown = new_count (bytes_of_each c.loop-named.values.distinct.items) w.in-Value.bytes.now in
          let before = length-map c.loop-named.values.distinct.items (λ (v : Bor (List ℕ)). v.now) in
          let after = ap length added.distinct in
          let few = c.loop-named.invariant.count in
          record {
            count = subst (HasRoom (n + 1)) (sym w.values-is) (omega (arith, count, grown, before, after, few));
            known = subst AreKnown (sym w.values-is) added.places;
            so_far = subst (λ (v : Values). AreFound items first (bytes_of_each v.distinct.items) new (n + 1)) (sym w.values-is)
                (value_found items first _ (bytes_of_each values) old new w.in-Value.bytes place n _
                so_far here w.in-Value.is added.distinct (omega (arith, count, within)) added.place
                (pushed ∙ ap (λ (p : ℕ). old ++ p ∷ []) w.place-is));
          }
      | in_default w ↦ record {
        count = subst (HasRoom (n + 1)) (sym w.values-is) (let few = c.loop-named.invariant.count in omega (arith, few));
        known = subst AreKnown (sym w.values-is) c.loop-named.invariant.known;
        so_far = subst (λ (v : Values). AreFound items first (bytes_of_each v.distinct.items) new (n + 1)) (sym w.values-is)
            (other_found items first _ old new c.match-named.place n _ so_far here w.in_default.not-Value pushed);
      }
    ]

pub returns-clause-known : goal.returns-clause-known
returns-clause-known c = c.loop-named.invariant.known

pub returns-clause-distinct : goal.returns-clause-distinct
returns-clause-distinct c =
    all_distinct c.args.items.now _ _ c.loop-named.places.items c.loop-named.named-index c.loop-named.invariant.so_far c.loop-named-test.false

pub returns-clause-count : goal.returns-clause-count
returns-clause-count c =
    let test = c.loop-named-test.false in
    let end = c.loop-named.auto.named-index-end in
    let few = c.loop-named.invariant.count in
    omega (arith, test, end, few)

pub returns-clause-places : goal.returns-clause-places
returns-clause-places c =
    let test = c.loop-named-test.false in
    let end = c.loop-named.auto.named-index-end in
    all_found c.args.items.now _ _ c.loop-named.places.items c.loop-named.named-index c.loop-named.invariant.so_far (omega (arith, test, end))
