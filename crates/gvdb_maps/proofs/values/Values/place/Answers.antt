use Rattle.std.proofs.Common.{◌≡◌, ◌<◌, ◌-◌, [], Bool, Bor, ℕ, List, length, sym, ap, ◌∙◌, arith, get_or}
use Rattle.std.specs.Str.{bytes_eq}
use Rattle.std.proofs.lemmas.List.{get_or-map}
use Rattle.gvdb_values.specs.WrittenValues.{bytes_of_each}
use Rattle.gvdb_maps.proofs.ValuePlaces.{placed}
use Rattle.gvdb_maps.proofs.values.Values.place.Goals as goal

compared : (items : List (Bor (List ℕ))) (value : List ℕ) (i : ℕ) (x : Bor (List ℕ)) (b same : Bool) → i < length items → x ≡ get_or items i x → b ≡ bytes_eq x.now value → b ≡ same
    → bytes_eq (get_or (bytes_of_each items) i []) value ≡ same
compared items value i x b same within is e f =
    ap (λ (v : List ℕ). bytes_eq v value) (get_or-map (λ (v : Bor (List ℕ)). v.now) items i x [] within ∙ ap (λ (v : Bor (List ℕ)). v.now) (sym is)) ∙ (sym e ∙ f)

pub returns-then-eq : goal.returns-then-eq
returns-then-eq c =
    let within = c.requires in
    let some = c.if-first-eq0.false in
    sym (placed c.args.self.now.others (bytes_of_each c.args.self.now.distinct.items) c.args.value c.args.first _ some
    (compared c.args.self.now.distinct.items c.args.value.now (c.args.first - 1) c.index.result.now _ _ (omega (arith, within, some)) c.index.ensures c.eq.ensures c.if-eq.true))

pub returns : goal.returns
returns c =
    let within = c.requires in
    let some = c.if-first-eq0.false in
    c.copied.ensures ∙ c.get.ensures.value
    ∙ sym (placed c.args.self.now.others (bytes_of_each c.args.self.now.distinct.items) c.args.value c.args.first _ some
    (compared c.args.self.now.distinct.items c.args.value.now (c.args.first - 1) c.index.result.now _ _ (omega (arith, within, some)) c.index.ensures c.eq.ensures c.if-eq.false))
