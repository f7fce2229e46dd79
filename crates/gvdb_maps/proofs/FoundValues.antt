-- The place of each item's value among values that are stored once.
use Rattle.std.proofs.lemmas.Grind.{common_steps}
use Rattle.std.proofs.Common.{ℕ, ◌≡◌, ◌≢◌, ◌<◌, ◌≤◌, ◌+◌, List, [], ◌∷◌, ◌++◌, length, get_or, take, fold, refl, sym, ap, ◌∙◌, arith, below_more, length-append, Bor, Bool, true, false, cond}
use Rattle.std.proofs.lemmas.List.{get_or_append_left, get_or_default, get_or_push, take_more, take_all, append-nil}
use Rattle.std.proofs.lemmas.List.Concat.{flat_map-append}
use Rattle.std.proofs.lemmas.List.Sums.{fold-append}
use Rattle.dconf_model.specs.Table.{value_kind}
use Rattle.dconf_model.specs.Plans.{with_new}
use Rattle.gvdb_maps.specs.declared.names.Content.{Content}
use Rattle.gvdb_maps.specs.declared.names.Content.TheVariants.{Value, List as Listed, Locks}
use Rattle.gvdb_maps.specs.declared.names.Named.{Named}
use Rattle.gvdb_maps.specs.PlanWords.{named, kind_at, kind_of, content_bytes, no_name}
use Rattle.gvdb_maps.specs.LayoutParts.{own_value, own_values, HavePlaces}
use Rattle.std.specs.List.{list_any}
use Rattle.std.specs.Str.{bytes_eq}
use Rattle.gvdb_maps.proofs.ValuePlaces.{there}

-- a value that is there keeps its place
pub record IsKept (values more : List (List ℕ)) (k : ℕ) : Type 0 where
  pub within : k < length more
  pub same : get_or more k [] ≡ get_or values k []

kept_before : (values : List (List ℕ)) (value : List ℕ) (k : ℕ) → k < length values → (b : Bool) → IsKept values (cond b values (values ++ value ∷ [])) k
kept_before values value k l true = record { within = l; same = refl }
kept_before values value k l false = record {
  within = let n = length-append values (value ∷ []) in omega (arith, l, n);
  same = get_or_append_left values (value ∷ []) [] k l;
}

pub kept : (values : List (List ℕ)) (value : List ℕ) (k : ℕ) → k < length values → IsKept values (with_new values value) k
kept values value k l = kept_before values value k l (list_any (bytes_eq value) values)

pub all_kept : (more values : List (List ℕ)) (k : ℕ) → k < length values → IsKept values (fold with_new values more) k
all_kept [] values k l = record { within = l; same = refl }
all_kept (value ∷ more) values k l =
    let first = kept values value k l in
    let rest = all_kept more (with_new values value) k first.within in
    record { within = rest.within; same = rest.same ∙ first.same }

pub new_count : (values : List (List ℕ)) (value : List ℕ) → length (with_new values value) ≤ length values + 1
new_count values value = counted (list_any (bytes_eq value) values)
  where
    counted : (b : Bool) → length (cond b values (values ++ value ∷ [])) ≤ length values + 1
    counted true = omega arith
    counted false = let n = length-append values (value ∷ []) in omega (arith, n)

-- a value that is added again changes nothing
added_twice : (values : List (List ℕ)) (value : List ℕ) (b : Bool) → list_any (bytes_eq value) values ≡ b → with_new (with_new values value) value ≡ with_new values value
added_twice values value true e =
    ap (λ (vs : List (List ℕ)). with_new vs value) (ap (λ (b : Bool). cond b values (values ++ value ∷ [])) e)
added_twice values value false e =
    let new : with_new values value ≡ values ++ value ∷ [] = ap (λ (b : Bool). cond b values (values ++ value ∷ [])) e in
    let n = length-append values (value ∷ []) in
    ap (λ (vs : List (List ℕ)). with_new vs value) new
    ∙ (there (values ++ value ∷ []) value (length values) (omega (arith, n), get_or_push values value [] (length values) refl) ∙ sym new)

pub twice_is_once : (values : List (List ℕ)) (value : List ℕ) → with_new (with_new values value) value ≡ with_new values value
twice_is_once values value = added_twice values value (list_any (bytes_eq value) values) refl

pub values_more : (items : List Named) (n : ℕ) → n < length items → own_values (take (n + 1) items) ≡ own_values (take n items) ++ own_value (named items n).content
values_more items n l = grind (arith, common_steps, take_more, append-nil, flat_map-append)

-- an item read at another default is the same
same_content : (items : List Named) (n : ℕ) (d : Named) → n < length items → (named items n).content ≡ (get_or items n d).content
same_content items n d l = ap (λ (m : Named). m.content) (get_or_default items n no_name d l)

-- what holds of the content of an item that has no value
record HasNone (content : Content) : Type 0 where
  own : own_value content ≡ []
  other : kind_of content ≢ value_kind

has_none : (content : Content) → ((x : Bor (List ℕ)) → content ≢ Value x) → HasNone content
has_none (Value bytes) other = absurd (other bytes refl)
has_none Listed other = record { own = refl; other = λ e. omega (arith, e) }
has_none Locks other = record { own = refl; other = λ e. omega (arith, e) }

-- the places of so many items are found
pub record AreFound (items : List Named) (first values : List (List ℕ)) (places : List ℕ) (n : ℕ) : Type 0 where
  pub distinct : values ≡ fold with_new first (own_values (take n items))
  pub counted : length places ≡ n
  pub within : (i : ℕ) → i < n → kind_at items i ≡ value_kind → get_or places i 0 < length values
  pub holds : (i : ℕ) → i < n → kind_at items i ≡ value_kind → get_or values (get_or places i 0) [] ≡ content_bytes (named items i).content

pub none_found : (items : List Named) (first : List (List ℕ)) (places : List ℕ) → places ≡ [] → AreFound items first first places 0
none_found items first places none = record {
  distinct = refl;
  counted = ap length none;
  within = λ i l k. absurd (omega (arith, l));
  holds = λ i l k. absurd (omega (arith, l));
}

one_place_more : (places after : List ℕ) (place n : ℕ) → length places ≡ n → after ≡ places ++ place ∷ [] → length after ≡ n + 1
one_place_more places after place n c is = ap length is ∙ (length-append places (place ∷ []) ∙ ap (λ (m : ℕ). m + 1) c)

place_before : (places after : List ℕ) (place n : ℕ) → length places ≡ n → after ≡ places ++ place ∷ [] → (i : ℕ) → i < n → get_or after i 0 ≡ get_or places i 0
place_before places after place n c is i l = ap (λ (ps : List ℕ). get_or ps i 0) is ∙ get_or_append_left places (place ∷ []) 0 i (omega (arith, l, c))

-- the next item has a value, which is added
pub value_found : (items : List Named) (first values more : List (List ℕ)) (places after : List ℕ) (bytes : Bor (List ℕ)) (place n : ℕ) (d : Named)
    → AreFound items first values places n → n < length items → (get_or items n d).content ≡ Value bytes → more ≡ with_new values bytes.now → place < length more
    → get_or more place [] ≡ bytes.now → after ≡ places ++ place ∷ [] → AreFound items first more after (n + 1)
value_found items first values more places after bytes place n d so l has new w at is =
    let value = bytes.now in
    let content : (named items n).content ≡ Value bytes = same_content items n d l ∙ has in
    let own : own_value (named items n).content ≡ value ∷ [] = ap own_value content in
    let of_value : content_bytes (named items n).content ≡ value = ap content_bytes content in
    let last : get_or after n 0 ≡ place = ap (λ (ps : List ℕ). get_or ps n 0) is ∙ get_or_push places place 0 n so.counted in
    let before = place_before places after place n so.counted is in
    record {
      distinct = new ∙ (ap (λ (vs : List (List ℕ)). with_new vs value) so.distinct
          ∙ sym (ap (fold with_new first) (values_more items n l ∙ ap (λ (vs : List (List ℕ)). own_values (take n items) ++ vs) own)
          ∙ fold-append with_new first (own_values (take n items)) (value ∷ [])));
      counted = one_place_more places after place n so.counted is;
      within = below_more _ n
          (λ i h k. let e = before i h in let u = (kept values value (get_or places i 0) (so.within i h k)).within in let m = ap length new in omega (arith, e, u, m))
          (λ k. omega (arith, last, w));
      holds = below_more _ n
          (λ i h k. ap (λ (p : ℕ). get_or more p []) (before i h) ∙ (ap (λ (vs : List (List ℕ)). get_or vs (get_or places i 0) []) new
          ∙ ((kept values value (get_or places i 0) (so.within i h k)).same ∙ so.holds i h k)))
          (λ k. ap (λ (p : ℕ). get_or more p []) last ∙ (at ∙ sym of_value));
    }

-- the next item has none
pub other_found : (items : List Named) (first values : List (List ℕ)) (places after : List ℕ) (place n : ℕ) (d : Named) → AreFound items first values places n
    → n < length items → ((x : Bor (List ℕ)) → (get_or items n d).content ≢ Value x) → after ≡ places ++ place ∷ [] → AreFound items first values after (n + 1)
other_found items first values places after place n d so l none is =
    let content = same_content items n d l in
    let has = has_none (named items n).content (λ x e. none x (sym content ∙ e)) in
    let before = place_before places after place n so.counted is in
    record {
      distinct = so.distinct ∙ sym (ap (fold with_new first) (values_more items n l ∙ (ap (λ (vs : List (List ℕ)). own_values (take n items) ++ vs) has.own ∙ append-nil (own_values (take n items)))));
      counted = one_place_more places after place n so.counted is;
      within = below_more _ n (λ i h k. let e = before i h in let u = so.within i h k in omega (arith, e, u)) (λ k. absurd (has.other k));
      holds = below_more _ n (λ i h k. ap (λ (p : ℕ). get_or values p []) (before i h) ∙ so.holds i h k) (λ k. absurd (has.other k));
    }

-- after the last item
pub all_found : (items : List Named) (first values : List (List ℕ)) (places : List ℕ) (n : ℕ) → AreFound items first values places n → n ≡ length items → HavePlaces items values places
all_found items first values places n so is = record {
  counted = so.counted ∙ is;
  within = λ i l k. so.within i (omega (arith, l, is)) k;
  holds = λ i l k. so.holds i (omega (arith, l, is)) k;
}

pub all_distinct : (items : List Named) (first values : List (List ℕ)) (places : List ℕ) (n : ℕ) → AreFound items first values places n → length items ≤ n → values ≡ fold with_new first (own_values items)
all_distinct items first values places n so le = so.distinct ∙ ap (λ (ns : List Named). fold with_new first (own_values ns)) (take_all n items le)

-- places are kept when more values are added
pub places_stay : (items : List Named) (values : List (List ℕ)) (places : List ℕ) → HavePlaces items values places → (more : List (List ℕ)) → HavePlaces items (fold with_new values more) places
places_stay items values places have more = record {
  counted = have.counted;
  within = λ i l k. (all_kept more values (get_or places i 0) (have.within i l k)).within;
  holds = λ i l k. (all_kept more values (get_or places i 0) (have.within i l k)).same ∙ have.holds i l k;
}
