-- Lengths of full names along a walk up the parents.
use Rattle.std.proofs.Common.{List, ◌≡◌, ◌<◌, ◌≤◌, ◌+◌, ℕ, Option, length, Some, None, true, false, ◌↔◌, refl, ap, arith, length-append}
use Rattle.std.specs.Prelude.{IfNone, IfSome, IsSome}
use Rattle.dconf_model.specs.Table.{Table, item, item_count, key}
use Rattle.dconf_model.specs.Names.{HasName, full_name}
use Rattle.dconf_model.specs.Searchable.{HasGoodKey}
use Rattle.dconf_model.specs.Sound.{HasParent, HasPlace, KeepsAll}
use Rattle.dconf_model.specs.Sound.Rule.{keys, chain}
use Rattle.dconf_model.proofs.FullNames.{has_full_name, full_name_is, full_name_at_root, full_name_below, parent_counted}
use Rattle.dconf_model.proofs.Occurrences.{range_length}

-- ---- a walk up from item i, with so many bytes left of 65,535

pub record IsLeft (t : Table) (i at left : ℕ) : Type 0 where
  pub counted : at < item_count t
  pub whole : length (full_name t i) + left ≡ length (full_name t at) + 65535

pub key_long : (t : Table) (i size : ℕ) → HasGoodKey t i → (item t i).key_start + size ≡ (item t i).key_end → length (key t i) ≡ size
key_long t i size good e =
    let is = range_length t.file (item t i).key_start (item t i).key_end (omega (arith, e)) good.inside in
    omega (arith, is, e)

-- each key takes a byte
pub some_key : (t : Table) (i size : ℕ) → KeepsAll t keys → KeepsAll t chain → i < item_count t → (item t i).key_start + size ≡ (item t i).key_end → 0 < size
some_key t i size good ends counted e = let some = (ends i counted).key in let is = key_long t i size (good i counted) e in omega (arith, some, is)

-- the parent's name is shorter by the item's key
pub above_is : (t : Table) (i p size : ℕ) → KeepsAll t keys → KeepsAll t chain → i < item_count t → (item t i).key_start + size ≡ (item t i).key_end → (item t i).parent ≡ Some p → length (full_name t i) ≡ length (full_name t p) + size
above_is t i p size good ends counted key_size up =
    let e = ap length (full_name_below t i p good ends counted up) in
    let l = length-append (full_name t p) (key t i) in
    let own = key_long t i size (good i counted) key_size in
    omega (arith, e, l, own)

module _ (t : Table) (i at left size rest : ℕ) (good : KeepsAll t keys) (ends : KeepsAll t chain) (walk : IsLeft t i at left) (key_size : (item t at).key_start + size ≡ (item t at).key_end) (taken : rest + size ≡ left) where
  long : length (key t at) ≡ size
  long = key_long t at size (good at walk.counted) key_size

  pub ends_here : (item t at).parent ≡ None → length (full_name t i) + rest ≡ 65535
  ends_here none =
      let w = walk.whole in
      let own = ap length (full_name_at_root t at good walk.counted none) in
      omega (arith, w, own, long, taken)

  pub goes_up : (p : ℕ) → (item t at).parent ≡ Some p → IsLeft t i p rest
  goes_up p up = record {
    counted = parent_counted t at p good walk.counted up;
    whole = let w = walk.whole in let above = above_is t at p size good ends walk.counted key_size up in omega (arith, w, above, taken);
  }

-- what is noted ends the walk
pub ends_noted : (t : Table) (i at left known last : ℕ) → IsLeft t i at left → length (full_name t at) ≡ known → last + known ≡ left → length (full_name t i) + last ≡ 65535
ends_noted t i at left known last walk is e = let w = walk.whole in omega (arith, w, is, e)

-- a name holds its key
name_holds_key : (t : Table) (i size : ℕ) (up : Option ℕ) → KeepsAll t keys → KeepsAll t chain → i < item_count t → (item t i).key_start + size ≡ (item t i).key_end → (item t i).parent ≡ up → size ≤ length (full_name t i)
name_holds_key t i size None good ends counted e top = omega (arith, ap length (full_name_at_root t i good counted top), key_long t i size (good i counted) e)
name_holds_key t i size (Some p) good ends counted e up = omega (arith, above_is t i p size good ends counted e up)

-- no bytes are left for the key at hand
pub too_long : (t : Table) (i at left size : ℕ) → KeepsAll t keys → KeepsAll t chain → IsLeft t i at left → (item t at).key_start + size ≡ (item t at).key_end → left < size → 65535 < length (full_name t i)
too_long t i at left size good ends walk e none = omega (arith, name_holds_key t at size (item t at).parent good ends walk.counted e refl, walk.whole, none)

-- the length of the one name tells
pub short_name : (t : Table) (i : ℕ) → length (full_name t i) ≤ 65535 → (name : List ℕ) → HasName t i name → length name ≤ 65535
short_name t i le name h = omega (arith, ap length (full_name_is t i name h), le)

-- an item with a right parent keeps the rule where its name is short
pub placed_where_short : (t : Table) (i : ℕ) (o : Option ℕ) → HasParent t i (item t i).parent → KeepsAll t keys → KeepsAll t chain → i < item_count t → IfSome o (λ len. length (full_name t i) ≡ len)
    → IfSome o (λ len. len ≤ 65535) → IfNone o (65535 < length (full_name t i)) → IsSome o ↔ HasPlace t i
placed_where_short t i (Some n) up good ends counted len short long = (λ _. record { has_parent = up; short = short_name t i (omega (arith, len, short)) }, λ _. refl)
placed_where_short t i None up good ends counted len short long =
    (λ h. let bad : false ≡ true = h in cc, λ place. absurd (omega (arith, place.short (full_name t i) (has_full_name t i good ends counted), long)))
