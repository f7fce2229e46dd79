-- In a table whose keys are good and whose parents end, each item has one full name: its parent's and its own key.
use Rattle.std.proofs.Common.{ℕ, List, [], ◌++◌, Option, Some, None, ◌≡◌, ◌<◌, refl, sym, ap, subst}
use Rattle.std.specs.Prelude.{IfSome}
use Rattle.std.specs.Option.{unwrap_or}
use Rattle.dconf_model.specs.Table.{Table, item, item_count, key}
use Rattle.dconf_model.specs.Names.{HasName, IsItem, full_name, joined}
use Rattle.dconf_model.specs.Sound.{KeepsAll}
use Rattle.dconf_model.specs.Sound.Rule.{keys, chain}
use Rattle.dconf_model.proofs.NameSteps.{at_root, moves_up}
use Rattle.dconf_model.proofs.ComputedNames.{name_of_named}
use Rattle.dconf_model.proofs.SoundLaws.{parents_of_name}

-- an item's full name is this and no other
pub full_name_is : (t : Table) (i : ℕ) (name : List ℕ) → HasName t i name → full_name t i ≡ name
unfolding full_name
full_name_is t i name h = ap (λ (o : Option (List ℕ)). unwrap_or o []) (name_of_named t i name h)

pub has_full_name : (t : Table) (i : ℕ) → KeepsAll t keys → KeepsAll t chain → i < item_count t → HasName t i (full_name t i)
has_full_name t i good ends counted =
    let end = ends i counted in
    let named : HasName t i (joined t i end.parents) = record { parents = end.parents; chain = parents_of_name t good ends end.parents i counted end.ends; spelled = refl } in
    subst (HasName t i) (sym (full_name_is t i (joined t i end.parents) named)) named

pub here : (t : Table) (i : ℕ) → KeepsAll t keys → i < item_count t → IsItem t i
here t i good counted = record { counted = counted; key_inside = (good i counted).inside }

-- a parent is an item
pub parent_counted : (t : Table) (i p : ℕ) → KeepsAll t keys → i < item_count t → (item t i).parent ≡ Some p → p < item_count t
parent_counted t i p good counted up = subst (λ x. IfSome x (λ q. q < item_count t)) up (good i counted).parent

pub full_name_at_root : (t : Table) (i : ℕ) → KeepsAll t keys → i < item_count t → (item t i).parent ≡ None → full_name t i ≡ key t i
full_name_at_root t i good counted none =
    full_name_is t i (key t i) ((at_root t i [] (key t i) (here t i good counted) none refl).0 refl)

pub full_name_below : (t : Table) (i p : ℕ) → KeepsAll t keys → KeepsAll t chain → i < item_count t → (item t i).parent ≡ Some p → full_name t i ≡ full_name t p ++ key t i
full_name_below t i p good ends counted up =
    full_name_is t i (full_name t p ++ key t i)
    ((moves_up t i p (full_name t p) (full_name t p ++ key t i) (here t i good counted) up (ends i counted).key refl).0
    (has_full_name t p good ends (parent_counted t i p good counted up)))
