-- Where each hash goes on from that of the parent, each is that of the full name.
use Rattle.std.proofs.Common.{ℕ, List, [], ◌∷◌, Option, ◌≡◌, ◌<◌, sym, ◌∙◌, ap}
use Rattle.std.specs.Prelude.{fold}
use Rattle.std.proofs.lemmas.List.Sums.{fold-append}
use Rattle.dconf_model.specs.Bytes.{hash_of, hash_step}
use Rattle.dconf_model.specs.Table.{Table, item, item_count, key}
use Rattle.dconf_model.specs.Names.{full_name}
use Rattle.dconf_model.specs.Searchable.{EachItem, LeadsUp}
use Rattle.dconf_model.specs.Sound.{KeepsAll}
use Rattle.dconf_model.specs.Sound.Rule.{keys, chain, hash}
use Rattle.dconf_model.proofs.FullNames.{full_name_at_root, full_name_below, parent_counted}
use Rattle.gvdb_check.specs.HashAbove.{GoesOn, hash_above}
use Rattle.gvdb_check.proofs.NameChecks.{hash_is_of_name}

-- up the parents
along : (t : Table) → KeepsAll t keys → KeepsAll t chain → EachItem t (GoesOn t) → (ps : List ℕ) (i : ℕ) → i < item_count t → LeadsUp t i ps → (item t i).hash ≡ hash_of (full_name t i)
along t good ends each [] i counted up =
    each i counted ∙ (ap (λ (o : Option ℕ). fold hash_step (hash_above t o) (key t i)) up ∙ sym (ap hash_of (full_name_at_root t i good counted up)))
along t good ends each (p ∷ ps) i counted up =
    let above : (item t p).hash ≡ hash_of (full_name t p) = along t good ends each ps p (parent_counted t i p good counted up.0) up.1 in
    each i counted ∙ (ap (λ (o : Option ℕ). fold hash_step (hash_above t o) (key t i)) up.0
    ∙ (ap (λ h. fold hash_step h (key t i)) above
    ∙ (sym (fold-append hash_step (hash_of []) (full_name t p) (key t i)) ∙ sym (ap hash_of (full_name_below t i p good ends counted up.0)))))

pub hashes_kept : (t : Table) → KeepsAll t keys → KeepsAll t chain → EachItem t (GoesOn t) → KeepsAll t hash
hashes_kept t good ends each i counted =
    let end = ends i counted in
    (hash_is_of_name t i good ends counted).0 (along t good ends each end.parents i counted end.ends)
