use Rattle.std.proofs.Common.{ℕ, List, ap, ◌∙◌, fold}
use Rattle.dconf_model.specs.Plans.{with_new}
use Rattle.gvdb_maps.specs.LayoutParts.{own_values}
use Rattle.gvdb_values.specs.WrittenValues.{bytes_of_each}
use Rattle.gvdb_maps.proofs.FoundValues.{places_stay}
use Rattle.gvdb_maps.proofs.values.PlacedValues.new.Goals as goal

pub returns-clause-distinct : goal.returns-clause-distinct
returns-clause-distinct c =
    c.in_ok-locks.ensures.distinct
    ∙ ap (λ (vs : List (List ℕ)). fold with_new vs (own_values c.args.locks.now))
    (c.in_ok-root.ensures.distinct ∙ ap (λ (vs : List (List ℕ)). fold with_new vs (own_values c.args.root.now)) (ap bytes_of_each c.in_ok-values.ensures.empty))

pub returns-clause-root : goal.returns-clause-root
returns-clause-root c =
    rw c.in_ok-locks.ensures.distinct (places_stay c.args.root.now _ c.in_ok-root.root.items c.in_ok-root.ensures.places (own_values c.args.locks.now))
