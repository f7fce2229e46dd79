-- A store without databases has nothing.
use Rattle.std.specs.Prelude.{◌≡◌, List, [], ◌∷◌, refl}
use Rattle.std.proofs.Common.{ap}
use Rattle.dconf_model.specs.Settings.{Settings}
use Rattle.dconf_model.specs.Databases.{AreLayers}
use Rattle.dconf_model.specs.Layers.{Layers, visible, child_names, locks_below}
use Rattle.dconf_model.specs.Stores.{EmptyHasNothing}

pub no_layers : (ls : List Settings) → AreLayers [] ls → ls ≡ []
no_layers [] h = refl
no_layers (s ∷ ss) h = absurd h

pub empty_has_nothing : EmptyHasNothing
empty_has_nothing l h =
    let is_l : l ≡ record { layers = []; writable = l.writable } = λ i. record { layers = no_layers l.layers h i; writable = l.writable } in
    record {
      values = λ path. ap (λ (l : Layers). visible l path) is_l;
      children = λ directory. ap (λ (l : Layers). child_names l directory) is_l;
      locks = λ directory. ap (λ (l : Layers). locks_below l directory) is_l;
    }
