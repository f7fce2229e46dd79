use Rattle.std.proofs.Common.{◌≡◌, ◌∙◌, ap, sym, subst, List, ℕ, map}
use Rattle.std.specs.FinMap.{keys}
use Rattle.std.specs.String.{string_bytes}
use Rattle.dconf_model.specs.Paths.{is_key_path}
use Rattle.dconf_model.specs.Settings.{Settings}
use Rattle.gvdb_maps.specs.Maps.{AreKeyPaths, settings_of, texts}
use Rattle.gvdb_maps.proofs.Order.{keys_values}
use Rattle.gvdb_maps.proofs.KeyPaths.{listed_pass}
use Rattle.gvdb_maps.proofs.map.Map.keys.Goals as goal

pub invariant_of-result : goal.invariant_of-result
invariant_of-result c =
    let s = settings_of c.self.inside.values c.self.inside.locks in
    let listed : texts c.keys-rest.result ≡ keys s.values = ap (map string_bytes) c.keys-rest.ensures.rest ∙ sym (keys_values c.self.inside.values c.keys-rest.ensures.ordered) in
    record { are_paths = subst (λ (ps : List (List ℕ)). AreKeyPaths ps) (sym listed) (listed_pass is_key_path s.values c.self.invariant.valued) }

pub returns : goal.returns
returns c =
    ap (map string_bytes) c.keys-rest.ensures.rest ∙ sym (keys_values c.self.inside.values c.keys-rest.ensures.ordered) ∙ ap (λ (s : Settings). keys s.values) c.self.view_is
