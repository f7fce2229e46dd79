use Rattle.std.proofs.Common.{◌∙◌, ap, map, sym, ℕ, List}
use Rattle.std.proofs.lemmas.Simd.{map-map}
use Rattle.dconf_model.specs.Profiles.{Database}
use Rattle.dconf_path.specs.Profiles.{database_of, databases_of}
use Rattle.dconfdb_calls.specs.Named.{named}
use Rattle.dconfdb_calls.proofs.profiles.named.Goals as goal

pub returns-clause-names : goal.returns-clause-names
returns-clause-names c = (
  databases_of c.in_ok-profile.profile,
  c.in_ok-profile.ensures.found,
  c.in_ok-names.ensures ∙ (sym (map-map {C = ℕ × List ℕ} named database_of c.databases.result.now) ∙ ap (λ (ds : List Database). map {B = ℕ × List ℕ} named ds) c.databases.ensures),
)
