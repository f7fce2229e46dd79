use Rattle.std.proofs.Common.{◌≡◌, ◌∙◌, ap, sym, subst, List, ℕ, map}
use Rattle.std.specs.FinMap.{keys}
use Rattle.std.specs.String.{string_bytes}
use Rattle.dconf_model.specs.Paths.{is_path}
use Rattle.gvdb_maps.specs.Maps.{ArePaths, locks_of, texts}
use Rattle.gvdb_maps.proofs.Order.{keys_locks}
use Rattle.gvdb_maps.proofs.KeyPaths.{listed_pass}
use Rattle.gvdb_maps.proofs.map.Locks.of.Goals as goal

abbrev listed : (c : goal.After-iter-rest) → texts c.iter-rest.result ≡ keys (locks_of c.args.locks.now)
listed c = ap (map string_bytes) c.iter-rest.ensures.rest ∙ sym (keys_locks c.args.locks.now c.iter-rest.ensures.ordered)

pub invariant_of-result : goal.invariant_of-result
invariant_of-result c = record { are_paths = subst (λ (ps : List (List ℕ)). ArePaths ps) (sym (listed c)) (listed_pass is_path (locks_of c.args.locks.now) c.requires) }

pub returns : goal.returns
returns c = ap (map string_bytes) c.iter-rest.ensures.rest ∙ sym (keys_locks c.args.locks.now c.iter-rest.ensures.ordered)
