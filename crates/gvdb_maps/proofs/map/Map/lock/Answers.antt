use Rattle.std.proofs.Common.{◌≡◌, ◌∙◌, ap, rules}
use Rattle.std.specs.String.{string_bytes}
use Rattle.dconf_model.specs.Settings.{Settings, AtPaths, Lock, with_lock}
use Rattle.dconf_path.specs.Paths.{lock_text}
use Rattle.gvdb_maps.specs.Maps.{values_of}
use Rattle.gvdb_maps.proofs.Read.{locked}
use Rattle.gvdb_maps.proofs.KeyPaths.{kept_where_locked, lock_is_path}
use Rattle.gvdb_maps.proofs.map.Map.lock.Goals as goal

pub invariant_of-self-2 : goal.invariant_of-self-2
invariant_of-self-2 c =
    let named : string_bytes c.in_ok-path.path ≡ lock_text c.args.path = search rules in
    let e = locked c.self.inside.locks c.insert.new.self c.in_ok-path.path (lock_text c.args.path) c.in_ok-insert.ensures.updates named in
    kept_where_locked (values_of c.self.inside.values) c.self.inside.locks c.insert.new.self (lock_text c.args.path) c.self.invariant (lock_is_path c.args.path) e

pub returns-clause-ok : goal.returns-clause-ok
returns-clause-ok c =
    let named : string_bytes c.in_ok-path.path ≡ lock_text c.args.path = search rules in
    let e = locked c.self.inside.locks c.insert.new.self c.in_ok-path.path (lock_text c.args.path) c.in_ok-insert.ensures.updates named in
    ap (λ (l : AtPaths Lock). record { values = values_of c.self.inside.values; locks = l }) e ∙ ap (λ (s : Settings). with_lock s (lock_text c.args.path)) c.self.view_is

pub returns-clause-err : goal.returns-clause-err
returns-clause-err c = search rules
