use Rattle.std.proofs.Common.{◌∙◌, ap, refl, rules, List, ℕ}
use Rattle.std.specs.String.{string_bytes}
use Rattle.dconf_model.specs.Settings.{Settings, AtPaths, with_value}
use Rattle.gvdb_maps.specs.Maps.{locks_of}
use Rattle.gvdb_maps.proofs.Read.{inserted}
use Rattle.gvdb_maps.proofs.KeyPaths.{kept_where_inserted}
use Rattle.gvdb_maps.proofs.map.Map.insert_text.Goals as goal

pub invariant_of-self-2 : goal.invariant_of-self-2
invariant_of-self-2 c =
    let path = string_bytes c.args.path in
    let e = inserted c.self.inside.values c.insert.new.self c.args.path c.args.value path c.args.value.items c.in_ok-insert.ensures.updates refl refl in
    kept_where_inserted c.self.inside.values c.insert.new.self c.self.inside.locks path c.args.value.items c.self.invariant c.requires e

pub returns-clause-ok : goal.returns-clause-ok
returns-clause-ok c =
    let path = string_bytes c.args.path in
    let e = inserted c.self.inside.values c.insert.new.self c.args.path c.args.value path c.args.value.items c.in_ok-insert.ensures.updates refl refl in
    ap (λ (v : AtPaths (List ℕ)). record { values = v; locks = locks_of c.self.inside.locks }) e ∙ ap (λ (s : Settings). with_value s path c.args.value.items) c.self.view_is

pub returns-clause-err : goal.returns-clause-err
returns-clause-err c = search rules
