use Rattle.std.proofs.Common.{ap, rules, subst, sym, ◌∙◌}
use Rattle.std.specs.String.{string_bytes}
use Rattle.dconf_model.specs.Settings.{IsSettings, Settings, with_value}
use Rattle.gvdb_maps.specs.Maps.{settings_of_rows}
use Rattle.gvdb_maps.proofs.OrderedRows.{pushed_row}
use Rattle.gvdb_maps.proofs.KeyPaths.{valued_at_path}
use Rattle.gvdb_maps.proofs.map_builder.MapBuilder.insert_text.Goals as goal

pub invariant_of-self-2 : goal.invariant_of-self-2
invariant_of-self-2 c =
    let rows = c.self.inside.rows.items in
    let locks = c.self.inside.locks in
    subst IsSettings (sym (pushed_row rows c.push.new.self.items (c.args.path, c.args.value) locks c.in_ok-push.ensures.items))
    (valued_at_path (settings_of_rows rows locks) (string_bytes c.args.path) c.args.value.items c.self.invariant c.requires)

pub returns-clause-ok : goal.returns-clause-ok
returns-clause-ok c =
    pushed_row c.self.inside.rows.items c.push.new.self.items (c.args.path, c.args.value) c.self.inside.locks c.in_ok-push.ensures.items
    ∙ ap (λ (s : Settings). with_value s (string_bytes c.args.path) c.args.value.items) c.self.view_is

pub returns-clause-err : goal.returns-clause-err
returns-clause-err c = search rules
