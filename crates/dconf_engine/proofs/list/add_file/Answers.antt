use Rattle.std.proofs.Common.{◌≡◌, cond, sym, true, false, rules, subst}
use Rattle.std.specs.Prelude.{OnOk}
use Rattle.std.specs.FinMap.{keys}
use Rattle.dconf_path.specs.Paths.{directory_text}
use Rattle.dconf_layers.specs.LayerRows.{layer_paths}
use Rattle.dconf_layers.specs.LayerSettings.{settings_of}
use Rattle.dconf_engine.specs.LeftPaths.{has_reset_below, unchanged_of}
use Rattle.dconf_layers.specs.TextSets.{with_children}
use Rattle.dconf_engine.proofs.list.add_file.Goals as goal

pub returns-then-has_reset_below : goal.returns-then-has_reset_below
returns-then-has_reset_below c =
    let d = directory_text c.args.directory in
    let changes = c.args.changes.now in
    let yes : has_reset_below d changes ≡ true = search rules in
    subst (λ b. OnOk c.add_unchanged.result (c.add_unchanged.new.names ≡ with_children d (cond b (unchanged_of changes (layer_paths c.args.layer)) (keys (settings_of c.args.layer).values)) c.args.names.now))
    (sym yes) c.add_unchanged.ensures

pub returns : goal.returns
returns c =
    let d = directory_text c.args.directory in
    let changes = c.args.changes.now in
    let none : has_reset_below d changes ≡ false = search rules in
    subst (λ b. OnOk c.add_listed.result (c.add_listed.new.names ≡ with_children d (cond b (unchanged_of changes (layer_paths c.args.layer)) (keys (settings_of c.args.layer).values)) c.args.names.now))
    (sym none) c.add_listed.ensures
