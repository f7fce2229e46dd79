use Rattle.std.proofs.Common.{◌≡◌, ◌∙◌, List, ℕ, ap, rules, sym}
use Rattle.dconf_path.specs.Paths.{directory_text}
use Rattle.dconf_layers.specs.Entries.{entries_left}
use Rattle.dconf_layers.specs.LayerRows.{layer_rows, paths_of}
use Rattle.dconf_engine.specs.Cleared.{cleared}
use Rattle.dconf_engine.specs.Unsaved.{and_resets}
use Rattle.dconf_engine.proofs.ClearedLaws.{first_is}
use Rattle.dconf_engine.proofs.engine.Engine.reset_first.Goals as goal

pub loop-entry-init : goal.loop-entry-init
loop-entry-init c =
    let items : entries_left c.into_iter-entry-iterator.result ≡ layer_rows c.in-Some.first.now = search rules in
    ap (λ (ps : List (List ℕ)). and_resets (cleared c.args.self.now (directory_text c.args.directory) ps) c.args.changes.now)
    (ap paths_of items ∙ first_is c.args.layers.now c.in-Some.first.now (sym c.in-Some.ensures.value))
