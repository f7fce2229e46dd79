use Rattle.std.proofs.Common.{◌≡◌}
use Rattle.dconf_model.specs.Settings.{no_settings}
use Rattle.dconf_layers.specs.Entries.{entries_left}
use Rattle.dconf_layers.specs.LayerRows.{layer_rows}
use Rattle.dconf_engine.specs.Saved.{with_unchanged}
use Rattle.dconf_engine.proofs.user_database.unchanged.Given as goal

-- what is left to take gives what all entries give
abbrev pub invariant-loop-entry : goal.invariant-loop-entry
invariant-loop-entry l = with_unchanged l.changes (entries_left l.entry-iterator) l.values ≡ with_unchanged l.changes (layer_rows l.layer) no_settings
