-- What changes are, as dconf_model has them.
use Rattle.std.specs.Prelude.{List, map}
use Rattle.dconf_path.specs.Paths.{key_text, directory_text}
use Rattle.dconf_engine.specs.Loads.{rows_of}
use Rattle.dconf_model.specs.Changes.{Change as ModelChange}
use Rattle.dconf_model.specs.Changes.Change.{set_value, reset_value, reset_below_directory, load_values}
use Rattle.dconf_store.specs.declared.change.Change.{Change}
use Rattle.dconf_store.specs.declared.change.Change.TheVariants.{Set, Reset, ResetBelow, Load}

abbrev pub change_of : Change → ModelChange
change_of (Set path value) = set_value (key_text path) value.now
change_of (Reset path) = reset_value (key_text path)
change_of (ResetBelow directory) = reset_below_directory (directory_text directory)
change_of (Load rows force) = load_values (rows_of rows.now) force

abbrev pub asked_of : List Change → List ModelChange
asked_of changes = map change_of changes
