-- `reset -f` of a key.
use Rattle.std.specs.Prelude.{if◌then◌else◌}
use Rattle.dconf_model.specs.Commands.{Command}
use Rattle.dconf_model.specs.Commands.Command.{reset, reset_below}
use Rattle.dconf_model.specs.Paths.{ends_with_slash}

-- of what is no directory it is the reset of a key, and any other command stays what it is
abbrev pub as_in_dconf : Command → Command
as_in_dconf (reset_below path profile) = if ends_with_slash path then reset_below path profile else reset path profile
as_in_dconf other = other
