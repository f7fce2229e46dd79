use Rattle.std.proofs.Common.{◌≡◌, map, take}
use Rattle.dconf_model.specs.Updates.{updates}
use Rattle.command_words.specs.Commands.{command_of}
use Rattle.command_words.specs.Updates.{folder_of}
use Rattle.command_words.proofs.sources.updates.Given as goal

abbrev pub invariant-loop-folder : goal.invariant-loop-folder
invariant-loop-folder l = map command_of l.commands.items ≡ updates (map folder_of (take l.folder-index l.folders))
