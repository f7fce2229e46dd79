-- The model's command of ours.
use Rattle.std.specs.Prelude.{ℕ, Bool, true, false, List, map, string_bytes, vec_items}
use Rattle.dconf_model.specs.Commands.{Command as ModelCommand}
use Rattle.dconf_model.specs.Commands.Command.{show, read, list, list_locks, write, reset, reset_below, load, dump, origin, explain, check, compile, repair}
use Rattle.command_words.specs.declared.commands.Command.{Command}
use Rattle.command_words.specs.declared.commands.Command.TheVariants.{Show, Read, List as ListIt, ListLocks, Write, Reset, Load, Dump, Origin, Explain, Check, Compile, Repair}

-- of all keys below a directory, or of a key
abbrev pub resetting : Bool → List ℕ → List ℕ → ModelCommand
resetting true path profile = reset_below path profile
resetting false path profile = reset path profile

abbrev pub command_of : Command → ModelCommand
command_of (Show type_text file) = show (string_bytes type_text) (string_bytes file)
command_of (Read default key profile) = read default (string_bytes key) (string_bytes profile)
command_of (Origin key profile) = origin (string_bytes key) (string_bytes profile)
command_of (Explain key profile) = explain (string_bytes key) (string_bytes profile)
command_of (ListIt directory profile) = list (string_bytes directory) (string_bytes profile)
command_of (ListLocks directory profile) = list_locks (string_bytes directory) (string_bytes profile)
command_of (Dump skip_doubles directory profile) = dump skip_doubles (string_bytes directory) (string_bytes profile)
command_of (Check file) = check (string_bytes file)
command_of (Compile out locks keyfiles) = compile (string_bytes out) (map string_bytes (vec_items locks)) (map string_bytes (vec_items keyfiles))
command_of (Repair file out) = repair (string_bytes file) (string_bytes out)
command_of (Write key value profile) = write (string_bytes key) (string_bytes value) (string_bytes profile)
command_of (Reset force path profile) = resetting force (string_bytes path) (string_bytes profile)
command_of (Load force skip_doubles directory profile) = load force skip_doubles (string_bytes directory) (string_bytes profile)

-- the same command by the profile in another file
abbrev pub with_profile : List ℕ → ModelCommand → ModelCommand
with_profile file (read default key profile) = read default key file
with_profile file (list directory profile) = list directory file
with_profile file (list_locks directory profile) = list_locks directory file
with_profile file (write key value profile) = write key value file
with_profile file (reset key profile) = reset key file
with_profile file (reset_below directory profile) = reset_below directory file
with_profile file (load force skip_doubles directory profile) = load force skip_doubles directory file
with_profile file (dump skip_doubles directory profile) = dump skip_doubles directory file
with_profile file (origin key profile) = origin key file
with_profile file (explain key profile) = explain key file
with_profile file other = other
