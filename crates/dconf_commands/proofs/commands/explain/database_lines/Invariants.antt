use Rattle.std.proofs.Common.{◌≡◌, string_bytes}
use Rattle.dconf_model.specs.Databases.{gathered}
use Rattle.dconf_model.specs.Explains.{columns, lock_in, place_name, told_lock, told_value, value_in}
use Rattle.dconf_path.specs.Paths.{key_text}
use Rattle.dconf_path.specs.Profiles.{databases_of}
use Rattle.dconf_commands.proofs.commands.explain.database_lines.Given as goal

-- the lines of the databases before this one
abbrev pub invariant-loop-i : goal.invariant-loop-i
invariant-loop-i l =
    string_bytes l.lines
    ≡ gathered (λ i. columns (place_name (databases_of l.profile) i) (told_value (value_in l.engine (key_text l.key) i)) (told_lock (lock_in l.engine (key_text l.key) i))) l.i
