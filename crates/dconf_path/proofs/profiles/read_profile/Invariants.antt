use Rattle.std.proofs.Common.{◌≡◌, length, map, take, vec_len}
use Rattle.dconf_model.specs.Profiles.{entries_in}
use Rattle.dconf_path.specs.Profiles.{database_of}
use Rattle.dconf_path.proofs.LineSteps.{HasRead, parts_of}
use Rattle.dconf_path.proofs.ProfileLines.{profile_line}
use Rattle.dconf_path.proofs.profiles.read_profile.Given as goal

abbrev pub invariant-loop-before : goal.invariant-loop-before
invariant-loop-before l =
    HasRead profile_line (parts_of l.text) (length l.yielded) (map database_of l.databases.items)
    × (entries_in (take (length l.yielded) (parts_of l.text)) ≡ vec_len l.databases)
