use Rattle.std.proofs.Common.{◌≡◌, ℕ, List, map, take, vec_items}
use Rattle.dconfdb_calls.specs.Named.{told}
use Rattle.dconf_homes.specs.Told.{home_of}
use Rattle.dconf_found.specs.DconfsLines.{text_in_place}
use Rattle.dconf_found.proofs.dconfs.lines_of.Given as goal

abbrev pub invariant-loop-name : goal.invariant-loop-name
invariant-loop-name l = vec_items l.text ≡ text_in_place (home_of l.place) (map told (take l.name-index l.names))
