-- Which kind of store was found, and who says so, as `explain` tells it.
use Rattle.std.specs.Prelude.{ℕ, List, [], codes, not, if◌then◌else◌}
use Rattle.dconf_model.specs.Explains.{columns}
use Rattle.dconf_places.specs.Places.{Giver, is_empty}
use Rattle.dconf_places.specs.Places.Giver.{nobody, program, user}
use Rattle.dconf_homes.specs.Homes.{StoreKind, Surroundings, kind_for}
use Rattle.dconf_homes.specs.Homes.StoreKind.{own, dconfs, unknown}

abbrev pub kind_word : StoreKind → List ℕ
kind_word own = codes "dconfdb"
kind_word dconfs = codes "dconf"
kind_word unknown = codes "unknown"

-- who names a folder, or the machine's file; where there is none, nobody does
abbrev pub who_says : Surroundings → Giver → List ℕ
who_says s nobody =
    if not (is_empty s.variables.store) then codes "$DCONFDB_STORE" else if is_empty s.machine then [] else codes "/etc/dconfdb/store"
who_says s (program folder) = codes "--store"
who_says s (user folder) = codes "--store"

abbrev pub store_line : Surroundings → Giver → List ℕ
store_line s g = columns (codes "store") (kind_word (kind_for s g)) (who_says s g)
