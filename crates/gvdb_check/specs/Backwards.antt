-- The bytes of a full name that are left, from its end.
use Rattle.std.specs.Prelude.{ℕ, List, ◌++◌, reverse}
use Rattle.gvdb_format.specs.Tables.{region}
use Rattle.gvdb_check.specs.Joined.{above}
use Rattle.gvdb_check.specs.declared.backwards.Backwards.{Backwards}

abbrev pub backwards_left : Backwards → List ℕ
backwards_left b = reverse (above (region b.table) b.parent ++ b.key.now)
