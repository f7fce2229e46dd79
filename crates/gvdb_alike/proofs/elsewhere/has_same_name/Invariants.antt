use Rattle.gvdb_read.specs.Tables.{region}
use Rattle.gvdb_alike.specs.NamesAlike.{GoesByName}
use Rattle.gvdb_alike.proofs.elsewhere.has_same_name.Given as goal

-- where what is left has the same parts, all has
abbrev pub invariant-loop : goal.invariant-loop
invariant-loop l = GoesByName (region l.table) l.at (region l.other) l.there → GoesByName (region l.table) l.i (region l.other) l.j
