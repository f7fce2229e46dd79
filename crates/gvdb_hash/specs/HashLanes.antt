-- A hash that is kept as four sums: of the bytes at each fourth place, from the first, second, third and fourth on.
use Rattle.std.specs.Prelude.{ℕ, ◌+◌, ◌*◌, ◌%◌, ◌^◌}
use Rattle.gvdb_hash.specs.declared.hashing.Lanes.{Lanes}

abbrev pub lanes_hash : Lanes → ℕ
lanes_hash l = (l.first * 35937 + l.second * 1089 + l.third * 33 + l.fourth) % 2 ^ 32
