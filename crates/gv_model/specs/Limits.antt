-- How much is written.
use Rattle.std.specs.Prelude.{ℕ}

-- how many bytes a value has at most that is made, and a database
abbrev pub limit : ℕ
limit = 4294967295
