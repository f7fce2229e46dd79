use Rattle.std.proofs.Common.{◌≡◌, take, map, List, ℕ}
use Rattle.dconf_path.specs.Profiles.{database_of}
use Rattle.dconfdb_calls.specs.Named.{named, told}
use Rattle.dconfdb_calls.proofs.profiles.names_of.Given as goal

-- the databases so far
abbrev pub invariant-loop-database : goal.invariant-loop-database
invariant-loop-database l = map {B = ℕ × List ℕ} told l.names.items ≡ map {B = ℕ × List ℕ} (λ d. named (database_of d)) (take l.database-index l.databases)
