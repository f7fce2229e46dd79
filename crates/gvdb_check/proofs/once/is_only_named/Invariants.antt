use Rattle.std.proofs.Common.{ℕ, ◌≡◌, ◌≤◌, ◌<◌}
use Rattle.dconf_model.specs.Names.{full_name}
use Rattle.gvdb_format.specs.Tables.{region}
use Rattle.gvdb_check.proofs.once.is_only_named.Given as goal

-- no item of the span that was looked at has the name
abbrev pub invariant-loop-j : goal.invariant-loop-j
invariant-loop-j l = (k : ℕ) → k < l.j → l.first ≤ k → full_name (region l.fn.table) l.i ≡ full_name (region l.fn.table) k → ⊥
