use Rattle.std.proofs.Common.{◌≡◌, ◌∙◌, true, false, not, ap, sym}
use Rattle.gvdb_format.specs.Tables.{region}
use Rattle.gvdb_check.proofs.Places.{locks_is_table}
use Rattle.gvdb_check.proofs.locks.has_locks_if_any.Goals as goal

-- what is named `.locks` is a table
pub returns-then-not-has_kind : goal.returns-then-not-has_kind
returns-then-not-has_kind c = (
  λ _ named.
      let is_table = c.has_kind.ensures.1 (locks_is_table (region c.args.table) c.args.i c.requires.place named) in
      let bad : false ≡ true = sym c.if-not-has_kind.true ∙ is_table in
      absurd cc,
  λ _. ap not c.if-not-has_kind.true,
)
