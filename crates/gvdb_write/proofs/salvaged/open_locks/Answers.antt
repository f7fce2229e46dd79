use Rattle.std.proofs.Common.{◌≡◌, ◌↔◌, Option, Some, None, true, false}
use Rattle.std.specs.Prelude.{IfNone, IsSome}
use Rattle.dconf_model.proofs.NameSteps.{is_item}
use Rattle.gvdb_read.specs.Tables.{region}
use Rattle.gvdb_write.proofs.salvaged.open_locks.Goals as goal

none_where : {X P Q : Type 0} (o : Option X) → (IsSome o ↔ P) → (Q → P) → IfNone o (Q → ⊥)
none_where None e f = λ q. let bad : false ≡ true = e.1 (f q) in cc
none_where (Some x) e f = tt

pub returns-then-has_name-clause-none : goal.returns-then-has_name-clause-none
returns-then-has_name-clause-none c =
    none_where c.table_at.result c.table_at.ensures.some (λ h.
    record { counted = (is_item (region c.args.root) c.args.i _ h.named).counted; of_kind = h.of_kind; opens = h.opens })
