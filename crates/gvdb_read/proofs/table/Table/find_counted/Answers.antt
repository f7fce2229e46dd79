use Rattle.std.proofs.Common.{rules, ◌+◌, ◌*◌, ◌≤◌, ℕ, List, length, subst}
use Rattle.dconf_model.specs.Bytes.{hash_of}
use Rattle.dconf_model.specs.Search.{span_size}
use Rattle.gvdb_read.specs.Tables.{region}
use Rattle.gvdb_read.proofs.table.Table.find_counted.Goals as goal

pub returns-clause-found : goal.returns-clause-found
returns-clause-found c = search rules

pub returns-clause-cost : goal.returns-clause-cost
returns-clause-cost c =
    subst (λ (n : List ℕ). c.find_item.new.steps ≤ c.args.steps.now + span_size (region c.args.self) (hash_of n) * (length n + 1))
    c.as_bytes.ensures.value c.find_item.ensures.cost
