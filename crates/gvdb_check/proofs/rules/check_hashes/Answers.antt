use Rattle.std.proofs.Common.{arith}
use Rattle.dconf_model.specs.Sound.{KeepsAll}
use Rattle.dconf_model.specs.Sound.Rule.{keys, chain, hash}
use Rattle.gvdb_format.specs.Tables.{region}
use Rattle.gvdb_check.proofs.HashAbove.{hashes_kept}
use Rattle.gvdb_check.proofs.RuleOrder.{one_more}
use Rattle.gvdb_check.proofs.rules.check_hashes.Goals as goal

pub returns-then-hashes_go_on-clause-kept : goal.returns-then-hashes_go_on-clause-kept
returns-then-hashes_go_on-clause-kept c =
    let good : KeepsAll (region c.args.table) keys = c.requires.earlier keys (omega arith) in
    let ends : KeepsAll (region c.args.table) chain = c.requires.earlier chain (omega arith) in
    one_more (region c.args.table) hash c.requires.earlier (hashes_kept (region c.args.table) good ends (c.hashes_go_on.ensures.0 c.if-hashes_go_on.true))
