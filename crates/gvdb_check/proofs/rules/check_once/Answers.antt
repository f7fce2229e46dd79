use Rattle.std.proofs.Common.{rules, arith}
use Rattle.dconf_model.specs.Sound.{KeepsAll}
use Rattle.dconf_model.specs.Sound.Rule.{keys, chain, hash, span, once}
use Rattle.gvdb_format.specs.Tables.{region}
use Rattle.gvdb_check.proofs.RuleOrder.{moved, one_more}
use Rattle.gvdb_check.proofs.rules.check_once.Goals as goal

pub returns-then-hashes_tell-clause-kept : goal.returns-then-hashes_tell-clause-kept
returns-then-hashes_tell-clause-kept c = one_more (region c.args.table) once c.requires.earlier (c.hashes_tell.ensures c.if-hashes_tell.true)

pub each_keeps-requires-clause-callable : goal.each_keeps-requires-clause-callable
each_keeps-requires-clause-callable c =
    let good : KeepsAll (region c.args.table) keys = c.requires.earlier keys (omega arith) in
    let ends : KeepsAll (region c.args.table) chain = c.requires.earlier chain (omega arith) in
    let hashed : KeepsAll (region c.args.table) hash = c.requires.earlier hash (omega arith) in
    let spans : KeepsAll (region c.args.table) span = c.requires.earlier span (omega arith) in
    λ i counted. search rules

pub each_keeps-requires-clause-tells : goal.each_keeps-requires-clause-tells
each_keeps-requires-clause-tells c = λ i b post. search (rules, moved)
