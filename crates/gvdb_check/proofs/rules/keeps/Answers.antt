use Rattle.std.proofs.Common.{◌≡◌, ◌<◌, ap, arith, subst, sym}
use Rattle.dconf_model.specs.Table.{Table}
use Rattle.dconf_model.specs.Sound.{Rule, KeepsAll, rule_number}
use Rattle.dconf_model.specs.Sound.Rule.{keys, chain, hash, content, lists}
use Rattle.gvdb_check.specs.declared.unsound.Rule.{Rule as CodeRule}
use Rattle.gvdb_format.specs.Tables.{region}
use Rattle.gvdb_check.specs.Unsounds.{IsAskedAlone, KeepsBelow, rule_of}
use Rattle.gvdb_check.proofs.rules.keeps.Goals as goal

-- what is kept where this rule is asked
known : (t : Table) (asked : CodeRule) (this earlier : Rule) → rule_of asked ≡ this → rule_number earlier < rule_number this
    → KeepsBelow t (rule_number (rule_of asked)) → KeepsAll t earlier
known t asked this earlier is lower kept = kept earlier (subst (λ (r : Rule). rule_number earlier < rule_number r) (sym is) lower)

pub has_hash_of_name-requires-clause-keys : goal.has_hash_of_name-requires-clause-keys
has_hash_of_name-requires-clause-keys c = known (region c.args.table) c.args.rule hash keys (ap rule_of c.in-Hash.is) (omega arith) c.requires.earlier

pub has_hash_of_name-requires-clause-chain : goal.has_hash_of_name-requires-clause-chain
has_hash_of_name-requires-clause-chain c = known (region c.args.table) c.args.rule hash chain (ap rule_of c.in-Hash.is) (omega arith) c.requires.earlier

pub has_list_if_any-requires-clause-valid : goal.has_list_if_any-requires-clause-valid
has_list_if_any-requires-clause-valid c =
    (known (region c.args.table) c.args.rule lists content (ap rule_of c.in-Lists.is) (omega arith) c.requires.earlier c.args.i c.requires.counted).valid

pub returns-in-Buckets : goal.returns-in-Buckets
returns-in-Buckets c = absurd (subst IsAskedAlone (ap rule_of c.in-Buckets.is) c.requires.alone)

pub returns-in-Chain : goal.returns-in-Chain
returns-in-Chain c = absurd (subst IsAskedAlone (ap rule_of c.in-Chain.is) c.requires.alone)

pub returns-in-Once : goal.returns-in-Once
returns-in-Once c = absurd (subst IsAskedAlone (ap rule_of c.in-Once.is) c.requires.alone)

pub returns-in-Place : goal.returns-in-Place
returns-in-Place c = absurd (subst IsAskedAlone (ap rule_of c.in-Place.is) c.requires.alone)

pub returns-in-Locks : goal.returns-in-Locks
returns-in-Locks c = absurd (subst IsAskedAlone (ap rule_of c.in-Locks.is) c.requires.alone)
