use Rattle.std.proofs.Common.{◌≡◌, arith}
use borrow.Author.Tests.{eqb-true}
use Rattle.dconf_model.specs.Table.{item}
use Rattle.gvdb_format.specs.Tables.{region}
use Rattle.gvdb_check.proofs.NameChecks.{same_hash}
use Rattle.gvdb_check.proofs.once.has_name_of.Goals as goal

pub returns-else-hash_at : goal.returns-else-hash_at
returns-else-hash_at c =
    let t = region c.args.table in
    let one : c.hash_at.result ≡ (item t c.args.i).hash = c.hash_at.ensures in
    let other : c.hash_at-2.result ≡ (item t c.args.j).hash = c.hash_at-2.ensures in (
      λ h. let same : c.hash_at.result ≡ c.hash_at-2.result = eqb-true _ _ h in absurd (omega arith),
      λ e. let same = same_hash t c.args.i c.args.j c.requires.keys c.requires.chain c.requires.hash c.requires.first c.requires.second e in absurd (omega arith),
    )
