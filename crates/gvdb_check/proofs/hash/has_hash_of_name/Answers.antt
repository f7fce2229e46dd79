use Rattle.std.proofs.Common.{◌≡◌, ◌∙◌, sym, eq-eqb}
use borrow.Author.Tests.{eqb-true}
use Rattle.dconf_model.specs.Table.{item}
use Rattle.gvdb_format.specs.Tables.{region}
use Rattle.gvdb_check.proofs.NameChecks.{hash_is_of_name}
use Rattle.gvdb_check.proofs.hash.has_hash_of_name.Goals as goal

pub returns : goal.returns
returns c =
    let t = region c.args.table in
    let same = hash_is_of_name t c.args.i c.requires.keys c.requires.chain c.requires.counted in
    let own : c.hash_at.result ≡ (item t c.args.i).hash = c.hash_at.ensures in
    (λ e. same.0 (sym own ∙ (eqb-true _ _ e ∙ c.hash_of_name.ensures)), λ h. eq-eqb _ _ (own ∙ (same.1 h ∙ sym c.hash_of_name.ensures)))
