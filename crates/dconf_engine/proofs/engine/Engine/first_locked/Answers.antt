use Rattle.std.proofs.Common.{◌∙◌, rules, Bool}
use borrow.Author.Tests.{tests}
use Rattle.std.proofs.lemmas.Iterator.{YieldsList-from_slice}
use Rattle.std.proofs.lemmas.Iterator.Search.{position_from_yields_List}
use Rattle.std.proofs.lemmas.Iterator.Adapters.{position_from-zero}
use Rattle.gv_model.specs.Tree.{Tree}
use Rattle.dconf_path.specs.declared.path.KeyPath.{KeyPath}
use Rattle.dconf_path.specs.Paths.{key_text}
use Rattle.dconf_model.specs.Layers.{is_locked}
use Rattle.dconf_engine.proofs.WritingLaws.{first_locked_at}
use Rattle.dconf_engine.proofs.engine.Engine.first_locked.Goals as goal

pub returns : goal.returns
returns c =
    let test : KeyPath × Tree → Bool = (λ row. is_locked c.args.self.now (key_text row.0)) in
    let first = position_from_yields_List test _ _ c.position.result c.position.ensures.ran (YieldsList-from_slice c.args.rows.now cc) (λ x b q k. search (rules, tests)) in
    first ∙ position_from-zero test c.args.rows.now ∙ first_locked_at c.args.self.now 0 c.args.rows.now
