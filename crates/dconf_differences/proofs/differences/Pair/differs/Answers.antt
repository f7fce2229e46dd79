use Rattle.std.proofs.lemmas.Result.{IfOk-weaker}
use Rattle.dconf_path.specs.Paths.{key_text}
use Rattle.dconf_layers.specs.LayerSettings.{seen_in}
use Rattle.dconf_differences.proofs.DifferingLaws.{told_differing}
use Rattle.dconf_differences.proofs.differences.Pair.differs.Goals as goal

pub returns : goal.returns
returns c =
    IfOk-weaker c.differs.result _ _
    (λ is told. told_differing (seen_in c.args.self.first) (seen_in c.args.self.second) (key_text c.args.key) is told) c.differs.ensures
