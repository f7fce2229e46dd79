use Rattle.std.proofs.Common.{◌++◌, ap, ◌∙◌}
use Rattle.gv_model.specs.Encode.{encode}
use Rattle.gv_build.proofs.build.serialise.Goals as goal

pub returns-clause-bytes : goal.returns-clause-bytes
returns-clause-bytes c = c.in_ok-write_tree.ensures.bytes ∙ ap (λ s. s ++ encode c.args.tree.now) c.in_ok-bytes.ensures.items
