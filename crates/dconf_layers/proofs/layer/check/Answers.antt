use Rattle.std.proofs.Common.{rules}
use Rattle.std.proofs.Math.Logic.{∥∥₁_map}
use Rattle.dconf_layers.proofs.layer.check.Goals as goal

pub returns-then-is_shaped_as-clause-sound : goal.returns-then-is_shaped_as-clause-sound
returns-then-is_shaped_as-clause-sound c = c.is_shaped_as.ensures (search rules) (∥∥₁_map c.in-Some.like.sound (λ o. o.sound))
