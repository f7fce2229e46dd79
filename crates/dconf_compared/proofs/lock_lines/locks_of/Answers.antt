use Rattle.std.proofs.Common.{refl}
use Rattle.dconf_model.specs.Paths.{has_two_slashes}
use Rattle.dconf_compared.proofs.lock_lines.locks_of.Goals as goal

pub unwrap-requires : goal.unwrap-requires
unfolding has_two_slashes
unwrap-requires c = c.parse.ensures.accepts.1 refl
