-- Worked first parts.
use Rattle.std.proofs.Common.{◌≡◌, refl}
use Rattle.std.specs.Prelude.{codes}
use Rattle.dconf_model.specs.Paths.{first_part}

of_a_key : first_part (codes "k") ≡ codes "k"
of_a_key = refl

of_a_key_below : first_part (codes "a/b/k") ≡ codes "a/"
of_a_key_below = refl

of_a_directory : first_part (codes "a/") ≡ codes "a/"
of_a_directory = refl
