-- No place is gone to twice.
use Rattle.std.proofs.Common.{true, false, refl}
use Rattle.dconf_roles.specs.declared.places.Place.TheVariants.{Begins, Directories, Keys, Holders, Paths, KeysThere, Over}
use Rattle.dconf_roles.specs.Places.{EachPlaceComesOnce}

pub each_place_comes_once : EachPlaceComesOnce
each_place_comes_once Begins true found n = refl
each_place_comes_once Begins false found n = refl
each_place_comes_once Directories is_directory found n = refl
each_place_comes_once Keys is_directory true n = refl
each_place_comes_once Keys is_directory false n = refl
each_place_comes_once Holders is_directory true n = refl
each_place_comes_once Holders is_directory false n = refl
each_place_comes_once Paths is_directory true n = refl
each_place_comes_once Paths is_directory false n = refl
each_place_comes_once KeysThere is_directory found n = refl
each_place_comes_once Over is_directory found n = absurd (n refl)
