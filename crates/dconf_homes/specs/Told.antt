-- What the code's texts are to the definitions.
use Rattle.dconf_places.specs.Told.{variables_of}
use Rattle.dconf_homes.specs.Homes.{counted, Home, StoreKind, Surroundings, What}
use Rattle.dconf_homes.specs.declared.homes.Around.{Around}
use Rattle.dconf_homes.specs.declared.homes.FoundKind.{FoundKind}
use Rattle.dconf_homes.specs.declared.homes.Wanted.{Wanted}
use Rattle.dconf_homes.specs.declared.homes.Place.{Place}

abbrev pub surroundings_of : Around → Surroundings
surroundings_of a =
    record { variables = variables_of a.environment; runtime = a.runtime.now; cache = a.cache.now; machine = a.machine.now; unreadable = a.is_unreadable }

abbrev pub store_kind_of : FoundKind → StoreKind
store_kind_of FoundKind.Own = StoreKind.own
store_kind_of FoundKind.Dconfs = StoreKind.dconfs
store_kind_of FoundKind.Unknown = StoreKind.unknown

abbrev pub what_of : Wanted → What
what_of Wanted.Folder = What.the_folder
what_of Wanted.Profile = What.the_profile
what_of Wanted.Runtime = What.the_runtime

abbrev pub home_of : Place → Home
home_of p =
    record {
      folder = p.folder.now;
      named = p.named.now;
      profile = counted p.counts p.profile.now;
      runtime = p.runtime.now;
      data_dirs = counted p.counts p.data_dirs.now;
      user = p.user.now;
      given = p.is_given;
      in_place = p.is_dconfs;
    }
