-- What is known to who finds a store: what the environment says, and the machine's file.
use Rattle.std.specs.Prelude.{[], Bool, true, false, if◌then◌else◌, vec_items}
use Rattle.dconf_places.specs.Places.{Variables}
use Rattle.dconf_homes.specs.Homes.{StoreKind}
use Rattle.dconf_surroundings.specs.declared.surroundings.Surroundings.{Surroundings}

-- in the terms of the rules; no program of ours that has more rights than its user gets a variable
abbrev pub known_to : Surroundings → Rattle.dconf_homes.specs.Homes.Surroundings
known_to s = record {
  variables = record {
    counted = true;
    store = vec_items s.variables.store;
    config = vec_items s.variables.config;
    home = vec_items s.variables.home;
    profile = vec_items s.variables.profile;
  };
  runtime = vec_items s.variables.runtime;
  cache = vec_items s.variables.cache;
  machine = vec_items s.machine.text;
  unreadable = s.machine.is_unreadable;
}

-- of an environment in which no variable is set
abbrev pub no_variables : Variables
no_variables = record { counted = true; store = []; config = []; home = []; profile = [] }

abbrev pub kind_if : Bool → StoreKind
kind_if dconfs = if dconfs then StoreKind.dconfs else StoreKind.own
