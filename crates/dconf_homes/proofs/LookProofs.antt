-- What holds of the profiles that are listed, and of what isn't asked.
use Rattle.std.proofs.Common.{◌≡◌, ℕ, List, Bool, true, false, refl}
use Rattle.std.specs.Prelude.{not, ◌&&◌, ◌||◌, if◌then◌else◌}
use Rattle.dconf_places.specs.Places.{Giver, is_empty}
use Rattle.dconf_places.specs.Places.Giver.{nobody, program, user}
use Rattle.dconf_places.specs.declared.profile.Candidate.TheVariants.{Named, Own, Everyones}
use Rattle.dconf_places.specs.declared.profile.Found.TheVariants.{There, Missing, Unreadable, Unknown}
use Rattle.dconf_homes.specs.Homes.{StoreKind, Surroundings, What, kind_for, minds_machine, spot_in}
use Rattle.dconf_homes.specs.Homes.StoreKind.{own}
use Rattle.dconf_homes.specs.Homes.What.{the_folder, the_profile, the_runtime}
use Rattle.dconf_homes.specs.HomeLaws.{AllAreListed, WhatIsNotAsked}
use Rattle.dconf_homes.specs.Sought.{behind, has_name, if_none}
use Rattle.dconf_homes.specs.declared.sought.Sought.{Sought}
use Rattle.dconf_homes.specs.declared.sought.Sought.TheVariants.{Ours, Mandatory, Path, Runtime, System, Data}
use Rattle.dconf_homes.specs.declared.sought.SoughtStep.{SoughtStep}
use Rattle.dconf_homes.specs.declared.sought.SoughtStep.TheVariants.{Look, Counts, UsersAlone, NoDatabase, Refused}

-- a look stays one whoever is lenient
looks_on : (step : SoughtStep) (next : Sought) (lenient : Bool) → if_none step lenient ≡ Look next → if_none step true ≡ Look next
looks_on (Look it) next lenient e = e
looks_on Counts next lenient e = e
looks_on UsersAlone next lenient e = e
looks_on Refused next lenient e = e
looks_on NoDatabase next true e = e
looks_on NoDatabase next false e = absurd (let bad : Refused ≡ Look next = e in cc)

last_is_none : (named : Bool) (next : Sought) {X : Type 0} → (if named then NoDatabase else UsersAlone) ≡ Look next → X
last_is_none true next e = absurd (let bad : NoDatabase ≡ Look next = e in cc)
last_is_none false next e = absurd (let bad : UsersAlone ≡ Look next = e in cc)

counts_not : (next : Sought) {X : Type 0} → Counts ≡ Look next → X
counts_not next e = absurd (let bad : Counts ≡ Look next = e in cc)

refused_not : (next : Sought) {X : Type 0} → Refused ≡ Look next → X
refused_not next e = absurd (let bad : Refused ≡ Look next = e in cc)

none_not : (next : Sought) {X : Type 0} → NoDatabase ≡ Look next → X
none_not next e = absurd (let bad : NoDatabase ≡ Look next = e in cc)

users_not : (next : Sought) {X : Type 0} → UsersAlone ≡ Look next → X
users_not next e = absurd (let bad : UsersAlone ≡ Look next = e in cc)

pub all_are_listed : AllAreListed
all_are_listed h (Ours it) next There lenient e = counts_not next e
all_are_listed h (Ours it) next Unknown lenient e = refused_not next e
all_are_listed h (Ours Named) next Missing true e = none_not next e
all_are_listed h (Ours Named) next Missing false e = refused_not next e
all_are_listed h (Ours Own) next Missing lenient e = e
all_are_listed h (Ours Everyones) next Missing lenient e = users_not next e
all_are_listed h (Ours it) next Unreadable false e = refused_not next e
all_are_listed h (Ours Named) next Unreadable true e = none_not next e
all_are_listed h (Ours Own) next Unreadable true e = e
all_are_listed h (Ours Everyones) next Unreadable true e = users_not next e
all_are_listed h Mandatory next There lenient e = counts_not next e
all_are_listed h Mandatory next Missing lenient e = e
all_are_listed h Mandatory next Unreadable true e = e
all_are_listed h Mandatory next Unreadable false e = refused_not next e
all_are_listed h Mandatory next Unknown lenient e = refused_not next e
all_are_listed h Path next There lenient e = counts_not next e
all_are_listed h Path next Missing lenient e = looks_on NoDatabase next lenient e
all_are_listed h Path next Unreadable true e = none_not next e
all_are_listed h Path next Unreadable false e = refused_not next e
all_are_listed h Path next Unknown lenient e = refused_not next e
all_are_listed h Runtime next There lenient e = counts_not next e
all_are_listed h Runtime next Missing lenient e = e
all_are_listed h Runtime next Unreadable true e = e
all_are_listed h Runtime next Unreadable false e = refused_not next e
all_are_listed h Runtime next Unknown lenient e = refused_not next e
all_are_listed h System next There lenient e = counts_not next e
all_are_listed h System next Missing lenient e = e
all_are_listed h System next Unreadable true e = last_is_none (has_name h) next e
all_are_listed h System next Unreadable false e = refused_not next e
all_are_listed h System next Unknown lenient e = refused_not next e
all_are_listed h (Data n) next There lenient e = counts_not next e
all_are_listed h (Data n) next Missing lenient e = looks_on (behind h (Data n)) next lenient e
all_are_listed h (Data n) next Unreadable true e = last_is_none (has_name h) next e
all_are_listed h (Data n) next Unreadable false e = refused_not next e
all_are_listed h (Data n) next Unknown lenient e = refused_not next e

-- ---- what isn't asked

environment_is_not : (s other : Surroundings) (what : What) (folder : List ℕ) → spot_in what s (program folder) ≡ spot_in what other (program folder)
environment_is_not s other the_folder folder = refl
environment_is_not s other the_profile folder = refl
environment_is_not s other the_runtime folder = refl

own_either_way : (counted empty : Bool) (one other : StoreKind) → (counted && empty) ≡ false →
    (if not counted || not empty then own else one) ≡ (if not counted || not empty then own else other)
own_either_way true true one other e = absurd (let bad : true ≡ false = e in cc)
own_either_way true false one other e = refl
own_either_way false empty one other e = refl

machine_is_not : (s : Surroundings) (g : Giver) (text : List ℕ) (unreadable : Bool) → minds_machine s g ≡ false →
    kind_for s g ≡ kind_for (record { variables = s.variables; runtime = s.runtime; cache = s.cache; machine = text; unreadable = unreadable }) g
machine_is_not s nobody text unreadable e = own_either_way s.variables.counted (is_empty s.variables.store) _ _ e
machine_is_not s (program folder) text unreadable e = refl
machine_is_not s (user folder) text unreadable e = refl

pub what_is_not_asked : WhatIsNotAsked
what_is_not_asked = record { environment = environment_is_not; machine = machine_is_not }
