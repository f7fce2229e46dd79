-- What the code's texts are to the definitions.
use Rattle.std.specs.Prelude.{List, ℕ, [], ◌++◌, codes}
use Rattle.dconf_model.specs.Profiles.{Kind}
use Rattle.dconf_model.specs.Profiles.Kind.{user_db, system_db, file_db}
use Rattle.dconf_places.specs.Places.{Variables, Giver, Spot}
use Rattle.dconf_places.specs.Places.Giver.{nobody, program, user}
use Rattle.dconf_places.specs.Places.Spot.{in_root, in_current, in_home, nowhere}
use Rattle.dconf_places.specs.declared.location.Environment.{Environment}
use Rattle.dconf_places.specs.declared.location.Given.{Given}
use Rattle.dconf_places.specs.declared.parts.PathParts.{PathParts}
use Rattle.dconf_places.specs.declared.location.Location.{Location}

abbrev pub variables_of : Environment → Variables
variables_of e = record { counted = e.counts; store = e.store.now; config = e.config.now; home = e.home.now; profile = e.profile.now }

abbrev pub giver_of : Given → Giver
giver_of Given.Nobody = nobody
giver_of (Given.Program folder) = program folder.now
giver_of (Given.User folder) = user folder.now

abbrev pub spot_at : Location → Spot
spot_at (Location.Root start end) = in_root (start.now ++ end.now)
spot_at (Location.Current path) = in_current path.now
spot_at (Location.Home path) = in_home path.now
spot_at Location.Nowhere = nowhere

-- a path's parts as one text
abbrev pub text_of : PathParts → List ℕ
text_of p = p.first.now ++ (p.second.now ++ (p.third.now ++ p.fourth.now))

-- what the name of a database's file ends in
abbrev pub end_of : Kind → List ℕ
end_of user_db = codes ".user"
end_of system_db = codes ".db"
end_of file_db = []
