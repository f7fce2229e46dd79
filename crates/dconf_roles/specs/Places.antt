-- Where the name is looked for that is the nearest to one that is missing, one place after the other. docs/MANUAL.md, "lint [FILE]..".
use Rattle.std.specs.Prelude.{ℕ, ◌≡◌, ◌≢◌, Bool, true, false, not, if◌then◌else◌, ◌==◌, nat_lt}
use Rattle.dconf_roles.specs.declared.nearness.Nearing.{Nearing}
use Rattle.dconf_roles.specs.declared.places.Place.{Place}
use Rattle.dconf_roles.specs.declared.places.Place.TheVariants.{Begins, Directories, Keys, Holders, Paths, KeysThere, Over}

-- A directory among all of them. A key among those of its directory; then that among those that have a key of its name; and then, as neither is
-- known, among all, and the key among those of what was found.
abbrev pub place_after : Place → Bool → Bool → Place
place_after Begins is_directory found = if is_directory then Directories else Keys
place_after Directories is_directory found = Over
place_after Keys is_directory found = if found then Over else Holders
place_after Holders is_directory found = if found then Over else Paths
place_after Paths is_directory found = if found then KeysThere else Over
place_after KeysThere is_directory found = Over
place_after Over is_directory found = Over

-- a key of just that name is there: so half of the letters of its directory may be otherwise
abbrev pub takes_half : Place → Bool
takes_half Holders = true
takes_half place = false

abbrev pub place_number : Place → ℕ
place_number Begins = 0
place_number Directories = 1
place_number Keys = 2
place_number Holders = 3
place_number Paths = 4
place_number KeysThere = 5
place_number Over = 6

abbrev pub place_of : ℕ → Place
place_of n = if n == 0 then Begins else if n == 1 then Directories else if n == 2 then Keys else if n == 3 then Holders else if n == 4 then Paths else
    if n == 5 then KeysThere else Over

abbrev pub moved : Nearing → Place → Nearing
moved n place = record n { found = 0; place = place_number place; is_half = takes_half place }

abbrev pub next_place : Nearing → Nearing
next_place n = moved n (place_after (place_of n.place) n.is_directory (not (n.found == 0)))

abbrev pub is_over : Nearing → Bool
is_over n = n.place == 6

-- ---- the law: no place is gone to twice

abbrev pub EachPlaceComesOnce : Type 0
EachPlaceComesOnce = (place : Place) (is_directory found : Bool) → place ≢ Over → nat_lt (place_number place) (place_number (place_after place is_directory found)) ≡ true
