-- Whether a file is to be made for a change.
use Rattle.std.specs.Prelude.{◌≡◌, ℕ, ◌==◌, List, Bool, true, false, Some, slice_get, if◌then◌else◌}
use Rattle.std.specs.List.{list_any}
use Rattle.dconf_model.specs.Settings.{no_settings}
use Rattle.dconfdb_calls.specs.declared.changes.DconfdbChange.{DconfdbChange}
use Rattle.dconf_made.specs.Made.{Has}
use Rattle.dconf_made.specs.declared.need.Need.{Need}
use Rattle.dconf_made.specs.declared.need.Need.TheVariants.{File, Nothing, Look}
use Rattle.dconf_made.specs.declared.need.Users.{Users}
use Rattle.dconf_made.specs.declared.need.Users.TheVariants.{There, Missing, Unreadable, Unknown, Nowhere}

-- by whether anything is set
abbrev pub need_of : Users → Bool → Need
need_of Nowhere sets = Nothing
need_of There sets = File
need_of Unreadable sets = File
need_of Missing sets = if sets then File else Nothing
need_of Unknown sets = if sets then File else Look

abbrev pub need_number : Need → ℕ
need_number File = 0
need_number Nothing = 1
need_number Look = 2

abbrev pub users_of : ℕ → Users
users_of n = if n == 0 then There else if n == 1 then Missing else if n == 2 then Unreadable else if n == 3 then Unknown else Nowhere

-- law: where there is a user's database and none is made, one that is missing has what each edit asks for
abbrev pub NothingIsLost : Type 0
NothingIsLost =
    (users : Users) (changes : List DconfdbChange) → need_of users (list_any (λ c. c.sets) changes) ≡ Nothing → (users ≡ Nowhere → ⊥) →
    (users ≡ Missing) × ((i : ℕ) (c : DconfdbChange) → slice_get changes i ≡ Some c → Has no_settings c)
