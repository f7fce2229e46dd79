-- What holds of a store that was found.
use Rattle.std.proofs.Common.{◌≡◌, ℕ, List, [], ◌++◌, ◌∙◌, Bool, true, false, refl, inl, inr, ap, arith, codes, length, length-append, Some, None}
use Rattle.std.specs.Prelude.{if◌then◌else◌}
use Rattle.dconf_model.specs.Paths.{starts_with_slash}
use Rattle.dconf_model.specs.Profiles.{Kind, is_name}
use Rattle.dconf_model.specs.Profiles.Kind.{user_db, system_db}
use Rattle.dconf_places.specs.Places.{Variables, Giver}
use Rattle.dconf_places.specs.declared.profile.Found.TheVariants.{There, Missing, Unreadable, Unknown}
use Rattle.dconf_places.proofs.Holding.{IsWhole, begun_by, else_is, folder_is_whole, home_is_whole, users_file_is_in_the_folder}
use Rattle.dconf_homes.specs.Homes.{Home, Surroundings, StoreKind, config_folder, dconfs_folder, file_in, kind_for, spot_by}
use Rattle.dconf_homes.specs.Homes.StoreKind.{own, dconfs, unknown}
use Rattle.dconf_homes.specs.Homes.What.{the_folder}
use Rattle.dconf_homes.specs.declared.sought.Sought.TheVariants.{Ours, Mandatory, Path, Runtime, System, Data}
use Rattle.dconf_homes.specs.HomeLaws.{FilesAreDconfs, FolderIsWhole, GivenIsOurs, NoneIsPassedOverSilently, OthersAreOurs}

pub given_is_ours : GivenIsOurs
given_is_ours s folder = (refl, refl)

-- ---- the folder

config_is_whole : (v : Variables) → IsWhole (config_folder v)
config_is_whole v =
    begun_by (starts_with_slash v.config) v.config (codes "/dconf") _ refl
    (begun_by (starts_with_slash v.home) v.home (codes "/.config/dconf") _ refl (home_is_whole _))

by_kind : (kind : StoreKind) (s : Surroundings) (g : Giver) → IsWhole (spot_by kind the_folder s g)
by_kind own s g base path b f = folder_is_whole s.variables g base path b f
by_kind dconfs s g base path b f = config_is_whole s.variables base path b f
by_kind unknown s g base path b f = absurd (let bad : None ≡ Some path = f in cc)

pub folder_stays_whole : FolderIsWhole
folder_stays_whole s g base path b f = by_kind (kind_for s g) s g base path b f

-- ---- the file of a line

-- a name is never what is longer
no_longer : (name : List ℕ) → name ≡ codes "/" ++ (name ++ codes ".user") → ⊥
no_longer name e =
    let long : length name ≡ length (codes "/" ++ (name ++ codes ".user")) = ap (λ (l : List ℕ). length l) e in
    omega (arith, length-append name (codes ".user"), long)

-- so one of a database in a folder doesn't start as a path
begins_not : (is : Bool) (name other : List ℕ) → (if is then name else other) ≡ codes "/" ++ (name ++ codes ".user") → is ≡ false
begins_not true name other e = absurd (no_longer name e)
begins_not false name other e = refl

name_begins_not : (name : List ℕ) → is_name user_db name ≡ true → starts_with_slash name ≡ false
name_begins_not name e = begins_not (starts_with_slash name) name _ (users_file_is_in_the_folder [] name false e)

then_is : {X : Type 0} (is : Bool) (x y : X) → is ≡ true → (if is then x else y) ≡ x
then_is true x y e = refl
then_is false x y e = absurd (let bad : false ≡ true = e in cc)

named_there : (h : Home) (profile name : List ℕ) (kind : Kind) → h.in_place ≡ true → starts_with_slash name ≡ false →
    file_in h profile (record { kind = kind; name = name }) ≡ dconfs_folder h.folder kind ++ (codes "/" ++ name)
named_there h profile name kind e f = then_is h.in_place _ _ e ∙ else_is (starts_with_slash name) _ _ f

pub files_are_dconfs : FilesAreDconfs
files_are_dconfs h profile name e f =
    let begins : starts_with_slash name ≡ false = name_begins_not name f in
    (named_there h profile name user_db e begins, named_there h profile name system_db e begins)

pub others_are_ours : OthersAreOurs
others_are_ours h profile d e = else_is h.in_place _ _ e

-- ---- the profile

pub none_is_silent : NoneIsPassedOverSilently
none_is_silent h it Missing lenient = inr (inl refl)
none_is_silent h it Unreadable lenient = inr (inr refl)
none_is_silent h it Unknown lenient = inr (inr refl)
none_is_silent h (Ours it) There lenient = inl refl
none_is_silent h Mandatory There lenient = inl refl
none_is_silent h Path There lenient = inl refl
none_is_silent h Runtime There lenient = inl refl
none_is_silent h System There lenient = inl refl
none_is_silent h (Data n) There lenient = inl refl
