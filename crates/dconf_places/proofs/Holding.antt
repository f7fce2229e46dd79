-- What holds of places and profiles.
use Rattle.std.proofs.Common.{◌≡◌, ℕ, List, [], ◌∷◌, ◌++◌, ◌∙◌, Bool, true, false, not, refl, inl, inr, subst, sym, Some, None}
use Rattle.std.specs.Prelude.{codes, length, nat_lt, if◌then◌else◌, eqb, ◌&&◌, ◌||◌, ◌==◌}
use Rattle.std.proofs.lemmas.Bool.{eq-eqb, eqb-true}
use Rattle.dconf_model.specs.Paths.{has_zero_byte, starts_with_slash}
use Rattle.dconf_places.specs.Places.{Variables, Giver, Spot, default_folder, folder_of, spot_of, path_at, has_slash, is_empty}
use Rattle.dconf_places.specs.Places.Giver.{nobody, program, user}
use Rattle.dconf_places.specs.Places.Spot.{in_root, in_current, in_home, nowhere}
use Rattle.dconf_places.specs.PlaceLaws.{NoVariableCounts, FolderIsWhole, NamedIsNeverPassedOver, NoneIsPassedOverSilently, UsersFileIsInTheFolder, SitesFileIsNoUsers}
use Rattle.dconf_places.specs.declared.profile.Found.TheVariants.{There, Missing, Unreadable, Unknown}

-- ---- the folder

-- what is chosen where nothing counts
uncounted : {X : Type 0} (is : Bool) (x y : X) → is ≡ false → (if not is then x else y) ≡ x
uncounted true x y e = absurd (let bad : true ≡ false = e in cc)
uncounted false x y e = refl

unasked : {X : Type 0} (is other : Bool) (x y : X) → is ≡ false → (if not is || other then x else y) ≡ x
unasked true other x y e = absurd (let bad : true ≡ false = e in cc)
unasked false other x y e = refl

pub no_variable_counts : NoVariableCounts
no_variable_counts v w nobody e f = (uncounted v.counted _ _ e ∙ sym (uncounted w.counted _ _ f), unasked v.counted _ _ _ e ∙ sym (unasked w.counted _ _ _ f))
no_variable_counts v w (program folder) e f = (refl, refl)
no_variable_counts v w (user folder) e f = (refl, unasked v.counted _ _ _ e ∙ sym (unasked w.counted _ _ _ f))

-- a spot whose path is whole, if its base is
abbrev pub IsWhole : Spot → Type 0
IsWhole spot = (base path : List ℕ) → starts_with_slash base ≡ true → path_at spot base ≡ Some path → starts_with_slash path ≡ true

pub slash_stays : (x y : List ℕ) → starts_with_slash x ≡ true → starts_with_slash (x ++ y) ≡ true
slash_stays [] y e = absurd (let bad : false ≡ true = e in cc)
slash_stays (c ∷ x) y e = e

-- what begins as a whole path does is one
whole_by : (begun path : List ℕ) → starts_with_slash begun ≡ true → Some begun ≡ Some path → starts_with_slash path ≡ true
whole_by begun path e f = let same : begun ≡ path = cc in subst (λ x. starts_with_slash x ≡ true) same e

pub root_is_whole : (path : List ℕ) → starts_with_slash path ≡ true → IsWhole (in_root path)
root_is_whole path e base found b f = whole_by path found e f

current_is_whole : (path : List ℕ) → IsWhole (in_current path)
current_is_whole path base found b f = whole_by (base ++ (codes "/" ++ path)) found (slash_stays base _ b) f

if_some : (is : Bool) (text path : List ℕ) → is ≡ true → (if is then Some text else None) ≡ Some path → Some text ≡ Some path
if_some true text path e f = f
if_some false text path e f = absurd (let bad : false ≡ true = e in cc)

pub home_is_whole : (path : List ℕ) → IsWhole (in_home path)
home_is_whole path base found b f = whole_by (base ++ (codes "/" ++ path)) found (slash_stays base _ b) (if_some (starts_with_slash base) _ found b f)

nowhere_is_whole : IsWhole nowhere
nowhere_is_whole base found b f = absurd (let bad : None ≡ Some found = f in cc)

spot_by : (is : Bool) (path : List ℕ) → starts_with_slash path ≡ is → IsWhole (if is then in_root path else in_current path)
spot_by true path e = root_is_whole path e
spot_by false path e = current_is_whole path

spot_is_whole : (path : List ℕ) → IsWhole (spot_of path)
spot_is_whole path = spot_by (starts_with_slash path) path refl

-- one that is made of a variable, or else another one
pub begun_by : (is : Bool) (variable end : List ℕ) (other : Spot) → starts_with_slash variable ≡ is → IsWhole other → IsWhole (if is then in_root (variable ++ end) else other)
begun_by true variable end other e w = root_is_whole (variable ++ end) (slash_stays variable end e)
begun_by false variable end other e w = w

either : (is : Bool) (one other : Spot) → IsWhole one → IsWhole other → IsWhole (if is then one else other)
either true one other w x = w
either false one other w x = x

default_is_whole : (v : Variables) → IsWhole (default_folder v)
default_is_whole v =
    either (not v.counted) _ _ nowhere_is_whole
    (either (not (is_empty v.store)) _ _ (spot_is_whole v.store)
    (begun_by (starts_with_slash v.config) v.config (codes "/dconfdb") _ refl
    (begun_by (starts_with_slash v.home) v.home (codes "/.config/dconfdb") _ refl (home_is_whole _))))

whole_folder : (v : Variables) (g : Giver) → IsWhole (folder_of v g)
whole_folder v nobody = default_is_whole v
whole_folder v (program folder) = spot_is_whole folder
whole_folder v (user folder) = spot_is_whole folder

pub folder_is_whole : FolderIsWhole
folder_is_whole v g base path b f = whole_folder v g base path b f

-- ---- the profile

pub named_is_never_passed_over : NamedIsNeverPassedOver
named_is_never_passed_over There lenient = record { no_other = λ other e. cc; not_none = λ e. cc }
named_is_never_passed_over Missing true = record { no_other = λ other e. cc; not_none = λ e. cc }
named_is_never_passed_over Missing false = record { no_other = λ other e. cc; not_none = λ e. cc }
named_is_never_passed_over Unreadable true = record { no_other = λ other e. cc; not_none = λ e. cc }
named_is_never_passed_over Unreadable false = record { no_other = λ other e. cc; not_none = λ e. cc }
named_is_never_passed_over Unknown lenient = record { no_other = λ other e. cc; not_none = λ e. cc }

pub none_is_passed_over_silently : NoneIsPassedOverSilently
none_is_passed_over_silently it There lenient = inl refl
none_is_passed_over_silently it Missing lenient = inr (inl refl)
none_is_passed_over_silently it Unreadable lenient = inr (inr refl)
none_is_passed_over_silently it Unknown lenient = inr (inr refl)

-- ---- the file of a line

-- the last of what is asked of a name
last_of : (one two three : Bool) → (one && two && three) ≡ true → three ≡ true
last_of true true three e = e
last_of true false three e = absurd (let bad : false ≡ true = e in cc)
last_of false two three e = absurd (let bad : false ≡ true = e in cc)

no_slash : (name : List ℕ) → (nat_lt 0 (length name) && not (has_zero_byte name) && not (has_slash name)) ≡ true → not (has_slash name) ≡ true
no_slash name e = last_of (nat_lt 0 (length name)) (not (has_zero_byte name)) (not (has_slash name)) e

either_way : (is : Bool) (c : ℕ) → (c == 47) ≡ false → eqb 47 c ≡ is → is ≡ false
either_way true c e f = absurd (let same : 47 ≡ c = eqb-true 47 c f in let yes : (c == 47) ≡ true = eq-eqb c 47 (sym same) in let bad : true ≡ false = sym yes ∙ e in cc)
either_way false c e f = refl

none_first : (is more : Bool) → not (is || more) ≡ true → is ≡ false
none_first true more e = absurd (let bad : false ≡ true = e in cc)
none_first false more e = refl

and_true : (is : Bool) → is ≡ false → (is && true) ≡ false
and_true true e = e
and_true false e = refl

-- a text with no slash at all has none at its start
no_start : (name : List ℕ) → not (has_slash name) ≡ true → starts_with_slash name ≡ false
no_start [] e = refl
no_start (c ∷ name) e = and_true (eqb 47 c) (either_way (eqb 47 c) c (none_first (c == 47) (has_slash name) e) refl)

pub else_is : {X : Type 0} (is : Bool) (x y : X) → is ≡ false → (if is then x else y) ≡ y
else_is true x y e = absurd (let bad : true ≡ false = e in cc)
else_is false x y e = refl

pub users_file_is_in_the_folder : UsersFileIsInTheFolder
users_file_is_in_the_folder folder name beside e = else_is (starts_with_slash name) _ _ (no_start name (no_slash name e))

pub sites_file_is_no_users : SitesFileIsNoUsers
sites_file_is_no_users folder name e = else_is (starts_with_slash name) _ _ (no_start name (no_slash name e))
