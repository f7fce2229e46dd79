-- A command and the library read one file for a line.
use Rattle.std.proofs.Common.{◌≡◌, ◌≢◌, ℕ, Bool, true, false, List, [], ◌∷◌, ◌++◌, refl, sym, ◌∙◌, ap, codes}
use Rattle.std.specs.Prelude.{if◌then◌else◌, ◌==◌, ◌&&◌, ◌||◌, eqb}
use Rattle.std.proofs.lemmas.Bool.{eq-eqb, eqb-true}
use Rattle.std.proofs.lemmas.List.Folds.{list_any-append}
use Rattle.dconf_model.specs.Paths.{starts_with_slash}
use Rattle.dconf_model.specs.Profiles.{Database, Kind, is_user}
use Rattle.dconf_model.specs.Profiles.Kind.{user_db, system_db, file_db}
use Rattle.dconf_model.proofs.ParentLaws.{by_bool}
use Rattle.dconf_model.proofs.SameBytes.{other_path}
use Rattle.dconf_places.specs.Places.{has_slash}
use Rattle.dconf_places.proofs.Holding.{else_is}
use Rattle.dconf_homes.specs.Homes.{Home, dconfs_path, file_in}
use Rattle.dconf_found.specs.Renamed.{held_name, swapped, users_names}
use Rattle.dconf_found.specs.DconfsLines.{OneFileForALine, file_read, path_in, shown_name, without_dot}
use Rattle.dconf_found.proofs.RenamedLaws.{is_neither, users_is_held}

then_is : {X : Type 0} (is : Bool) (x y : X) → is ≡ true → (if is then x else y) ≡ x
then_is true x y e = refl
then_is false x y e = absurd (let bad : false ≡ true = e in cc)

-- ---- slashes

begun_so : (is : Bool) (c : ℕ) → eqb 47 c ≡ is → (is && true) ≡ true → c ≡ 47
begun_so true c e f = sym (eqb-true 47 c e)
begun_so false c e f = absurd (let bad : false ≡ true = f in cc)

slash_in : (name : List ℕ) → starts_with_slash name ≡ true → has_slash name ≡ true
slash_in [] e = absurd (let bad : false ≡ true = e in cc)
slash_in (c ∷ name) e = ap (λ (b : Bool). b || has_slash name) (eq-eqb c 47 (begun_so (eqb 47 c) c refl e))

none_at_start : (name : List ℕ) → has_slash name ≡ false → starts_with_slash name ≡ false
none_at_start name e =
    by_bool (starts_with_slash name) (starts_with_slash name ≡ false)
    (λ f. absurd (let bad : true ≡ false = sym (slash_in name f) ∙ e in cc)) (λ f. f)

none_second : (one two more : Bool) → (one || (two || more)) ≡ false → two ≡ false
none_second true two more e = absurd (let bad : true ≡ false = e in cc)
none_second false true more e = absurd (let bad : true ≡ false = e in cc)
none_second false false more e = refl

not_both : (one two : Bool) → two ≡ false → (one && two) ≡ false
not_both true two e = e
not_both false two e = refl

no_dot : (name : List ℕ) → has_slash name ≡ false → without_dot name ≡ name
no_dot [] e = refl
no_dot (c ∷ []) e = refl
no_dot (c ∷ d ∷ name) e =
    else_is (c == 46 && d == 47) _ _ (not_both (c == 46) (d == 47) (none_second (c == 47) (d == 47) (has_slash name) e))

with_end : (user end : List ℕ) → has_slash user ≡ false → has_slash end ≡ false → has_slash (user ++ end) ≡ false
with_end user end e f = list_any-append (λ (c : ℕ). c == 47) user end ∙ (ap (λ (b : Bool). b || has_slash end) e ∙ f)

differ : (p q : List ℕ) → has_slash p ≡ true → has_slash q ≡ false → p ≢ q
differ p q e f same = let bad : true ≡ false = sym e ∙ (ap (λ (l : List ℕ). has_slash l) same ∙ f) in cc

-- ---- the names of files

-- one that has a slash is no name of the user's database
untouched : (user name : List ℕ) → has_slash user ≡ false → has_slash name ≡ true → held_name (users_names user) name ≡ name
untouched user name e f =
    let n = users_names user in
    let shown : has_slash n.shown ≡ false = with_end user (codes ".user") e refl in
    ap (swapped n.shown_new n.held_new)
    (is_neither n.shown n.held name (other_path name n.shown (differ name n.shown f shown)) (other_path name n.held (differ name n.held f e)))
    ∙ is_neither n.shown_new n.held_new name
    (other_path name n.shown_new (differ name n.shown_new f (with_end n.shown (codes ".new") shown refl)))
    (other_path name n.held_new (differ name n.held_new f (with_end user (codes ".new") e refl)))

-- ---- each line

users_file : (h : Home) (profile user : List ℕ) → h.in_place ≡ true → has_slash user ≡ false →
    file_read h user (record { kind = user_db; name = user }) ≡ file_in h profile (record { kind = user_db; name = user })
users_file h profile user e f =
    let start : starts_with_slash user ≡ false = none_at_start user f in
    ap (path_in h.folder) (users_is_held user)
    ∙ (else_is (starts_with_slash user) _ _ start
    ∙ (ap (λ (l : List ℕ). h.folder ++ (codes "/" ++ l)) (no_dot user f)
    ∙ sym (then_is h.in_place _ _ e ∙ else_is (starts_with_slash user) _ _ start)))

-- where a whole path is shown
whole_file : (h : Home) (profile user : List ℕ) (d : Database) → h.in_place ≡ true → has_slash user ≡ false →
    starts_with_slash (file_in h [] d) ≡ true → path_in h.folder (held_name (users_names user) (file_in h [] d)) ≡ file_in h profile d
whole_file h profile user d e f whole =
    ap (path_in h.folder) (untouched user (file_in h [] d) f (slash_in (file_in h [] d) whole))
    ∙ (then_is (starts_with_slash (file_in h [] d)) _ _ whole ∙ (then_is h.in_place _ _ e ∙ sym (then_is h.in_place _ _ e)))

either_whole : (is : Bool) (name other : List ℕ) → starts_with_slash name ≡ is → starts_with_slash other ≡ true → starts_with_slash (if is then name else other) ≡ true
either_whole true name other e f = e
either_whole false name other e f = f

systems_whole : (h : Home) (name : List ℕ) → h.in_place ≡ true → starts_with_slash (file_in h [] (record { kind = system_db; name = name })) ≡ true
systems_whole h name e =
    ap (λ (l : List ℕ). starts_with_slash l) (then_is h.in_place _ _ e)
    ∙ either_whole (starts_with_slash name) name (codes "/etc/dconf/db" ++ (codes "/" ++ name)) refl refl

files_whole : (h : Home) (name : List ℕ) → h.in_place ≡ true → starts_with_slash name ≡ true →
    starts_with_slash (file_in h [] (record { kind = file_db; name = name })) ≡ true
files_whole h name e whole = ap (λ (l : List ℕ). starts_with_slash l) (then_is h.in_place _ _ e ∙ then_is (starts_with_slash name) _ _ whole) ∙ whole

file_by : (h : Home) (profile user name : List ℕ) → h.in_place ≡ true → has_slash user ≡ false → (is : Bool) → starts_with_slash name ≡ is →
    path_in h.folder (held_name (users_names user) (shown_name h file_db name)) ≡ file_in h profile (record { kind = file_db; name = name })
file_by h profile user name e f true whole =
    ap (λ (l : List ℕ). path_in h.folder (held_name (users_names user) l)) (then_is (starts_with_slash name) _ _ whole)
    ∙ whole_file h profile user (record { kind = file_db; name = name }) e f (files_whole h name e whole)
file_by h profile user name e f false whole =
    ap (λ (l : List ℕ). path_in h.folder (held_name (users_names user) l)) (else_is (starts_with_slash name) _ _ whole)
    ∙ (ap (path_in h.folder) (untouched user (codes "./" ++ name) f refl)
    ∙ sym (then_is h.in_place _ _ e ∙ else_is (starts_with_slash name) _ _ whole))

others_file : (h : Home) (profile user : List ℕ) → h.in_place ≡ true → has_slash user ≡ false → (kind : Kind) (name : List ℕ) → is_user kind ≡ false →
    file_read h user (record { kind = kind; name = name }) ≡ file_in h profile (record { kind = kind; name = name })
others_file h profile user e f user_db name other = absurd (let bad : true ≡ false = other in cc)
others_file h profile user e f system_db name other = whole_file h profile user (record { kind = system_db; name = name }) e f (systems_whole h name e)
others_file h profile user e f file_db name other = file_by h profile user name e f (starts_with_slash name) refl

pub one_file : OneFileForALine
one_file h profile user e f = (users_file h profile user e f, λ d other. others_file h profile user e f d.kind d.name other)
