-- What is kept at paths, and tests of lists of paths.
use Rattle.std.specs.Prelude.{◌≡◌, ℕ, List, [], ◌∷◌, Bool, true, false, Some, None, cond, refl, ◌||◌, ◌&&◌}
use Rattle.std.proofs.Common.{ap, sym, ◌∙◌}
use Rattle.std.specs.List.{list_any}
use Rattle.std.specs.Str.{bytes_eq}
use Rattle.std.specs.Cmp.Lexicographic.{slice_cmp, nat_list_cmp_total}
use Rattle.std.specs.Ordering.{nat_cmp, eq_by_cmp}
use Rattle.std.specs.FinMap.{get, insert, remove, retain_keys, keys, contains_key, get-insert, get-remove, get-retain_keys, contains_key-keys, slice_cmp-IsAntisymmetric, nat_cmp-IsAntisymmetric}
use Rattle.std.proofs.lemmas.Bool.{or_left, or_right}
use Rattle.std.proofs.lemmas.Map.Text.{is_eq-slice_cmp}
use Rattle.dconf_model.specs.Settings.{AtPaths}
use Rattle.dconf_model.proofs.ParentLaws.{by_bool}
use Rattle.dconf_model.proofs.SameBytes.{same_path, path_itself}

pub same_bool : (a b : Bool) → (a ≡ true → b ≡ true) → (b ≡ true → a ≡ true) → a ≡ b
same_bool true b f g = sym (f refl)
same_bool false true f g = g refl
same_bool false false f g = refl

pub eq_turned : (p q : List ℕ) → bytes_eq p q ≡ bytes_eq q p
eq_turned p q = same_bool (bytes_eq p q) (bytes_eq q p)
    (λ e. path_itself q p (sym (same_path p q e))) (λ e. path_itself p q (sym (same_path q p e)))

-- ---- maps

pub get_inserted : {X : Type 0} (m : AtPaths X) (p : List ℕ) (x : X) (q : List ℕ) → get (insert m p x) q ≡ cond (bytes_eq p q) (Some x) (get m q)
get_inserted m p x q =
    get-insert nat_list_cmp_total m p x q ∙ ap (λ b. cond b (Some x) (get m q)) (is_eq-slice_cmp q p ∙ eq_turned q p)

pub get_removed : {X : Type 0} (m : AtPaths X) (p q : List ℕ) → get (remove m p) q ≡ cond (bytes_eq p q) None (get m q)
get_removed m p q = get-remove nat_list_cmp_total m p q ∙ ap (λ b. cond b None (get m q)) (is_eq-slice_cmp q p ∙ eq_turned q p)

pub get_retained : {X : Type 0} (m : AtPaths X) (f : List ℕ → Bool) (q : List ℕ) → get (retain_keys m f) q ≡ cond (f q) (get m q) None
get_retained m f q = get-retain_keys m f q (λ x e. ap f (sym (slice_cmp-IsAntisymmetric nat_cmp-IsAntisymmetric q x e)))

pub key_in : {X : Type 0} (m : AtPaths X) (q : List ℕ) → contains_key m q ≡ list_any (bytes_eq q) (keys m)
key_in m q = contains_key-keys m q ∙ go (keys m)
  where
    go : (ks : List (List ℕ)) → list_any (eq_by_cmp (slice_cmp nat_cmp) q) ks ≡ list_any (bytes_eq q) ks
    go [] = refl
    go (k ∷ ks) = ap (λ b. b || list_any (eq_by_cmp (slice_cmp nat_cmp) q) ks) (is_eq-slice_cmp q k) ∙ ap (λ b. bytes_eq q k || b) (go ks)

-- ---- tests of lists of paths

pub no_truth : false ≡ true → ⊥
no_truth e = cc

-- a path of the list that passes
pub passes : (f : List ℕ → Bool) (ps : List (List ℕ)) → list_any f ps ≡ true → (p : List ℕ) × (list_any (bytes_eq p) ps ≡ true) × (f p ≡ true)
passes f [] e = absurd (no_truth e)
passes f (p ∷ ps) e =
    by_bool (f p) ((q : List ℕ) × (list_any (bytes_eq q) (p ∷ ps) ≡ true) × (f q ≡ true))
    (λ same. (p, or_left (bytes_eq p p) (list_any (bytes_eq p) ps) (path_itself p p refl), same))
    (λ same.
    let r = passes f ps (sym (ap (λ b. b || list_any f ps) same) ∙ e) in
    (r.0, or_right (bytes_eq r.0 p) (list_any (bytes_eq r.0) ps) r.1, r.2))

pub any_passes : (f : List ℕ → Bool) (ps : List (List ℕ)) (p : List ℕ) → list_any (bytes_eq p) ps ≡ true → f p ≡ true → list_any f ps ≡ true
any_passes f [] p there e = absurd (no_truth there)
any_passes f (q ∷ ps) p there e =
    by_bool (bytes_eq p q) (list_any f (q ∷ ps) ≡ true)
    (λ same. or_left (f q) (list_any f ps) (sym (ap f (same_path p q same)) ∙ e))
    (λ other. or_right (f q) (list_any f ps) (any_passes f ps p (sym (ap (λ b. b || list_any (bytes_eq p) ps) other) ∙ there) e))

-- lists of the same paths pass the same tests
pub same_test : (f : List ℕ → Bool) (ps qs : List (List ℕ)) → ((p : List ℕ) → list_any (bytes_eq p) ps ≡ list_any (bytes_eq p) qs) → list_any f ps ≡ list_any f qs
same_test f ps qs same = same_bool (list_any f ps) (list_any f qs)
    (λ e. let r = passes f ps e in any_passes f qs r.0 (sym (same r.0) ∙ r.1) r.2)
    (λ e. let r = passes f qs e in any_passes f ps r.0 (same r.0 ∙ r.1) r.2)

-- ---- tests joined

pub or_swap : (a b c : Bool) → (b || (a || c)) ≡ ((a || b) || c)
or_swap true true c = refl
or_swap true false c = refl
or_swap false b c = refl

pub and_false : (a b : Bool) → b ≡ false → (a && b) ≡ false
and_false true b e = e
and_false false b e = refl
