-- Whether two texts have the same bytes, by the test of it. For the crates above, too.
use Rattle.std.specs.Prelude.{◌≡◌, ◌≢◌, ◌⊎◌, ℕ, List, true, false, refl}
use Rattle.std.proofs.Common.{inl, inr}
use Rattle.std.specs.Str.{bytes_eq}
use Rattle.std.proofs.lemmas.Bool.{false_from_ne_true}
use Rattle.std.proofs.lemmas.Slice.Eq.{bytes_eq-Decides}
use Rattle.dconf_model.proofs.ParentLaws.{by_bool}

pub same_path : (p q : List ℕ) → bytes_eq p q ≡ true → p ≡ q
same_path p q e = (bytes_eq-Decides p q).0 e

pub path_itself : (p q : List ℕ) → p ≡ q → bytes_eq p q ≡ true
path_itself p q e = (bytes_eq-Decides p q).1 e

pub itself : (p : List ℕ) → bytes_eq p p ≡ true
itself p = path_itself p p refl

pub other_path : (p q : List ℕ) → p ≢ q → bytes_eq p q ≡ false
other_path p q differ = false_from_ne_true _ (λ e. differ (same_path p q e))

pub same_or_not : (p q : List ℕ) → (p ≡ q) ⊎ (p ≢ q)
same_or_not p q =
    by_bool (bytes_eq p q) ((p ≡ q) ⊎ (p ≢ q)) (λ e. inl (same_path p q e))
    (λ e. inr (λ same. let t : bytes_eq p q ≡ true = path_itself p q same in cc))
