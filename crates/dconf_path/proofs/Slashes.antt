-- Where two slashes occur in a text.
use Rattle.std.proofs.Common.{◌≡◌, ◌↔◌, ℕ, Bool, true, false, List, [], ◌∷◌, ◌++◌, ◌||◌, ◌&&◌, ◌==◌, refl, ap, ◌∙◌, rules}
use Rattle.std.proofs.lemmas.Bool.{eqb-true, or_right}
use Rattle.std.specs.Str.Iter.{HasSubslice}
use Rattle.dconf_model.specs.Paths.{has_two_slashes}

found_at_start : (more : List ℕ) → has_two_slashes (47 ∷ 47 ∷ more) ≡ true
unfolding has_two_slashes
found_at_start more = refl

found_later : (c : ℕ) (text : List ℕ) → has_two_slashes text ≡ true → has_two_slashes (c ∷ text) ≡ true
unfolding has_two_slashes
found_later c [] found = search rules
found_later c (d ∷ text) found = ap (λ b. (c == 47 && d == 47) || b) found ∙ or_right (c == 47 && d == 47) true refl

found_after : (prefix more : List ℕ) → has_two_slashes (prefix ++ (47 ∷ 47 ∷ more)) ≡ true
found_after [] more = found_at_start more
found_after (c ∷ prefix) more = found_later c (prefix ++ (47 ∷ 47 ∷ more)) (found_after prefix more)

occur_later : (c : ℕ) (text : List ℕ) → HasSubslice text (47 ∷ 47 ∷ []) → HasSubslice (c ∷ text) (47 ∷ 47 ∷ [])
occur_later c text (prefix, more, whole) = (c ∷ prefix, more, ap (λ cs. c ∷ cs) whole)

occur_at_start : (c d : ℕ) (more : List ℕ) → (c == 47) ≡ true → (d == 47) ≡ true → HasSubslice (c ∷ d ∷ more) (47 ∷ 47 ∷ [])
occur_at_start c d more first second =
    ([], more, ap (λ x. x ∷ d ∷ more) (eqb-true c 47 first) ∙ ap (λ x. 47 ∷ x ∷ more) (eqb-true d 47 second))

occur_where_found : (text : List ℕ) → has_two_slashes text ≡ true → HasSubslice text (47 ∷ 47 ∷ [])
unfolding has_two_slashes
occur_where_found [] found = search rules
occur_where_found (c ∷ []) found = search rules
occur_where_found (c ∷ d ∷ more) found = go (c == 47) (d == 47) refl refl found (occur_where_found (d ∷ more))
  where
    go : (p q : Bool) → (c == 47) ≡ p → (d == 47) ≡ q → ((p && q) || has_two_slashes (d ∷ more)) ≡ true
        → (has_two_slashes (d ∷ more) ≡ true → HasSubslice (d ∷ more) (47 ∷ 47 ∷ [])) → HasSubslice (c ∷ d ∷ more) (47 ∷ 47 ∷ [])
    go true true first second found later = occur_at_start c d more first second
    go true false first second found later = occur_later c (d ∷ more) (later found)
    go false q first second found later = occur_later c (d ∷ more) (later found)

-- what a test says that is true exactly where two slashes occur in the text
pub has_two_slashes_where : (b : Bool) (text : List ℕ) → (b ≡ true) ↔ HasSubslice text (47 ∷ 47 ∷ []) → has_two_slashes text ≡ b
has_two_slashes_where true text says = let p = says.0 refl in ap has_two_slashes p.2 ∙ found_after p.0 p.1
has_two_slashes_where false text says = go (has_two_slashes text) refl
  where
    go : (b : Bool) → has_two_slashes text ≡ b → has_two_slashes text ≡ false
    go false e = e
    go true e = let wrong : false ≡ true = says.1 (occur_where_found text e) in search rules
