-- The group in the brackets of a line, from what follows the first.
use Rattle.std.proofs.Common.{◌≡◌, ◌≢◌, false, List, ℕ, [], ◌∷◌, ◌++◌, Some, None, refl, sym, ap, ◌∙◌, eqb, get_or, drop, arith}
use Rattle.std.specs.Prelude.{if◌then◌else◌}
use Rattle.std.specs.List.{starts_with, ends_with}
use Rattle.std.proofs.lemmas.Str.Pattern.{ends_text}
use Rattle.dconf_model.specs.Keyfiles.{group_in, is_group, has_slash_end}
use Rattle.dconf_model.proofs.KeyfileLines.{head_line, inside_head, ends_head}

pub no_slash_end : (s : List ℕ) → starts_with eqb s (47 ∷ []) ≡ false → ends_with eqb s (47 ∷ []) ≡ false → has_slash_end s ≡ false
no_slash_end s starts ends = rw (starts, ends) refl

-- a line without a bracket at its end names none
pub no_bracket : (rest : List ℕ) → ((front : List ℕ) → rest ≢ front ++ 93 ∷ []) → group_in (91 ∷ rest) ≡ None
no_bracket rest lacks = rw (sym (ends_text false (93 ∷ []) (91 ∷ rest) lacks_too)) refl
  where
    lacks_too : (front : List ℕ) → 91 ∷ rest ≢ front ++ 93 ∷ []
    lacks_too [] e = let first : 91 ≡ 93 = ap (λ l. get_or l 0 0) e in absurd (omega (arith, first))
    lacks_too (c ∷ front) e = lacks front (ap (drop 1) e)

pub in_brackets : (g rest : List ℕ) → rest ≡ g ++ 93 ∷ [] → group_in (91 ∷ rest) ≡ (if is_group g then Some g else None)
in_brackets g rest e = ap (λ r. group_in (91 ∷ r)) e ∙ go
  where
    go : group_in (head_line g) ≡ (if is_group g then Some g else None)
    go = rw (ends_head g, inside_head g) refl
