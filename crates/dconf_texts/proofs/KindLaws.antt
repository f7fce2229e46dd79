-- Two slashes, byte by byte; and what follows the slash of a directory.
use Rattle.std.proofs.Common.{◌≡◌, ℕ, Bool, true, false, List, [], ◌∷◌, ◌||◌, ◌&&◌, ◌==◌, ◌-◌, cond, drop, length, suc, refl, sym, ap, ◌∙◌, arith, eqb-true}
use Rattle.std.specs.Cmp.Lexicographic.{pointwise}
use Rattle.std.specs.Prelude.{eqb}
use Rattle.dconf_model.specs.Paths.{ends_with_slash, has_two_slashes, has_zero_byte, starts_with_slash}
use Rattle.dconf_model.proofs.ParentLaws.{by_bool}
use Rattle.dconf_model.proofs.PathMaps.{no_truth}
use Rattle.dconf_texts.specs.Kinds.{end_of, kind_below, kind_of}
use Rattle.dconf_texts.specs.declared.kinds.PathKind.TheVariants.{Key, Directory, HasNul, DoubleSlash}

abbrev pub begins_in_slash : List ℕ → Bool
begins_in_slash [] = false
begins_in_slash (c ∷ text) = c == 47

-- a slash comes after another, where the byte before the text may be one
abbrev pub after_one : Bool → List ℕ → Bool
after_one before text = (begins_in_slash text && before) || has_two_slashes text

pub after_none : (text : List ℕ) → after_one false text ≡ has_two_slashes text
after_none text = go (begins_in_slash text)
  where
    go : (b : Bool) → ((b && false) || has_two_slashes text) ≡ has_two_slashes text
    go true = refl
    go false = refl

pub at_the_end : (before : Bool) → after_one before [] ≡ false
unfolding has_two_slashes
at_the_end before = refl

pub found_here : (before : Bool) (c : ℕ) (text : List ℕ) → ((c == 47) && before) ≡ true → after_one before (c ∷ text) ≡ true
found_here before c text is = ap (λ b. b || has_two_slashes (c ∷ text)) is

pair : (a b p q : Bool) → (a && p) ≡ false → ((a && p) || ((a && b) || q)) ≡ ((b && a) || q)
pair true true p q e = ap (λ x. x || true) e
pair true false p q e = ap (λ x. x || q) e
pair false true p q e = refl
pair false false p q e = refl

pub goes_on : (before : Bool) (c : ℕ) (text : List ℕ) → ((c == 47) && before) ≡ false → after_one before (c ∷ text) ≡ after_one (c == 47) text
unfolding has_two_slashes
goes_on before c [] e = ap (λ x. x || false) e
goes_on before c (d ∷ more) e = pair (c == 47) (d == 47) before (has_two_slashes (d ∷ more)) e

-- ---- behind a slash

no_slash : (c : ℕ) (text : List ℕ) → starts_with_slash (c ∷ text) ≡ false → (c == 47) ≡ false
no_slash c text e =
    by_bool (c == 47) ((c == 47) ≡ false) (λ is. absurd (no_truth (sym e ∙ ap (λ x. starts_with_slash (x ∷ text)) (eqb-true c 47 is)))) (λ other. other)

ends_later : (x c : ℕ) (text : List ℕ) → ends_with_slash (x ∷ c ∷ text) ≡ ends_with_slash (c ∷ text)
ends_later x c text =
    let e : length (x ∷ c ∷ text) - 1 ≡ suc (length (c ∷ text) - 1) = omega arith in
    ap (λ n. pointwise eqb (47 ∷ []) (drop n (x ∷ c ∷ text))) e

two_later : (c : ℕ) (text : List ℕ) → (c == 47) ≡ false → has_two_slashes (47 ∷ c ∷ text) ≡ has_two_slashes (c ∷ text)
unfolding has_two_slashes
two_later c text e = ap (λ b. b || has_two_slashes (c ∷ text)) e

pub behind_slash : (text : List ℕ) → starts_with_slash text ≡ false → (text ≡ [] → ⊥) → end_of text ≡ kind_of (47 ∷ text)
behind_slash [] e some = absurd (some refl)
behind_slash (c ∷ text) e some =
    let two = sym (two_later c text (no_slash c text e)) in
    let ends = sym (ends_later 47 c text) in
    λ i. cond (has_zero_byte (c ∷ text)) HasNul (cond (two i) DoubleSlash (cond (ends i) Directory Key))

empty_one : kind_below [] ≡ Directory
unfolding has_two_slashes
empty_one = refl

pub empty_below : (text : List ℕ) → length text ≡ 0 → Directory ≡ kind_below text
empty_below [] e = sym empty_one
empty_below (c ∷ text) e = absurd (omega (arith, e))

pub is_empty : (text : List ℕ) (b : Bool) → b ≡ (length text == 0) → b ≡ false → text ≡ [] → ⊥
is_empty text b e f none = no_truth (sym f ∙ (e ∙ ap (λ t. length t == 0) none))
