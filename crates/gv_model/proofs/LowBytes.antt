-- What is ASCII in texts: digits, quotes, and object paths.
use Rattle.std.proofs.Common.{◌≡◌, ◌<◌, ◌≤◌, ℕ, Bool, true, false, cond, List, [], ◌∷◌, refl, arith}
use mathlib.Core.Logic.{⊎_elim}
use Rattle.std.specs.Prelude.{◌==◌, ◌&&◌, not, nat_le}
use Rattle.std.specs.Str.{IsAscii}
use Rattle.std.proofs.lemmas.Bool.{false≢true, and_parts, or_cases, eqb-true, leb-true}
use Rattle.std.proofs.lemmas.Str.Ascii.{IsAscii-cons, IsAscii-nil}
use Rattle.gv_model.specs.Characters.{is_digit_of, is_quote}
use Rattle.gv_model.specs.Texts.{is_object_path, are_parts, is_part_byte}

pub digit_is_low : (base c : ℕ) → base ≤ 16 → is_digit_of base c ≡ true → c < 128
digit_is_low base c h e = grind arith

pub quote_is_low : (q : ℕ) → is_quote q ≡ true → q < 128
quote_is_low q e = grind arith

in_range_low : (a b c : ℕ) → b < 128 → (nat_le a c && nat_le c b) ≡ true → c < 128
in_range_low a b c l e = let h = leb-true c b (and_parts (nat_le a c) (nat_le c b) e).1 in omega (arith, h, l)

part_low : (c : ℕ) → is_part_byte c ≡ true → c < 128
part_low c e =
    ⊎_elim
    (λ f. ⊎_elim (λ g. ⊎_elim (in_range_low 65 90 c (omega arith)) (in_range_low 97 122 c (omega arith)) (or_cases _ _ g)) (in_range_low 48 57 c (omega arith)) (or_cases _ _ f))
    (λ h. let z = eqb-true c 95 h in omega (arith, z))
    (or_cases _ _ e)

parts_ascii : (at_slash : Bool) (s : List ℕ) → are_parts at_slash s ≡ true → IsAscii s
unfolding are_parts
parts_ascii at_slash [] e = IsAscii-nil
parts_ascii at_slash (c ∷ cs) e = go (c == 47) refl e (parts_ascii true cs) (parts_ascii false cs)
  where
    go : (b : Bool) → (c == 47) ≡ b → cond b (not at_slash && are_parts true cs) (is_part_byte c && are_parts false cs) ≡ true
        → (are_parts true cs ≡ true → IsAscii cs) → (are_parts false cs ≡ true → IsAscii cs) → IsAscii (c ∷ cs)
    go true q h f g = let z = eqb-true c 47 q in IsAscii-cons c cs (omega (arith, z)) (f (and_parts (not at_slash) (are_parts true cs) h).1)
    go false q h f g = let p = and_parts (is_part_byte c) (are_parts false cs) h in IsAscii-cons c cs (part_low c p.0) (g p.1)

pub path_ascii : (s : List ℕ) → is_object_path s ≡ true → IsAscii s
path_ascii [] e = absurd (false≢true e)
path_ascii (c ∷ []) e = let z = eqb-true c 47 e in IsAscii-cons c [] (omega (arith, z)) IsAscii-nil
path_ascii (c ∷ d ∷ cs) e =
    let p = and_parts (c == 47) (are_parts true (d ∷ cs)) e in
    let z = eqb-true c 47 p.0 in
    IsAscii-cons c (d ∷ cs) (omega (arith, z)) (parts_ascii true (d ∷ cs) p.1)
