-- What plain bytes are.
use Rattle.std.proofs.Common.{◌≡◌, ◌<◌, ◌≤◌, ℕ, suc, ◌+◌, List, [], ◌∷◌, ◌++◌, Bool, true, false, ◌||◌, ◌&&◌, ◌==◌, length, get_or, refl, ap, ◌∙◌, arith, subst}
use Rattle.std.proofs.Math.ListN.{get_or-append}
use Rattle.std.proofs.Math.Logic.{⊎_elim}
use Rattle.std.proofs.Math.Nat.{eq-or-lt_of_le}
use Rattle.std.proofs.lemmas.Bool.{ne_eqb, eqb-true}
use Rattle.std.proofs.lemmas.List.{get_or_past}
use Rattle.dconf_model.specs.Paths.{has_zero_byte, has_two_slashes, starts_with_slash, ends_with_slash, is_short, is_key_path}
use Rattle.dconf_path.specs.PlainBytes.{ArePlain}

tail : (c : ℕ) (bytes : List ℕ) → ArePlain (c ∷ bytes) (suc (length bytes)) → ArePlain bytes (length bytes)
tail c bytes plain k less =
    let p = plain (suc k) (omega (arith, less)) in
    let next : suc k + 1 ≡ suc (k + 1) = omega arith in
    record { ascii = p.ascii; not_zero = p.not_zero; one_slash = λ slash other. p.one_slash slash (ap (λ n. get_or (c ∷ bytes) n 0) next ∙ other) }

pub plain_has_no_zero : (bytes : List ℕ) → ArePlain bytes (length bytes) → has_zero_byte bytes ≡ false
plain_has_no_zero [] plain = refl
plain_has_no_zero (c ∷ bytes) plain =
    ap (λ b. b || has_zero_byte bytes) (ne_eqb c 0 (plain 0 (omega arith)).not_zero) ∙ plain_has_no_zero bytes (tail c bytes plain)

pub plain_has_no_two_slashes : (bytes : List ℕ) → ArePlain bytes (length bytes) → has_two_slashes bytes ≡ false
unfolding has_two_slashes
plain_has_no_two_slashes [] plain = refl
plain_has_no_two_slashes (c ∷ []) plain = refl
plain_has_no_two_slashes (c ∷ d ∷ bytes) plain =
    go (c == 47) (d == 47) refl refl ∙ plain_has_no_two_slashes (d ∷ bytes) (tail c (d ∷ bytes) plain)
  where
    go : (p q : Bool) → (c == 47) ≡ p → (d == 47) ≡ q → (((c == 47) && (d == 47)) || has_two_slashes (d ∷ bytes)) ≡ has_two_slashes (d ∷ bytes)
    go true true first second = absurd ((plain 0 (omega arith)).one_slash (eqb-true c 47 first) (eqb-true d 47 second))
    go true false first second = rw (first, second) refl
    go false q first second = rw first refl

pub plain_key : (bytes : List ℕ) → starts_with_slash bytes ≡ true → ends_with_slash bytes ≡ false → is_short bytes ≡ true → ArePlain bytes (length bytes) → is_key_path bytes ≡ true
plain_key bytes starts ends short plain =
    rw (starts, ends, short, plain_has_no_zero bytes plain, plain_has_no_two_slashes bytes plain) refl

-- bytes are plain where those are that go on with others
pub plain_before : (bytes others : List ℕ) (end : ℕ) → length bytes ≤ end → ArePlain (bytes ++ others) end → ArePlain bytes (length bytes)
plain_before bytes others end most plain k less =
    let p = plain k (omega (arith, most, less)) in
    let here = get_or-append bytes others 0 k less in
    record {
      ascii = subst (λ b. b < 128) here p.ascii;
      not_zero = λ zero. p.not_zero (here ∙ zero);
      one_slash = λ slash other. ⊎_elim
          (λ (last : k + 1 ≡ length bytes). let past = get_or_past bytes (k + 1) 0 (omega (arith, last)) in omega (arith, past, other))
          (λ within. p.one_slash (here ∙ slash) (get_or-append bytes others 0 (k + 1) within ∙ other))
          (eq-or-lt_of_le (omega (arith, less)));
    }
