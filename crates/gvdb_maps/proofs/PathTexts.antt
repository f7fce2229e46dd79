-- Paths, and those of keys, place by place.
use Rattle.std.proofs.lemmas.Grind.{common_steps}
use Rattle.std.proofs.Common.{◌≡◌, ◌≢◌, ◌<◌, ◌≤◌, ◌+◌, ◌-◌, ◌&&◌, ◌||◌, ◌==◌, ℕ, zero, suc, true, false, not, List, [], ◌∷◌, ◌++◌, length, get_or, take, refl, sym, ap, ◌∙◌, arith}
use Rattle.std.specs.Prelude.{IsTrue}
use Rattle.std.specs.List.{list_any}
use Rattle.std.proofs.lemmas.Bool.{and_parts, leb-true, not-true, both_ways, or_parts}
use Rattle.std.proofs.lemmas.Bool.Decides.{Decides-eqb}
use Rattle.std.proofs.lemmas.List.{get_or_past}
use Rattle.std.proofs.lemmas.Slice.Eq.{ends_is}
use Rattle.dconf_model.specs.Paths.{is_key_path, is_path, starts_with_slash, has_two_slashes, ends_with_slash, is_short, has_zero_byte}
use Rattle.dconf_model.proofs.PathLaws.{ends_in}
use Rattle.gvdb_maps.specs.PlanWords.{IsSlash}

pub record IsPathText (text : List ℕ) : Type 0 where
  pub first : IsSlash text 0
  pub no_nul : (i : ℕ) → i < length text → get_or text i 0 ≢ 0
  pub single : (i : ℕ) → IsSlash text i → get_or text (i + 1) 0 ≢ 47
  pub short : length text ≤ 65535

-- of a key
pub record IsText (text : List ℕ) : Type 0 where
  pub first : IsSlash text 0
  pub no_nul : (i : ℕ) → i < length text → get_or text i 0 ≢ 0
  pub single : (i : ℕ) → IsSlash text i → get_or text (i + 1) 0 ≢ 47
  pub unended : (i : ℕ) → i + 1 ≡ length text → get_or text i 0 ≢ 47
  pub short : length text ≤ 65535

-- ---- a slash at the first or the last place

slash_first : (text : List ℕ) → starts_with_slash text ≡ true → IsSlash text 0
slash_first text e = grind (arith, common_steps)

pub end_is : (text : List ℕ) → ends_with_slash text ≡ true → text ≡ take (length text - 1) text ++ 47 ∷ []
end_is text e = (ends_is Decides-eqb text (47 ∷ []) (ends_with_slash text) refl).0 e

-- a text that has a slash at its last place ends in it
take_last : (text : List ℕ) (i : ℕ) → i + 1 ≡ length text → get_or text i 0 ≡ 47 → text ≡ take i text ++ 47 ∷ []
take_last text i n slash = grind (arith, common_steps)

open_end : (text : List ℕ) → ends_with_slash text ≡ false → (i : ℕ) → i + 1 ≡ length text → get_or text i 0 ≢ 47
open_end text e i n slash = both_ways (ends_with_slash text) e (ends_in text (take i text) (take_last text i n slash))

-- ---- no zero byte, no two slashes

no_zero : (text : List ℕ) → has_zero_byte text ≡ false → (i : ℕ) → i < length text → get_or text i 0 ≢ 0
no_zero [] e i here is = absurd (omega (arith, here))
no_zero (c ∷ text) e zero here is = let bad : true ≡ false = sym (ap (λ (x : ℕ). (x == 0) || list_any (λ (y : ℕ). y == 0) text) is) ∙ e in cc
no_zero (c ∷ text) e (suc i) here is = no_zero text (or_parts (c == 0) _ e).1 i (omega (arith, here)) is

single_slash : (text : List ℕ) → has_two_slashes text ≡ false → (i : ℕ) → get_or text i 0 ≡ 47 → get_or text (i + 1) 0 ≢ 47
unfolding has_two_slashes
single_slash [] e i a b = let bad : 0 ≡ 47 = a in absurd (omega (arith, bad))
single_slash (c ∷ []) e i a b =
    let past : get_or (c ∷ []) (i + 1) 0 ≡ 0 = get_or_past (c ∷ []) (i + 1) 0 (omega arith) in
    let bad : 0 ≡ 47 = sym past ∙ b in absurd (omega (arith, bad))
single_slash (c ∷ d ∷ text) e zero a b =
    let both : (c == 47 && d == 47) ≡ true = ap (λ (x : ℕ). x == 47 && d == 47) a ∙ ap (λ (y : ℕ). true && y == 47) b in
    both_ways (c == 47 && d == 47) (or_parts _ _ e).0 both
single_slash (c ∷ d ∷ text) e (suc i) a b = single_slash (d ∷ text) (or_parts _ _ e).1 i a (sym (ap (λ (k : ℕ). get_or (c ∷ d ∷ text) k 0) next) ∙ b)
  where
    next : suc i + 1 ≡ suc (i + 1)
    next = omega arith

-- ---- all of it

pub path_text : (text : List ℕ) → IsTrue (is_path text) → IsPathText text
path_text text is =
    let q = and_parts (starts_with_slash text && not (has_zero_byte text) && not (has_two_slashes text)) (is_short text) is in
    let r = and_parts (starts_with_slash text && not (has_zero_byte text)) (not (has_two_slashes text)) q.0 in
    let s = and_parts (starts_with_slash text) (not (has_zero_byte text)) r.0 in
    record {
      first = slash_first text s.0;
      no_nul = no_zero text (not-true (has_zero_byte text) s.1);
      single = λ i slash. single_slash text (not-true (has_two_slashes text) r.1) i slash.slash;
      short = leb-true (length text) 65535 q.1;
    }

pub text_of_key : (text : List ℕ) → IsTrue (is_key_path text) → IsText text
text_of_key text is =
    let p = and_parts (is_path text) (not (ends_with_slash text)) is in
    let path = path_text text p.0 in
    record {
      first = path.first;
      no_nul = path.no_nul;
      single = path.single;
      unended = open_end text (not-true (ends_with_slash text) p.1);
      short = path.short;
    }
