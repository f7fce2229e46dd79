-- The type that a checked text spells, and what lies within its limits.
use Rattle.std.proofs.Common.{ℕ, ◌≤◌, ◌<◌, ◌≡◌, List, [], ◌∷◌, ◌++◌, length, Option, Some, None, true, refl, ap, subst, arith}
use Rattle.std.specs.Prelude.{is_some, unwrap_or}
use Rattle.std.specs.Str.{IsAscii}
use Rattle.std.proofs.lemmas.Str.{IsAscii-append}
use Rattle.std.proofs.lemmas.Str.Ascii.{IsAscii-nil, IsAscii-cons}
use Rattle.std.proofs.lemmas.Bool.{false≢true}
use Rattle.gv_model.specs.Ty.{Ty, Types, Basic, letter, spelling, spellings, nesting}
use Rattle.gv_model.specs.Ty.Ty.{basic, variant, array, maybe, tuple, entry}
use Rattle.gv_model.specs.Ty.Types.{end, member}
use Rattle.gv_model.specs.TypeText.{type_of_text, is_within_limits, is_type, type_at}
use Rattle.gv_model.proofs.TypeTextSound.{spelling_of_read, type_where_spelled}

-- what a text of a type spells
pub spelling-type_at : (w : List ℕ) → is_type w ≡ true → (spelling (type_at w) ≡ w) × (is_within_limits (type_at w) w ≡ true)
spelling-type_at w h = go (type_of_text w) refl h
  where
    go : (o : Option Ty) → type_of_text w ≡ o → is_some o ≡ true → (spelling (unwrap_or o (tuple end)) ≡ w) × (is_within_limits (unwrap_or o (tuple end)) w ≡ true)
    go None e k = absurd (false≢true k)
    go (Some t) e k = spelling_of_read w t e

-- a text of a type within the limits
pub record IsTextOfType (t : Ty) (w : List ℕ) : Type 0 where
  pub checked : is_type w ≡ true
  pub type : type_at w ≡ t

pub text_of_type : (t : Ty) (w : List ℕ) → spelling t ≡ w → is_within_limits t w ≡ true → IsTextOfType t w
text_of_type t w e h =
    let found : type_of_text w ≡ Some t = (type_where_spelled w t).1 (e, h) in
    record { checked = ap is_some found; type = ap (λ (o : Option Ty). unwrap_or o (tuple end)) found }

-- a part of a type lies within the limits that the type lies within
pub limits_down : (t u : Ty) (w v : List ℕ) → nesting u ≤ nesting t → length v ≤ length w → is_within_limits t w ≡ true → is_within_limits u v ≡ true
limits_down t u w v h g k = grind arith

-- ---- a type's text is ASCII

letter_low : (k : Basic) → letter k < 128
letter_low Basic.boolean = omega arith
letter_low _ = omega arith

mutual
  unfolding spelling spellings

  pub spelling_is_ascii : (t : Ty) → IsAscii (spelling t)
  spelling_is_ascii (basic k) = IsAscii-cons (letter k) [] (letter_low k) IsAscii-nil
  spelling_is_ascii variant = IsAscii-cons 118 [] (omega arith) IsAscii-nil
  spelling_is_ascii (array t) = IsAscii-cons 97 (spelling t) (omega arith) (spelling_is_ascii t)
  spelling_is_ascii (maybe t) = IsAscii-cons 109 (spelling t) (omega arith) (spelling_is_ascii t)
  spelling_is_ascii (tuple ts) = IsAscii-cons 40 (spellings ts ++ 41 ∷ []) (omega arith) (IsAscii-append (spellings ts) (41 ∷ []) (spellings_are_ascii ts) (IsAscii-cons 41 [] (omega arith) IsAscii-nil))
  spelling_is_ascii (entry k t) = IsAscii-cons 123 (letter k ∷ (spelling t ++ 125 ∷ [])) (omega arith) (IsAscii-cons (letter k) (spelling t ++ 125 ∷ []) (letter_low k) (IsAscii-append (spelling t) (125 ∷ []) (spelling_is_ascii t) (IsAscii-cons 125 [] (omega arith) IsAscii-nil)))

  spellings_are_ascii : (ts : Types) → IsAscii (spellings ts)
  spellings_are_ascii end = IsAscii-nil
  spellings_are_ascii (member t ts) = IsAscii-append (spelling t) (spellings ts) (spelling_is_ascii t) (spellings_are_ascii ts)

pub type_text_is_ascii : (w : List ℕ) → is_type w ≡ true → IsAscii w
type_text_is_ascii w h = subst IsAscii (spelling-type_at w h).0 (spelling_is_ascii (type_at w))
