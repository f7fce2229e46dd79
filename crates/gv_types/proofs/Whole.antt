-- What the end of a reading says of the whole text.
use Rattle.std.proofs.Common.{ℕ, ◌≤◌, ◌<◌, ◌-◌, ◌≡◌, List, [], ◌∷◌, Option, Some, None, refl, sym, ap, ◌∙◌, subst, append-nil, arith, length, length-append, true, false}
use Rattle.std.specs.Prelude.{◌↔◌, IsTrue, is_some, unwrap_or}
use Rattle.std.specs.Str.{IsUtf8}
use Rattle.std.proofs.lemmas.Str.{IsUtf8-from_ascii}
use Rattle.std.proofs.lemmas.Bool.{false≢true}
use Rattle.gv_model.specs.Ty.{Ty, Types, spelling}
use Rattle.gv_model.specs.Ty.Ty.{tuple}
use Rattle.gv_model.specs.TypeText.{is_type, type_at, type_of_text}
use Rattle.gv_model.specs.TypeFault.{IsFault}
use Rattle.gv_model.specs.TypeFault.Fault.{trailing}
use Rattle.gv_model.proofs.TypeTextLaws.{one_reading, limits_of, within_limits}
use Rattle.gv_model.proofs.TypeTextParts.{spelling-type_at, spelling_is_ascii, text_of_type}
use Rattle.gv_model.proofs.Prefixes.{spelling-positive}
use Rattle.gv_types.specs.declared.grammar.Halt.{Halt}
use Rattle.gv_types.specs.TypePrefix.{BeginsWithType, HaltsAt}
use Rattle.gv_types.proofs.Stops.{no_type_where_stopped}
use Rattle.gv_types.proofs.PrefixTypes.{unless_some}

-- a text that is read to its end is a type's
pub read_whole : (text rest : List ℕ) → BeginsWithType 128 text rest → length rest < 1 → length text ≤ 67108864 → is_type text ≡ true
read_whole text (b ∷ rest) r end l = absurd (omega arith)
read_whole text [] r end l = (text_of_type r.type text (sym (r.whole ∙ append-nil (spelling r.type))) (within_limits r.type text r.within l)).checked

-- it is UTF-8, since it is ASCII
pub whole_is_utf8 : (text rest : List ℕ) → BeginsWithType 128 text rest → length rest < 1 → IsUtf8 text
whole_is_utf8 text (b ∷ rest) r end = absurd (omega arith)
whole_is_utf8 text [] r end = subst IsUtf8 (sym (r.whole ∙ append-nil (spelling r.type))) (IsUtf8-from_ascii (spelling r.type) (spelling_is_ascii r.type))

some_type : (o : Option Ty) → is_some o ≡ true → Some (unwrap_or o (tuple Types.end)) ≡ o
some_type None h = absurd (false≢true h)
some_type (Some t) h = refl

pub whole_type : (text rest : List ℕ) → BeginsWithType 128 text rest → length rest < 1 → length text ≤ 67108864 → Some (type_at text) ≡ type_of_text text
whole_type text (b ∷ rest) r end l = absurd (omega arith)
whole_type text [] r end l = some_type (type_of_text text) (read_whole text [] r end l)

-- ---- no type's text

pub no_type_read : (text : List ℕ) → (is_type text ≡ true → ⊥) → None ≡ type_of_text text
no_type_read text h = sym (unless_some (type_of_text text) (λ t e. h (ap is_some e)))

pub no_type : (text : List ℕ) → (is_type text ≡ true → ⊥) → (false ≡ true) ↔ IsTrue (is_type text)
no_type text h = (λ e. absurd (false≢true e), λ is. absurd (h is))

pub too_long : (text : List ℕ) → 67108864 < length text → is_type text ≡ true → ⊥
too_long text l is = omega (arith, (limits_of (type_at text) text (spelling-type_at text is).1).1)

pub no_empty_type : (text : List ℕ) → length text ≡ 0 → is_type text ≡ true → ⊥
no_empty_type text e is = omega (arith, ap length (spelling-type_at text is).0, spelling-positive (type_at text))

pub no_type_goes_on : (text rest : List ℕ) → BeginsWithType 128 text rest → 0 < length rest → is_type text ≡ true → ⊥
no_type_goes_on text rest r l is =
    let read = one_reading (type_at text) r.type [] rest (append-nil (spelling (type_at text)) ∙ ((spelling-type_at text is).0 ∙ r.whole)) in
    omega (arith, ap length read.1)

pub no_type_stops : (text rest : List ℕ) (h : Halt) → HaltsAt 128 text rest h → is_type text ≡ true → ⊥
no_type_stops text rest h s is =
    let spelled = spelling-type_at text is in
    no_type_where_stopped 128 text rest h (type_at text) [] s (sym (append-nil (spelling (type_at text)) ∙ spelled.0)) (limits_of (type_at text) text spelled.1).0

-- ---- a fault

-- after a type a text goes on
pub trails : (text rest : List ℕ) → BeginsWithType 128 text rest → 0 < length rest → length text ≤ 67108864 → IsFault text (trailing (length text - length rest))
trails text [] r some l = absurd (omega arith)
trails text (b ∷ rest) r some l = (
  l,
  record {
    type = r.type;
    byte = b;
    rest = rest;
    whole = r.whole;
    place = omega (arith, ap length r.whole, length-append (spelling r.type) (b ∷ rest));
    within = r.within;
  },
)
