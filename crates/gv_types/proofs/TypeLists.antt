-- Texts of types that are one after the other.
use Rattle.std.proofs.Common.{ℕ, ◌≡◌, ◌≤◌, ◌<◌, ◌+◌, ◌-◌, List, [], ◌∷◌, length, take, drop, append-nil, true, false, Bool, ◌&&◌, eqb, eqb-true, refl, sym, ap, ap₂, ◌∙◌, subst, arith, length-append}
use Rattle.std.specs.Prelude.{◌↔◌, IsTrue}
use Rattle.std.proofs.lemmas.Bool.{eqb-false, and_parts, and_from, false≢true}
use Rattle.std.specs.Str.{IsAscii}
use Rattle.std.proofs.Math.Seq.{take-append_seam, drop-append_seam}
use Rattle.std.proofs.lemmas.Str.{IsAscii-append}
use Rattle.std.proofs.lemmas.Str.Ascii.{IsAscii-nil}
use Rattle.std.proofs.lemmas.List.{nil_from_length}
use Rattle.gv_model.specs.Ty.{Ty, Types, spelling, spellings, nesting, greatest_nesting, type_list}
use Rattle.gv_model.specs.Ty.Types.{end, member}
use Rattle.gv_model.specs.TypeText.{Seen, seen, is_within_limits, is_type, type_at}
use Rattle.gv_model.specs.TypeText.Seen.{nothing, type, tuple_end, entry_end, wrong}
use Rattle.gv_model.specs.Texts.{are_types}
use Rattle.gv_model.proofs.TypeTextLaws.{seen-spelling, within_limits, limits_of}
use Rattle.gv_model.proofs.TypeTextSound.{Shows, seen_shows}
use Rattle.gv_model.proofs.TypeTextParts.{spelling-type_at, spelling_is_ascii, text_of_type}
use Rattle.gv_model.proofs.ListLaws.{nil_no_cons}
use Rattle.gv_model.proofs.Prefixes.{spelling-positive}
use Rattle.gv_types.specs.declared.grammar.Halt.{Halt}
use Rattle.gv_types.specs.TypePrefix.{BeginsWithType, HaltsAt}
use Rattle.gv_types.specs.Members.{types_in}
use Rattle.gv_types.proofs.Stops.{no_type_where_stopped}

-- ---- the texts of a list of types are read as these types

seen_end : seen (spellings end) ≡ nothing
unfolding spelling seen
seen_end = refl

seen_member : (t : Ty) (ts : Types) → seen (spellings (member t ts)) ≡ type t (seen (spellings ts))
unfolding spelling
seen_member t ts = seen-spelling t (spellings ts)

pub types_in_spellings : (ts : Types) → types_in (seen (spellings ts)) ≡ type_list ts
unfolding type_list
types_in_spellings end = ap types_in seen_end
types_in_spellings (member t ts) = ap types_in (seen_member t ts) ∙ ap (λ us. t ∷ us) (types_in_spellings ts)

within_parts : (t : Ty) (ts : Types) → greatest_nesting (member t ts) ≤ 128 → length (spellings (member t ts)) ≤ 67108864 → (is_within_limits t (spelling t) ≡ true) × (greatest_nesting ts ≤ 128) × (length (spellings ts) ≤ 67108864)
unfolding nesting spelling
within_parts t ts h g =
    let whole = length-append (spelling t) (spellings ts) in
    let deep : nesting t ≤ 128 = omega arith in
    let long : length (spelling t) ≤ 67108864 = omega arith in
    (grind arith, omega arith, omega arith)

pub members_are_types : (ts : Types) → greatest_nesting ts ≤ 128 → length (spellings ts) ≤ 67108864 → are_types (seen (spellings ts)) ≡ true
members_are_types end h g = ap are_types seen_end
members_are_types (member t ts) h g =
    let parts = within_parts t ts h g in
    ap are_types (seen_member t ts) ∙ and_from (is_within_limits t (spelling t)) (are_types (seen (spellings ts))) parts.0 (members_are_types ts parts.1 parts.2)

-- ---- what occurs in a text of types

shown_is_ascii : (s : Seen) (w : List ℕ) → Shows s w → are_types s ≡ true → IsAscii w
shown_is_ascii nothing w h e = subst IsAscii (sym h) IsAscii-nil
shown_is_ascii (type t s) w h e =
    subst IsAscii (sym h.1) (IsAscii-append (spelling t) h.0 (spelling_is_ascii t) (shown_is_ascii s h.0 h.2 (and_parts (is_within_limits t (spelling t)) (are_types s) e).1))
shown_is_ascii _ w h e = absurd (false≢true e)

pub types_are_ascii : (w : List ℕ) → are_types (seen w) ≡ true → IsAscii w
types_are_ascii w e = shown_is_ascii (seen w) w (seen_shows w) e

-- reading a type stops in such a text only where nothing is left
stop_is_end : (s : Seen) (w rest : List ℕ) (halt : Halt) → Shows s w → are_types s ≡ true → HaltsAt 128 w rest halt → w ≡ []
stop_is_end nothing w rest halt h e stop = h
stop_is_end (type t s) w rest halt h e stop =
    absurd (no_type_where_stopped 128 w rest halt t h.0 stop h.1 (limits_of t (spelling t) (and_parts (is_within_limits t (spelling t)) (are_types s) e).0).0)
stop_is_end _ w rest halt h e stop = absurd (false≢true e)

stops_at_end : (w rest : List ℕ) (halt : Halt) → are_types (seen w) ≡ true → HaltsAt 128 w rest halt → w ≡ []
stops_at_end w rest halt e stop = stop_is_end (seen w) w rest halt (seen_shows w) e stop

in_no_text : (w : List ℕ) → w ≡ [] → types_in (seen w) ≡ []
unfolding seen
in_no_text w e = rw e refl

pub no_types_left : (w rest : List ℕ) (halt : Halt) → are_types (seen w) ≡ true → HaltsAt 128 w rest halt → types_in (seen w) ≡ []
no_types_left w rest halt e stop = in_no_text w (stops_at_end w rest halt e stop)

-- types occur in a text of types unless it is empty
no_types_shown : (s : Seen) (w : List ℕ) → Shows s w → are_types s ≡ true → types_in s ≡ [] → w ≡ []
no_types_shown nothing w h e none = h
no_types_shown (type t s) w h e none = absurd (nil_no_cons (sym none))
no_types_shown _ w h e none = absurd (false≢true e)

pub no_types_in_empty : (w : List ℕ) (empty : Bool) → are_types (seen w) ≡ true → empty ≡ eqb (length w) 0 → IsTrue empty ↔ (types_in (seen w) ≡ [])
no_types_in_empty w empty e is = (
  (λ h. in_no_text w (nil_from_length w (eqb-true (length w) 0 (sym is ∙ h)))),
  (λ none. is ∙ ap (λ v. eqb (length v) 0) (no_types_shown (seen w) w (seen_shows w) e none)),
)

-- ---- what follows where a type is read at the start

seen_read : (w rest : List ℕ) (r : BeginsWithType 128 w rest) → seen w ≡ type r.type (seen rest)
seen_read w rest r = ap seen r.whole ∙ seen-spelling r.type rest

length_read : (w rest : List ℕ) (r : BeginsWithType 128 w rest) → length w ≡ length (spelling r.type) + length rest
length_read w rest r = ap length r.whole ∙ length-append (spelling r.type) rest

pub read_is_shorter : (w rest : List ℕ) → BeginsWithType 128 w rest → length rest < length w
read_is_shorter w rest r = omega (arith, length_read w rest r, spelling-positive r.type)

read_types : (w rest : List ℕ) (r : BeginsWithType 128 w rest) → are_types (seen w) ≡ is_within_limits r.type (spelling r.type) && are_types (seen rest)
read_types w rest r = ap are_types (seen_read w rest r)

not_within : (t : Ty) → 67108864 < length (spelling t) → is_within_limits t (spelling t) ≡ false
not_within t h = grind arith

pub types_go_on : (w rest : List ℕ) → BeginsWithType 128 w rest → length w - length rest ≤ 67108864 → are_types (seen w) ≡ are_types (seen rest)
types_go_on w rest r h =
    read_types w rest r ∙ ap (λ b. b && are_types (seen rest)) (within_limits r.type (spelling r.type) r.within (omega (arith, length_read w rest r)))

pub type_is_too_long : (w rest : List ℕ) → BeginsWithType 128 w rest → 67108864 < length w - length rest → are_types (seen w) ≡ false
type_is_too_long w rest r h =
    read_types w rest r ∙ ap (λ b. b && are_types (seen rest)) (not_within r.type (omega (arith, length_read w rest r)))

-- where reading stops before the end there are no types
pub stop_is_no_types : (w rest : List ℕ) (halt : Halt) → eqb (length w) 0 ≡ false → HaltsAt 128 w rest halt → are_types (seen w) ≡ false
stop_is_no_types w rest halt h stop = go (are_types (seen w)) refl
  where
    go : (b : Bool) → are_types (seen w) ≡ b → b ≡ false
    go true e = absurd (eqb-false (length w) 0 h (ap length (stops_at_end w rest halt e stop)))
    go false e = refl

pub end_is_types : (w : List ℕ) → eqb (length w) 0 ≡ true → are_types (seen w) ≡ true
unfolding seen
end_is_types [] h = refl
end_is_types (c ∷ w) h = absurd (omega (arith, eqb-true (length (c ∷ w)) 0 h))

-- a text of types, cut after the type at its start
pub record IsCutAfterFirst (w prefix back : List ℕ) (t : Ty) : Type 0 where
  pub checked : is_type prefix ≡ true
  pub type : type_at prefix ≡ t
  pub are : are_types (seen back) ≡ true
  pub listed : types_in (seen w) ≡ type_at prefix ∷ types_in (seen back)

pub read_prefix : (w rest : List ℕ) (r : BeginsWithType 128 w rest) → take (length w - length rest) w ≡ spelling r.type
read_prefix w rest r =
    let n : length w - length rest ≡ length (spelling r.type) = omega (arith, length_read w rest r) in
    ap (λ i. take i w) n ∙ (ap (take (length (spelling r.type))) r.whole ∙ take-append_seam (spelling r.type) rest)

pub read_back : (w rest : List ℕ) (r : BeginsWithType 128 w rest) → drop (length w - length rest) w ≡ rest
read_back w rest r =
    let n : length w - length rest ≡ length (spelling r.type) = omega (arith, length_read w rest r) in
    ap (λ i. drop i w) n ∙ (ap (drop (length (spelling r.type))) r.whole ∙ drop-append_seam (spelling r.type) rest)

cut : (w rest prefix back : List ℕ) (r : BeginsWithType 128 w rest) → are_types (seen w) ≡ true → prefix ≡ spelling r.type → back ≡ rest → IsCutAfterFirst w prefix back r.type
cut w rest prefix back r e f b =
    let both_are : is_within_limits r.type (spelling r.type) && are_types (seen rest) ≡ true = sym (read_types w rest r) ∙ e in
    let is = text_of_type r.type prefix (sym f) (subst (λ (v : List ℕ). is_within_limits r.type v ≡ true) (sym f) (and_parts (is_within_limits r.type (spelling r.type)) (are_types (seen rest)) both_are).0) in
    record {
      checked = is.checked;
      type = is.type;
      are = ap (λ v. are_types (seen v)) b ∙ (and_parts (is_within_limits r.type (spelling r.type)) (are_types (seen rest)) both_are).1;
      listed = ap types_in (seen_read w rest r) ∙ ap₂ (λ t v. t ∷ types_in (seen v)) (sym is.type) (sym b);
    }

pub cut_after_first : (w rest prefix back : List ℕ) → are_types (seen w) ≡ true → (r : BeginsWithType 128 w rest) → prefix ≡ take (length w - length rest) w → back ≡ drop (length w - length rest) w → IsCutAfterFirst w prefix back r.type
cut_after_first w rest prefix back e r f b = cut w rest prefix back r e (f ∙ read_prefix w rest r) (b ∙ read_back w rest r)

-- ---- a text of one type

pub one_type_left : (w : List ℕ) → is_type w ≡ true → types_in (seen w) ≡ type_at w ∷ []
one_type_left w h =
    let whole = (spelling-type_at w h).0 in
    ap types_in (ap seen (sym whole ∙ sym (append-nil (spelling (type_at w)))) ∙ seen-spelling (type_at w) []) ∙ ap (λ us. type_at w ∷ us) (in_no_text [] refl)
