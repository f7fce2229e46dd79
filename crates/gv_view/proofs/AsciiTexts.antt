-- Object paths and signatures are ASCII, and so UTF-8.
use Rattle.std.proofs.Common.{◌≡◌, ◌<◌, ℕ, Bool, true, false, ◌==◌, not, List, [], ◌∷◌, refl, arith}
use Rattle.std.specs.List.{list_any}
use Rattle.std.specs.Str.{is_utf8, IsAscii}
use Rattle.std.proofs.lemmas.Bool.{and_parts, false≢true}
use Rattle.std.proofs.lemmas.Str.{IsUtf8-from_ascii, is_utf8-from_IsUtf8}
use Rattle.std.proofs.lemmas.Str.Ascii.{IsAscii-nil, IsAscii-cons}
use Rattle.gv_model.specs.Ty.{Ty, Basic, spelling, letter as letter_of}
use Rattle.gv_model.specs.Ty.Ty.{basic, tuple}
use Rattle.gv_model.specs.TypeText.{TypeMark, mark, Seen, seen, mark_before, array_before, maybe_before, entry_before, member_before, tuple_type_before, is_within_limits}
use Rattle.gv_model.specs.TypeText.TypeMark.{letter, of_variant, of_array, of_maybe, open_tuple, close_tuple, open_entry, close_entry, other}
use Rattle.gv_model.specs.TypeText.Seen.{nothing, type, tuple_end, entry_end, wrong}
use Rattle.gv_model.specs.Texts.{is_object_path, are_types, is_signature}
use Rattle.gv_model.proofs.LowBytes.{path_ascii}
use Rattle.gv_model.proofs.TypeTextParts.{spelling_is_ascii}
use Rattle.gv_model.proofs.TypeTextSound.{byte_of_mark, IsByteOf}

pub ascii_is_utf8 : (s : List ℕ) → IsAscii s → is_utf8 s ≡ true
ascii_is_utf8 s h = is_utf8-from_IsUtf8 s (IsUtf8-from_ascii s h)

-- ---- object paths

pub path_is_utf8 : (s : List ℕ) → is_object_path s ≡ true → is_utf8 s ≡ true
path_is_utf8 s h = ascii_is_utf8 s (path_ascii s h)

-- ---- signatures

-- nothing that was seen is wrong
abbrev is_right : Seen → Bool
is_right nothing = true
is_right (type t s) = is_right s
is_right (tuple_end s) = is_right s
is_right (entry_end s) = is_right s
is_right wrong = false

array_right : (s : Seen) → is_right (array_before s) ≡ true → is_right s ≡ true
array_right (type t s) h = h
array_right _ h = absurd (false≢true h)

maybe_right : (s : Seen) → is_right (maybe_before s) ≡ true → is_right s ≡ true
maybe_right (type t s) h = h
maybe_right _ h = absurd (false≢true h)

entry_right : (s : Seen) → is_right (entry_before s) ≡ true → is_right s ≡ true
entry_right (type (basic k) (type t (entry_end s))) h = h
entry_right _ h = absurd (false≢true h)

member_right : (t : Ty) (s : Seen) → is_right (member_before t s) ≡ true → is_right s ≡ true
member_right t (type (tuple ts) s) h = h
member_right t _ h = absurd (false≢true h)

tuple_right : (s : Seen) → is_right (tuple_type_before s) ≡ true → is_right s ≡ true
unfolding tuple_type_before
tuple_right (tuple_end s) h = h
tuple_right (type t s) h = tuple_right s (member_right t (tuple_type_before s) h)
tuple_right nothing h = absurd (false≢true h)
tuple_right (entry_end s) h = absurd (false≢true h)
tuple_right wrong h = h

letter_low : (k : Basic) → letter_of k < 128
unfolding spelling
letter_low k = spelling_is_ascii (basic k) 0

-- a byte that reads as it should is ASCII, and what comes after it reads as it should
before_right : (m : TypeMark) (s : Seen) (c : ℕ) → IsByteOf m c → is_right (mark_before m s) ≡ true → (c < 128) × (is_right s ≡ true)
before_right (letter k) s c e h = let low = letter_low k in (omega arith, h)
before_right of_variant s c e h = (omega arith, h)
before_right of_array s c e h = (omega arith, array_right s h)
before_right of_maybe s c e h = (omega arith, maybe_right s h)
before_right open_tuple s c e h = (omega arith, tuple_right s h)
before_right close_tuple s c e h = (omega arith, h)
before_right open_entry s c e h = (omega arith, entry_right s h)
before_right close_entry s c e h = (omega arith, h)
before_right other s c e h = absurd (false≢true h)

right_is_ascii : (w : List ℕ) → is_right (seen w) ≡ true → IsAscii w
unfolding seen
right_is_ascii [] h = IsAscii-nil
right_is_ascii (c ∷ w) h =
    let parts = before_right (mark c) (seen w) c (byte_of_mark c) h in
    IsAscii-cons c w parts.0 (right_is_ascii w parts.1)

types_right : (s : Seen) → are_types s ≡ true → is_right s ≡ true
types_right nothing h = refl
types_right (type t s) h = types_right s (and_parts (is_within_limits t (spelling t)) (are_types s) h).1
types_right _ h = absurd (false≢true h)

pub signature_is_utf8 : (s : List ℕ) → is_signature s ≡ true → is_utf8 s ≡ true
signature_is_utf8 s h =
    let parts = and_parts (not (list_any (λ c. c == 109) s)) (are_types (seen s)) h in
    ascii_is_utf8 s (right_is_ascii s (types_right (seen s) parts.1))
