-- What is read as a type is that type's text.
use Rattle.std.proofs.Common.{ℕ, ◌≡◌, List, [], ◌∷◌, ◌++◌, Some, None, refl, sym, ap, ◌∙◌, subst, append_assoc, append-nil, Bool, true, false, cond, ◌==◌, if◌then◌else◌, eqb-true}
use Rattle.std.specs.Prelude.{◌↔◌}
use Rattle.std.proofs.lemmas.Option.{option_and_then_some, cond_some, same_Some, none-some}
use Rattle.gv_model.specs.Ty.{Ty, spelling, spellings, letter as letter_of}
use Rattle.gv_model.specs.Ty.Ty.{basic, tuple}
use Rattle.gv_model.specs.TypeText.{TypeMark, Seen, type_of_text, seen, mark, tuple_type_before, is_within_limits, one_type, mark_before, array_before, maybe_before, entry_before, member_before}
use Rattle.gv_model.specs.TypeText.TypeMark.{letter, of_variant, of_array, of_maybe, open_tuple, close_tuple, open_entry, close_entry, other}
use Rattle.gv_model.specs.TypeText.Seen.{nothing, type, tuple_end, entry_end, wrong}
use Rattle.gv_model.proofs.TypeTextLaws.{type_of_text-spelling}
use Rattle.gv_model.proofs.ListLaws.{same_tail}

-- the byte of a mark
abbrev pub IsByteOf : TypeMark → ℕ → Type 0
IsByteOf (letter k) c = c ≡ letter_of k
IsByteOf of_variant c = c ≡ 118
IsByteOf of_array c = c ≡ 97
IsByteOf of_maybe c = c ≡ 109
IsByteOf open_tuple c = c ≡ 40
IsByteOf close_tuple c = c ≡ 41
IsByteOf open_entry c = c ≡ 123
IsByteOf close_entry c = c ≡ 125
IsByteOf other c = Unit {0}

either : (c n : ℕ) (m rest : TypeMark) → (c ≡ n → IsByteOf m c) → IsByteOf rest c → IsByteOf (if c == n then m else rest) c
either c n m rest f h = go (c == n) refl
  where
    go : (b : Bool) → (c == n) ≡ b → IsByteOf (cond b m rest) c
    go true e = f (eqb-true c n e)
    go false e = h

pub byte_of_mark : (c : ℕ) → IsByteOf (mark c) c
unfolding mark
byte_of_mark c =
    either c 98 _ _ (λ e. e) (either c 121 _ _ (λ e. e) (either c 110 _ _ (λ e. e) (either c 113 _ _ (λ e. e)
    (either c 105 _ _ (λ e. e) (either c 117 _ _ (λ e. e) (either c 120 _ _ (λ e. e) (either c 116 _ _ (λ e. e)
    (either c 104 _ _ (λ e. e) (either c 100 _ _ (λ e. e) (either c 115 _ _ (λ e. e) (either c 111 _ _ (λ e. e)
    (either c 103 _ _ (λ e. e) (either c 118 _ _ (λ e. e) (either c 97 _ _ (λ e. e) (either c 109 _ _ (λ e. e)
    (either c 40 _ _ (λ e. e) (either c 41 _ _ (λ e. e) (either c 123 _ _ (λ e. e) (either c 125 _ _ (λ e. e) tt)))))))))))))))))))

-- the text is that of what is seen
abbrev pub Shows : Seen → List ℕ → Type 0
Shows nothing w = w ≡ []
Shows (type t s) w = (r : List ℕ) × (w ≡ spelling t ++ r) × Shows s r
Shows (tuple_end s) w = (r : List ℕ) × (w ≡ 41 ∷ r) × Shows s r
Shows (entry_end s) w = (r : List ℕ) × (w ≡ 125 ∷ r) × Shows s r
Shows wrong w = Unit {0}

array_shows : (s : Seen) (w : List ℕ) → Shows s w → Shows (array_before s) (97 ∷ w)
unfolding spelling
array_shows (type t s) w h = (h.0, ap (λ x. 97 ∷ x) h.1, h.2)
array_shows _ w h = tt

maybe_shows : (s : Seen) (w : List ℕ) → Shows s w → Shows (maybe_before s) (109 ∷ w)
unfolding spelling
maybe_shows (type t s) w h = (h.0, ap (λ x. 109 ∷ x) h.1, h.2)
maybe_shows _ w h = tt

entry_shows : (s : Seen) (w : List ℕ) → Shows s w → Shows (entry_before s) (123 ∷ w)
unfolding spelling
entry_shows (type (basic k) (type t (entry_end s))) w h =
    let tail = h.2.2 in
    (tail.0, ap (λ x. 123 ∷ x) (h.1 ∙ ap (λ x. letter_of k ∷ x) (h.2.1 ∙ (ap (λ x. spelling t ++ x) tail.1 ∙ sym (append_assoc (spelling t) (125 ∷ []) tail.0)))), tail.2)
entry_shows _ w h = tt

member_shows : (t : Ty) (s : Seen) (w r : List ℕ) → w ≡ spelling t ++ r → Shows s (40 ∷ r) → Shows (member_before t s) (40 ∷ w)
unfolding spelling
member_shows t (type (tuple ts) s) w r e h =
    (h.0, ap (λ x. 40 ∷ x) (e ∙ (ap (λ x. spelling t ++ x) (same_tail h.1) ∙ (sym (append_assoc (spelling t) (spellings ts ++ 41 ∷ []) h.0) ∙ ap (λ x. x ++ h.0) (sym (append_assoc (spelling t) (spellings ts) (41 ∷ [])))))), h.2)
member_shows t _ w r e h = tt

tuple_shows : (s : Seen) (w : List ℕ) → Shows s w → Shows (tuple_type_before s) (40 ∷ w)
unfolding spelling tuple_type_before
tuple_shows (tuple_end s) w h = (h.0, ap (λ x. 40 ∷ x) h.1, h.2)
tuple_shows (type t s) w h = member_shows t (tuple_type_before s) w h.0 h.1 (tuple_shows s h.0 h.2)
tuple_shows nothing w h = tt
tuple_shows (entry_end s) w h = tt
tuple_shows wrong w h = tt

at_byte : (s : Seen) (c d : ℕ) (w : List ℕ) → c ≡ d → Shows s (d ∷ w) → Shows s (c ∷ w)
at_byte s c d w e h = subst (λ (x : ℕ). Shows s (x ∷ w)) (sym e) h

before_shows : (m : TypeMark) (s : Seen) (c : ℕ) (w : List ℕ) → IsByteOf m c → Shows s w → Shows (mark_before m s) (c ∷ w)
unfolding spelling
before_shows (letter k) s c w e h = (w, ap (λ x. x ∷ w) e, h)
before_shows of_variant s c w e h = (w, ap (λ x. x ∷ w) e, h)
before_shows of_array s c w e h = at_byte (array_before s) c 97 w e (array_shows s w h)
before_shows of_maybe s c w e h = at_byte (maybe_before s) c 109 w e (maybe_shows s w h)
before_shows open_tuple s c w e h = at_byte (tuple_type_before s) c 40 w e (tuple_shows s w h)
before_shows close_tuple s c w e h = (w, ap (λ x. x ∷ w) e, h)
before_shows open_entry s c w e h = at_byte (entry_before s) c 123 w e (entry_shows s w h)
before_shows close_entry s c w e h = (w, ap (λ x. x ∷ w) e, h)
before_shows other s c w e h = tt

pub seen_shows : (w : List ℕ) → Shows (seen w) w
unfolding seen
seen_shows [] = refl
seen_shows (c ∷ w) = before_shows (mark c) (seen w) c w (byte_of_mark c) (seen_shows w)

one_shows : (s : Seen) (w : List ℕ) (t : Ty) → Shows s w → one_type s ≡ Some t → spelling t ≡ w
one_shows (type u nothing) w t h e = let same : u ≡ t = same_Some u t e in ap spelling (sym same) ∙ (sym (append-nil (spelling u)) ∙ (ap (λ x. spelling u ++ x) (sym h.2) ∙ sym h.1))
one_shows _ w t h e = absurd (none-some t e)

-- a text that is read as a type within the limits is its spelling
pub spelling_of_read : (w : List ℕ) (t : Ty) → type_of_text w ≡ Some t → (spelling t ≡ w) × (is_within_limits t w ≡ true)
unfolding type_of_text
spelling_of_read w t e =
    option_and_then_some (λ u. cond (is_within_limits u w) (Some u) None) (one_type (seen w)) t e
    (λ u is_one chosen. let parts = cond_some (is_within_limits u w) u t chosen in
    (one_shows (seen w) w t (seen_shows w) (is_one ∙ ap Some parts.1), subst (λ (v : Ty). is_within_limits v w ≡ true) parts.1 parts.0))

-- a text has a type exactly where it is that type's spelling within the limits
pub type_where_spelled : (w : List ℕ) (t : Ty) → (type_of_text w ≡ Some t) ↔ ((spelling t ≡ w) × (is_within_limits t w ≡ true))
type_where_spelled w t = (spelling_of_read w t, λ h. ap type_of_text (sym h.0) ∙ type_of_text-spelling t (subst (λ (v : List ℕ). is_within_limits t v ≡ true) (sym h.0) h.1))
