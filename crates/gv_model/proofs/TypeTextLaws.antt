-- A text of a type is read as that type, and no other text is.
use Rattle.std.proofs.Common.{ℕ, ◌≡◌, List, [], ◌∷◌, ◌++◌, Some, refl, sym, ap, ◌∙◌, subst, append_assoc, append-nil, true, ◌≤◌, length, arith}
use Rattle.std.proofs.lemmas.List.{append_cancel_left}
use Rattle.gv_model.specs.Ty.{Ty, Basic, Types, spelling, spellings, letter as letter_of, nesting}
use Rattle.gv_model.specs.Ty.Ty.{basic, variant, array, maybe, tuple, entry}
use Rattle.gv_model.specs.Ty.Types.{end, member}
use Rattle.gv_model.specs.Ty.Basic.{boolean, byte, int16, uint16, int32, uint32, int64, uint64, handle, double, string, path, signature}
use Rattle.gv_model.specs.TypeText.{Seen, type_of_text, seen, mark, tuple_type_before, is_within_limits, mark_before, array_before, maybe_before, entry_before, member_before}
use Rattle.gv_model.specs.TypeText.TypeMark.{letter}
use Rattle.gv_model.specs.TypeText.Seen.{nothing, type, tuple_end, entry_end}

pub mark_letter : (k : Basic) → mark (letter_of k) ≡ letter k
unfolding mark
mark_letter boolean = refl
mark_letter byte = refl
mark_letter int16 = refl
mark_letter uint16 = refl
mark_letter int32 = refl
mark_letter uint32 = refl
mark_letter int64 = refl
mark_letter uint64 = refl
mark_letter handle = refl
mark_letter double = refl
mark_letter string = refl
mark_letter path = refl
mark_letter signature = refl

-- a letter is read as its type
seen_letter : (k : Basic) (x : List ℕ) → seen (letter_of k ∷ x) ≡ type (basic k) (seen x)
unfolding seen
seen_letter k x = ap (λ m. mark_before m (seen x)) (mark_letter k)

-- types one after the other
types_before : Types → Seen → Seen
types_before end s = s
types_before (member t ts) s = type t (types_before ts s)

tuple_of_types : (ts : Types) (s : Seen) → tuple_type_before (types_before ts (tuple_end s)) ≡ type (tuple ts) s
unfolding tuple_type_before types_before
tuple_of_types end s = refl
tuple_of_types (member t ts) s = ap (member_before t) (tuple_of_types ts s)

seen_open_entry : (x : List ℕ) → seen (123 ∷ x) ≡ entry_before (seen x)
unfolding seen mark
seen_open_entry x = refl

basic_case : (k : Basic) (x : List ℕ) → seen (spelling (basic k) ++ x) ≡ type (basic k) (seen x)
unfolding spelling
basic_case k x = seen_letter k x

variant_case : (x : List ℕ) → seen (spelling variant ++ x) ≡ type variant (seen x)
unfolding spelling seen mark
variant_case x = refl

array_case : (t : Ty) (x : List ℕ) → seen (spelling t ++ x) ≡ type t (seen x) → seen (spelling (array t) ++ x) ≡ type (array t) (seen x)
unfolding spelling seen mark
array_case t x h = ap array_before h

maybe_case : (t : Ty) (x : List ℕ) → seen (spelling t ++ x) ≡ type t (seen x) → seen (spelling (maybe t) ++ x) ≡ type (maybe t) (seen x)
unfolding spelling seen mark
maybe_case t x h = ap maybe_before h

seen_tuple_end : (x : List ℕ) → seen (41 ∷ x) ≡ tuple_end (seen x)
unfolding seen mark
seen_tuple_end x = refl

seen_entry_end : (x : List ℕ) → seen (125 ∷ x) ≡ entry_end (seen x)
unfolding seen mark
seen_entry_end x = refl

tuple_case : (ts : Types) (x : List ℕ) → seen (spellings ts ++ 41 ∷ x) ≡ types_before ts (seen (41 ∷ x)) → seen (spelling (tuple ts) ++ x) ≡ type (tuple ts) (seen x)
unfolding spelling seen mark
tuple_case ts x h = ap (λ y. tuple_type_before (seen y)) (append_assoc (spellings ts) (41 ∷ []) x) ∙ (ap tuple_type_before h ∙ tuple_of_types ts (seen x))

entry_case : (k : Basic) (t : Ty) (x : List ℕ) → seen (spelling t ++ 125 ∷ x) ≡ type t (seen (125 ∷ x)) → seen (spelling (entry k t) ++ x) ≡ type (entry k t) (seen x)
unfolding spelling
entry_case k t x h =
    let inner : seen (letter_of k ∷ (spelling t ++ 125 ∷ x)) ≡ type (basic k) (type t (entry_end (seen x)))
    = seen_letter k (spelling t ++ 125 ∷ x) ∙ ap (type (basic k)) (h ∙ ap (type t) (seen_entry_end x)) in
    ap (λ y. seen (123 ∷ letter_of k ∷ y)) (append_assoc (spelling t) (125 ∷ []) x) ∙ (seen_open_entry (letter_of k ∷ (spelling t ++ 125 ∷ x)) ∙ ap entry_before inner)

none_case : (x : List ℕ) → seen (spellings end ++ x) ≡ types_before end (seen x)
unfolding spelling types_before
none_case x = refl

member_case : (t : Ty) (ts : Types) (x : List ℕ) → seen (spelling t ++ (spellings ts ++ x)) ≡ type t (seen (spellings ts ++ x)) → seen (spellings ts ++ x) ≡ types_before ts (seen x) → seen (spellings (member t ts) ++ x) ≡ types_before (member t ts) (seen x)
unfolding spelling types_before
member_case t ts x h g = ap seen (append_assoc (spelling t) (spellings ts) x) ∙ (h ∙ ap (type t) g)

mutual
  -- whatever follows, the text of a type is read as that type
  pub seen-spelling : (t : Ty) (x : List ℕ) → seen (spelling t ++ x) ≡ type t (seen x)
  seen-spelling (basic k) x = basic_case k x
  seen-spelling variant x = variant_case x
  seen-spelling (array t) x = array_case t x (seen-spelling t x)
  seen-spelling (maybe t) x = maybe_case t x (seen-spelling t x)
  seen-spelling (tuple ts) x = tuple_case ts x (seen-spellings ts (41 ∷ x))
  seen-spelling (entry k t) x = entry_case k t x (seen-spelling t (125 ∷ x))

  seen-spellings : (ts : Types) (x : List ℕ) → seen (spellings ts ++ x) ≡ types_before ts (seen x)
  seen-spellings end x = none_case x
  seen-spellings (member t ts) x = member_case t ts x (seen-spelling t (spellings ts ++ x)) (seen-spellings ts x)

type_parts : (t u : Ty) (s r : Seen) → type t s ≡ type u r → t ≡ u
type_parts t u s r e = cc

-- the text of a type begins no other type's text
pub one_reading : (t u : Ty) (x y : List ℕ) → spelling t ++ x ≡ spelling u ++ y → (t ≡ u) × (x ≡ y)
one_reading t u x y e =
    let same : t ≡ u = type_parts t u (seen x) (seen y) (sym (seen-spelling t x) ∙ (ap seen e ∙ seen-spelling u y)) in
    (same, append_cancel_left (spelling t) x y (subst (λ (v : Ty). spelling t ++ x ≡ spelling v ++ y) (sym same) e))

pub seen_type : (t : Ty) → seen (spelling t) ≡ type t nothing
unfolding seen
seen_type t = ap seen (sym (append-nil (spelling t))) ∙ seen-spelling t []

-- the text of a type within the limits is that type
pub type_of_text-spelling : (t : Ty) → is_within_limits t (spelling t) ≡ true → type_of_text (spelling t) ≡ Some t
unfolding type_of_text
type_of_text-spelling t h = rw (seen_type t, h) refl

-- a type's text tells the type
pub one_spelling : (t u : Ty) → spelling t ≡ spelling u → t ≡ u
one_spelling t u e = (one_reading t u [] [] (ap (λ w. w ++ []) e)).0

pub limits_of : (t : Ty) (w : List ℕ) → is_within_limits t w ≡ true → (nesting t ≤ 128) × (length w ≤ 67108864)
limits_of t w h = (grind arith, grind arith)

pub within_limits : (t : Ty) (w : List ℕ) → nesting t ≤ 128 → length w ≤ 67108864 → is_within_limits t w ≡ true
within_limits t w h g = grind arith
