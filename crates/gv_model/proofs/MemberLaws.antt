-- Members are read where they were written.
use Rattle.std.proofs.Common.{ℕ, suc, ◌+◌, ◌-◌, ◌*◌, ◌<◌, ◌≤◌, ◌≡◌, List, [], ◌∷◌, ◌++◌, reverse, length, take, drop, Option, Some, None, refl, sym, ap, ap₂, ◌∙◌, arith, true, cond, ◌==◌, nat_le, nat_lt, le-leb, lt-ltb, append_assoc, append-nil, length-append, mul-le-mul, eq-eqb, mul_comm}
use Rattle.std.specs.Prelude.{option_and_then, is_some}
use Rattle.std.proofs.lemmas.List.{take_at, drop_at, reverse-append, length-reverse}
use Rattle.std.proofs.lemmas.Grind.{flat_map-append}
use Rattle.std.proofs.lemmas.Option.{same_Some, none-some}
use Rattle.gv_model.specs.Ty.{Ty, Types}
use Rattle.gv_model.specs.Ty.Types.{end, member}
use Rattle.gv_model.specs.Layout.{offset_width, fixed_size, fixed_end, alignment, round_up}
use Rattle.gv_model.specs.BasicValue.{number_in}
use Rattle.gv_model.specs.Children.{framing_offset}
use Rattle.gv_model.specs.Tuples.{member_spans, member_end, next_offset, span, tuple_spans, offset_count, members_end}
use Rattle.gv_model.specs.Parts.{Part}
use Rattle.gv_model.specs.Encode.{number_bytes, least_width, framed, body_from, open_ends_from, start_after, end_after, zeros}
use Rattle.gv_model.proofs.NumberBytes.{length-number_bytes, number_in-number_bytes, offset_width-least}
use Rattle.gv_model.proofs.PlacedParts.{end_from, placed, length-body_from, length-zeros}
use Rattle.gv_model.proofs.FramedArrays.{offsets, length-offsets, least_width_pos}

abbrev pub part_types : List Part → Types
part_types [] = end
part_types (x ∷ xs) = member x.0 (part_types xs)

-- a part of a fixed size has that size
abbrev pub HasSize : Option ℕ → Part → Type 0
HasSize None x = Unit {0}
HasSize (Some n) x = length x.1 ≡ n

abbrev pub HaveSizes : List Part → Type 0
HaveSizes [] = Unit {0}
HaveSizes (x ∷ xs) = HasSize (fixed_size x.0) x × HaveSizes xs

-- each member ends where it was written
abbrev RightEnds : ℕ → List ℕ → ℕ → ℕ → List Part → Type 0
RightEnds w b k p [] = Unit {0}
RightEnds w b k p (x ∷ xs) =
    (member_end w b k (start_after p x) (fixed_size x.0) (part_types xs) ≡ Some (end_after p x))
    × RightEnds w b (next_offset k (fixed_size x.0)) (end_after p x) xs

members-placed : (w : ℕ) (b : List ℕ) (xs : List Part) (k p : ℕ) → RightEnds w b k p xs → member_spans w b k (Some p) (part_types xs) ≡ placed p xs
unfolding member_spans
members-placed w b [] k p h = refl
members-placed w b (x ∷ xs) k p h =
    ap₂ ◌∷◌ (ap (λ (e : Option ℕ). (x.0, span (Some (start_after p x)) e)) h.0)
    (ap (λ (e : Option ℕ). member_spans w b (next_offset k (fixed_size x.0)) e (part_types xs)) h.0 ∙ members-placed w b xs (next_offset k (fixed_size x.0)) (end_after p x) h.1)

-- members of fixed size: where they end, and that they are read there
fixed_read : (w : ℕ) (b : List ℕ) (xs : List Part) (k p q : ℕ) → HaveSizes xs → fixed_end (part_types xs) p ≡ Some q → (end_from p xs ≡ q) × RightEnds w b k p xs
unfolding fixed_end
fixed_read w b [] k p q h e = (same_Some p q e, tt)
fixed_read w b (x ∷ xs) k p q h e = go (fixed_size x.0) h.0 e (fixed_read w b xs)
  where
    go : (f : Option ℕ) → HasSize f x → option_and_then (λ s. fixed_end (part_types xs) (round_up (alignment x.0) p + s)) f ≡ Some q
        → ((k p q : ℕ) → HaveSizes xs → fixed_end (part_types xs) p ≡ Some q → (end_from p xs ≡ q) × RightEnds w b k p xs)
        → (end_from (end_after p x) xs ≡ q) × ((member_end w b k (start_after p x) f (part_types xs) ≡ Some (end_after p x)) × RightEnds w b (next_offset k f) (end_after p x) xs)
    go None size g rest = absurd (none-some q g)
    go (Some n) size g rest =
        let same : start_after p x + n ≡ end_after p x = ap (λ m. start_after p x + m) (sym size) in
        let more = rest k (end_after p x) q h.1 (ap (fixed_end (part_types xs)) (sym same) ∙ g) in
        (more.0, (ap Some same, more.1))

three_parts : (body late o early : List ℕ) → body ++ ((late ++ (o ++ [])) ++ early) ≡ (body ++ late) ++ (o ++ early)
three_parts body late o early = simp (append_assoc, append-nil)

-- offset k from the end
offset_read : (w : ℕ) (body b pre : List ℕ) (o : ℕ) (post : List ℕ) (k : ℕ) → 0 < w → length pre ≡ k → b ≡ body ++ offsets w (reverse (pre ++ o ∷ post)) → framing_offset w b k ≡ Some o
offset_read w body b pre o post k h g whole =
    let late = offsets w (reverse post) in
    let early = offsets w (reverse pre) in
    let turned : reverse (pre ++ o ∷ post) ≡ (reverse post ++ o ∷ []) ++ reverse pre = reverse-append pre (o ∷ post) ∙ ap (λ ys. ys ++ reverse pre) (reverse-append (o ∷ []) post) in
    let parts : offsets w (reverse (pre ++ o ∷ post)) ≡ (late ++ (number_bytes w o ++ [])) ++ early =
    ap (offsets w) turned ∙ (flat_map-append (number_bytes w) (reverse post ++ o ∷ []) (reverse pre) ∙ ap (λ ys. ys ++ early) (flat_map-append (number_bytes w) (reverse post) (o ∷ []))) in
    let split : b ≡ (body ++ late) ++ (number_bytes w o ++ early) = whole ∙ (ap (λ ys. body ++ ys) parts ∙ three_parts body late (number_bytes w o) early) in
    let early_size : length early ≡ k * w = length-offsets w (reverse pre) ∙ ap (λ n. n * w) (length-reverse pre ∙ g) in
    let size : length b ≡ length (body ++ late) + (w + k * w) = ap length split ∙ (length-append (body ++ late) (number_bytes w o ++ early) ∙ ap (λ n. length (body ++ late) + n) (length-append (number_bytes w o) early ∙ ap₂ ◌+◌ (length-number_bytes w o) early_size)) in
    let wide : w * (k + 1) ≡ w + k * w = omega arith in
    let some : nat_lt 0 w ≡ true = lt-ltb 0 w h in
    let room : nat_le (w * (k + 1)) (length b) ≡ true = le-leb (w * (k + 1)) (length b) (omega arith) in
    let number : number_in (take w (drop (length b - w * (k + 1)) b)) ≡ o =
    ap (λ ys. number_in (take w ys)) (ap (drop (length b - w * (k + 1))) split ∙ drop_at (body ++ late) (number_bytes w o ++ early) (length b - w * (k + 1)) (omega arith))
    ∙ (ap number_in (take_at (number_bytes w o) early w (length-number_bytes w o)) ∙ number_in-number_bytes w o h) in
    rw (some, room, number) refl

-- the ends that are written, in order, and how the bytes read
module _ (w : ℕ) (b body : List ℕ) (ends : List ℕ) (whole : b ≡ body ++ offsets w (reverse ends)) (wide : 0 < length ends → 0 < w) where
  size_of_whole : length b ≡ length body + length ends * w
  size_of_whole = ap length whole ∙ (length-append body (offsets w (reverse ends)) ∙ ap (λ n. length body + n) (length-offsets w (reverse ends) ∙ ap (λ n. n * w) (length-reverse ends)))

  last_ends : (k : ℕ) (x : Part) (p : ℕ) (f : Option ℕ) → HasSize f x → end_after p x ≡ length body → k ≡ length ends → member_end w b k (start_after p x) f end ≡ Some (end_after p x)
  last_ends k x p (Some n) size g h = ap (λ m. Some (start_after p x + m)) (sym size)
  last_ends k x p None size g h =
      let total = size_of_whole in
      let same : w * k ≡ length ends * w = ap (λ n. w * n) h ∙ mul_comm w (length ends) in
      let room : nat_le (w * k) (length b) ≡ true = le-leb (w * k) (length b) (omega arith) in
      let place : length b - w * k ≡ end_after p x = omega arith in
      rw (room, place) refl

  wide_here : (pre : List ℕ) (o : ℕ) (post : List ℕ) → ends ≡ pre ++ o ∷ post → 0 < w
  wide_here pre o post e = wide (let n : length ends ≡ length pre + suc (length post) = ap length e ∙ length-append pre (o ∷ post) in omega arith)

  open_ends : (xs : List Part) (pre : List ℕ) (k p : ℕ) → HaveSizes xs → length pre ≡ k → ends ≡ pre ++ open_ends_from p xs → end_from p xs ≡ length body → RightEnds w b k p xs
  unfolding open_ends_from
  open_ends [] pre k p h g e f = tt
  open_ends (x ∷ []) pre k p h g e f = (last_ends k x p (fixed_size x.0) h.0 f (sym g ∙ ap length (sym (append-nil pre) ∙ sym e)), tt)
  open_ends (x ∷ y ∷ xs) pre k p h g e f = go (fixed_size x.0) h.0 e (λ pre' k'. open_ends (y ∷ xs) pre' k' (end_after p x) h.1)
    where
      go : (s : Option ℕ) → HasSize s x → ends ≡ pre ++ cond (is_some s) (open_ends_from (end_after p x) (y ∷ xs)) (end_after p x ∷ open_ends_from (end_after p x) (y ∷ xs))
          → ((pre' : List ℕ) (k' : ℕ) → length pre' ≡ k' → ends ≡ pre' ++ open_ends_from (end_after p x) (y ∷ xs) → end_from (end_after p x) (y ∷ xs) ≡ length body → RightEnds w b k' (end_after p x) (y ∷ xs))
          → (member_end w b k (start_after p x) s (part_types (y ∷ xs)) ≡ Some (end_after p x)) × RightEnds w b (next_offset k s) (end_after p x) (y ∷ xs)
      go (Some n) size r rest = (ap (λ m. Some (start_after p x + m)) (sym size), rest pre k g r f)
      go None size r rest =
          let more = open_ends_from (end_after p x) (y ∷ xs) in (
            offset_read w body b pre (end_after p x) more k (wide_here pre (end_after p x) more r) g (whole ∙ ap (λ ys. body ++ offsets w (reverse ys)) r),
            rest (pre ++ end_after p x ∷ []) (suc k) (length-append pre (end_after p x ∷ []) ∙ (let n : length pre + 1 ≡ suc k = omega arith in n)) (r ∙ sym (append_assoc pre (end_after p x ∷ []) more)) f,
          )

-- whatever the width is that is read, the offsets are written in it
same_width : (body ends : List ℕ) → framed body (reverse ends) ≡ body ++ offsets (offset_width (length (framed body (reverse ends)))) (reverse ends)
unfolding framed
same_width body ends = go (reverse ends)
  where
    go : (es : List ℕ) → body ++ offsets (least_width (length body) (length es)) es ≡ body ++ offsets (offset_width (length (body ++ offsets (least_width (length body) (length es)) es))) es
    go [] = refl
    go (e ∷ es) =
        let n = length (e ∷ es) in
        let least = least_width (length body) n in
        let size : length (body ++ offsets least (e ∷ es)) ≡ length body + least * n = length-append body (offsets least (e ∷ es)) ∙ ap (λ m. length body + m) (length-offsets least (e ∷ es) ∙ mul_comm n least) in
        let width : offset_width (length (body ++ offsets least (e ∷ es))) ≡ least = ap offset_width size ∙ offset_width-least (length body) n (omega arith) in
        ap (λ (v : ℕ). body ++ offsets v (e ∷ es)) (sym width)

pub offset_width_pos : (n : ℕ) → 0 < n → 0 < offset_width n
unfolding offset_width
offset_width_pos n h = grind arith

framed_wide : (body ends : List ℕ) → 0 < length ends → 0 < length (framed body (reverse ends))
unfolding framed
framed_wide body ends h =
    let w = least_width (length body) (length (reverse ends)) in
    let pos : 0 < w = least_width_pos (length body) (length (reverse ends)) in
    let total : length (framed body (reverse ends)) ≡ length body + length (reverse ends) * w = length-append body (offsets w (reverse ends)) ∙ ap (λ n. length body + n) (length-offsets w (reverse ends)) in
    let count : 1 ≤ length (reverse ends) = omega (arith, length-reverse ends) in
    let some : 1 * 1 ≤ length (reverse ends) * w = mul-le-mul count pos in
    omega arith

-- a tuple with offsets
pub open_tuple : (t : Ty) (xs : List Part) → HaveSizes xs → fixed_size t ≡ None → tuple_spans t (part_types xs) (framed (body_from 0 xs) (reverse (open_ends_from 0 xs))) ≡ placed 0 xs
open_tuple t xs h e =
    let body = body_from 0 xs in
    let ends = open_ends_from 0 xs in
    let b = framed body (reverse ends) in
    let w = offset_width (length b) in
    let all : end_from 0 xs ≡ length body = sym (length-body_from 0 xs) ∙ (let n : 0 + length body ≡ length body = omega arith in n) in
    rw e (members-placed w b xs 0 0 (open_ends w b body ends (same_width body ends) (λ some. offset_width_pos (length b) (framed_wide body ends some)) xs [] 0 0 h refl refl all))

-- a type whose members, if they are of fixed size, end within it
abbrev pub HoldsMembers : Option ℕ → List Part → Type 0
HoldsMembers None xs = Unit {0}
HoldsMembers (Some n) xs = (q : ℕ) × (fixed_end (part_types xs) 0 ≡ Some q) × (q ≤ n)

body_within : (xs : List Part) (n : ℕ) → HaveSizes xs → HoldsMembers (Some n) xs → length (body_from 0 xs) ≤ n
body_within xs n h g = let ends = (fixed_read 0 [] xs 0 0 g.0 h g.1).0 in omega (arith, length-body_from 0 xs)

pub padded_size : (xs : List Part) (n : ℕ) → HaveSizes xs → HoldsMembers (Some n) xs → length (body_from 0 xs ++ zeros (n - length (body_from 0 xs))) ≡ n
padded_size xs n h g = let within = body_within xs n h g in omega (arith, length-append (body_from 0 xs) (zeros (n - length (body_from 0 xs))), length-zeros (n - length (body_from 0 xs)))

-- a tuple of fixed size
pub fixed_tuple : (t : Ty) (xs : List Part) (n : ℕ) → HaveSizes xs → fixed_size t ≡ Some n → HoldsMembers (Some n) xs → tuple_spans t (part_types xs) (body_from 0 xs ++ zeros (n - length (body_from 0 xs))) ≡ placed 0 xs
fixed_tuple t xs n h e g =
    let b = body_from 0 xs ++ zeros (n - length (body_from 0 xs)) in
    let same : (length b == n) ≡ true = eq-eqb (length b) n (padded_size xs n h g) in
    rw (e, same) (members-placed (offset_width (length b)) b xs 0 0 (fixed_read (offset_width (length b)) b xs 0 0 g.0 h g.1).1)

offset_count-parts : (p : ℕ) (xs : List Part) → offset_count (part_types xs) ≡ length (open_ends_from p xs)
unfolding offset_count open_ends_from
offset_count-parts p [] = refl
offset_count-parts p (x ∷ []) = refl
offset_count-parts p (x ∷ y ∷ xs) = go (fixed_size x.0) (offset_count-parts (end_after p x) (y ∷ xs))
  where
    go : (f : Option ℕ) → offset_count (part_types (y ∷ xs)) ≡ length (open_ends_from (end_after p x) (y ∷ xs))
        → next_offset (offset_count (part_types (y ∷ xs))) f ≡ length (cond (is_some f) (open_ends_from (end_after p x) (y ∷ xs)) (end_after p x ∷ open_ends_from (end_after p x) (y ∷ xs)))
    go (Some n) h = h
    go None h = ap suc h

-- the body of a tuple with offsets ends where its members do
pub open_body : (xs : List Part) → members_end None (part_types xs) (framed (body_from 0 xs) (reverse (open_ends_from 0 xs))) ≡ Some (length (body_from 0 xs))
open_body xs =
    let body = body_from 0 xs in
    let ends = open_ends_from 0 xs in
    let b = framed body (reverse ends) in
    let w = offset_width (length b) in
    let total : length b ≡ length body + length ends * w = size_of_whole w b body ends (same_width body ends) (λ some. offset_width_pos (length b) (framed_wide body ends some)) in
    let same : w * offset_count (part_types xs) ≡ length ends * w = ap (λ n. w * n) (offset_count-parts 0 xs) ∙ mul_comm w (length ends) in
    let room : nat_le (w * offset_count (part_types xs)) (length b) ≡ true = le-leb (w * offset_count (part_types xs)) (length b) (omega arith) in
    let place : length b - w * offset_count (part_types xs) ≡ length body = omega arith in
    rw (room, place) refl
