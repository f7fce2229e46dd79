-- An array of elements of no fixed size is normal exactly where its table is whole and its elements lie, and are, as written.
use Rattle.std.proofs.Common.{ℕ, suc, ◌+◌, ◌-◌, ◌*◌, ◌/◌, ◌%◌, ◌<◌, ◌≤◌, ◌≡◌, ◌↔◌, List, [], ◌∷◌, ◌++◌, length, take, drop, slice_range, Option, Some, None, refl, sym, ap, ap₂, ◌∙◌, subst, arith, append-nil, length-append, length-drop, div-add-mod', mul_comm, mul-le-mul}
use Rattle.std.proofs.Math.Nat.{mul-mod_left, mul-div_cancel}
use Rattle.std.proofs.Math.Seq.{drop-append_seam, take-append_seam}
use Rattle.std.proofs.lemmas.List.{length-take-le, take-append-drop}
use Rattle.gv_model.specs.Ty.{Ty}
use Rattle.gv_model.specs.Ty.Ty.{array}
use Rattle.gv_model.specs.Tree.{nodes}
use Rattle.gv_model.specs.Decode.{decode}
use Rattle.gv_model.specs.Layout.{alignment, fixed_size, round_up, offset_width}
use Rattle.gv_model.specs.BasicValue.{number_in}
use Rattle.gv_model.specs.Arrays.{numbers_in, elements_end}
use Rattle.gv_model.specs.Parts.{Part, parts}
use Rattle.gv_model.specs.Encode.{packed, array_bytes, framed, body_from, ends_from, end_after, start_after, least_width}
use Rattle.gv_model.proofs.ContainerParts.{nothing_framed}
use Rattle.gv_model.proofs.WellTyped.{IsBytes, bytes_take, bytes_drop}
use Rattle.gv_model.proofs.PlacedParts.{OneType, length-body_from}
use Rattle.gv_model.proofs.FramedArrays.{offsets, last_of, last_end, last_number, numbers_in-offsets, length-offsets, least_width_pos}
use Rattle.gv_model.proofs.MemberLaws.{offset_width_pos}
use Rattle.gv_model.proofs.NumberBytes.{offset_width-least}
use Rattle.gv_model.proofs.ValueBound.{length-numbers}
use Rattle.gv_normal.specs.InPlace.{IsNormalWithin, LiesAfter}
use Rattle.gv_normal.specs.Tables.{HasTable, offset_number}
use Rattle.gv_normal.proofs.PackedParts.{AreNormal, AreOfBytes, PackedOf, values_of, packed_values, normal_of_parts, parts_of_normal, one_type_held, held_one_type}
use Rattle.gv_normal.proofs.Pieces.{offsets_back, numbers_at, numbers_end, bytes_piece, no_piece}
use Rattle.gv_normal.proofs.PartSteps.{joined_there, ends_there, written_after}

-- elements with these ends fill what is left of a body from p on, and are normal
abbrev pub AreNormalFrom : ℕ → Ty → List ℕ → ℕ → List ℕ → Type 0
AreNormalFrom d t body p [] = p ≡ length body
AreNormalFrom d t body p (e ∷ es) =
    (LiesAfter body p (round_up (alignment t) p) e × IsNormalWithin d t (slice_range body (round_up (alignment t) p) e)) × AreNormalFrom d t body e es

-- how many values are in them
abbrev pub values_from : Ty → List ℕ → ℕ → List ℕ → ℕ
values_from t body p [] = 0
values_from t body p (e ∷ es) = nodes (decode t (slice_range body (round_up (alignment t) p) e)) + values_from t body e es

-- parts that are packed in the body from p on, and end there
pub record HasElements (d : ℕ) (t : Ty) (body : List ℕ) (p : ℕ) (es : List ℕ) : Type 0 where
  pub parts : List Part
  pub one : OneType t parts
  pub normal : AreNormal d parts
  pub bytes : AreOfBytes parts
  pub joined : body_from p parts ≡ slice_range body p (length body)
  pub ends : ends_from p parts ≡ es
  pub values : values_of parts ≡ values_from t body p es

pub elements_back : (d : ℕ) (t : Ty) (body : List ℕ) → IsBytes body → (p : ℕ) (es : List ℕ) → AreNormalFrom d t body p es → HasElements d t body p es
unfolding body_from ends_from
elements_back d t body bytes p [] h = record { parts = []; one = tt; normal = tt; bytes = tt; joined = sym (ap (slice_range body p) (sym h) ∙ no_piece body p); ends = refl; values = refl }
elements_back d t body bytes p (e ∷ es) h =
    let r = elements_back d t body bytes e es h.1 in
    let s = round_up (alignment t) p in
    let end_is = ends_there body t p e h.0.0 in
    record {
      parts = (t, slice_range body s e) ∷ r.parts;
      one = (refl, r.one);
      normal = (h.0.1, r.normal);
      bytes = (bytes_piece body s e bytes, r.bytes);
      joined = joined_there body t p e (length body) r.parts h.0.0 h.0.0.within r.joined;
      ends = ap₂ ◌∷◌ end_is (ap (λ (n : ℕ). ends_from n r.parts) end_is ∙ r.ends);
      values = ap (λ (n : ℕ). nodes (decode t (slice_range body s e)) + n) r.values;
    }

pub elements_there : (d : ℕ) (t : Ty) (body front : List ℕ) (p : ℕ) (xs : List Part) → OneType t xs → AreNormal d xs → length front ≡ p → body ≡ front ++ body_from p xs → AreNormalFrom d t body p (ends_from p xs)
unfolding body_from ends_from
elements_there d t body front p [] h g k whole = sym (ap length (whole ∙ append-nil front) ∙ k)
elements_there d t body front p (x ∷ xs) h g k whole =
    let w = written_after body front (body_from (end_after p x) xs) p x k whole in
    let here : LiesAfter body p (start_after p x) (end_after p x) × IsNormalWithin d x.0 (slice_range body (start_after p x) (end_after p x)) = (w.lies, subst (IsNormalWithin d x.0) (sym w.piece) g.0) in (
      subst (λ (u : Ty). LiesAfter body p (round_up (alignment u) p) (end_after p x) × IsNormalWithin d u (slice_range body (round_up (alignment u) p) (end_after p x))) h.0 here,
      elements_there d t body w.front (end_after p x) xs h.1 g.1 w.size w.whole,
    )

-- ---- the table

pub framed_is : (body es : List ℕ) → framed body es ≡ body ++ offsets (least_width (length body) (length es)) es
unfolding framed
framed_is body es = refl

packed_open : (t : Ty) (xs : List Part) → fixed_size t ≡ None → packed (array t) xs ≡ framed (body_from 0 xs) (ends_from 0 xs)
unfolding packed
packed_open t xs e = ap (array_bytes xs) e

abbrev pub table : List ℕ → List ℕ
table b = numbers_in (offset_width (length b)) (offset_number b) (drop (elements_end b None) b)

whole_table : (b : List ℕ) → HasTable b → offset_number b * offset_width (length b) ≡ length b - elements_end b None
whole_table b h = omega (arith, h.whole, div-add-mod' (length b - elements_end b None) (offset_width (length b)))

-- what a whole table packs
record IsPackedBy (d : ℕ) (t : Ty) (b : List ℕ) : Type 0 where
  pub parts : List Part
  pub packed : PackedOf d (array t) b parts
  pub values : values_of parts ≡ values_from t (take (elements_end b None) b) 0 (table b)

table_packed : (d : ℕ) (t : Ty) (b : List ℕ) → IsBytes b → fixed_size t ≡ None → HasTable b → AreNormalFrom d t (take (elements_end b None) b) 0 (table b) → IsPackedBy d t b
table_packed d t b bytes varies h g =
    let e = elements_end b None in
    let w = offset_width (length b) in
    let count = offset_number b in
    let c = drop e b in
    let front = take e b in
    let r = elements_back d t front (bytes_take e b bytes) 0 (table b) g in
    let pos : 0 < w = offset_width_pos (length b) (omega (arith, h.within)) in
    let size : length c ≡ count * w = length-drop e b ∙ sym (whole_table b h) in
    let long : length front ≡ e = length-take-le e b (omega (arith, h.within)) in
    let all : slice_range front 0 (length front) ≡ front = (let n : length front - 0 ≡ length front = omega arith in ap (λ (k : ℕ). take k front) n ∙ (ap (λ (k : ℕ). take k front) (sym (ap length (append-nil front))) ∙ (ap (take (length (front ++ []))) (sym (append-nil front)) ∙ (ap (λ (k : ℕ). take k (front ++ [])) (ap length (append-nil front)) ∙ take-append_seam front [])))) in
    let body : body_from 0 r.parts ≡ front = r.joined ∙ all in
    let many : length (ends_from 0 r.parts) ≡ count = ap length r.ends ∙ length-numbers w count c in
    let narrow : least_width (length (body_from 0 r.parts)) (length (ends_from 0 r.parts)) ≡ w = ap₂ least_width (ap length body ∙ long) many ∙ h.narrow in
    let tail : offsets (least_width (length (body_from 0 r.parts)) (length (ends_from 0 r.parts))) (ends_from 0 r.parts) ≡ c = ap₂ offsets narrow r.ends ∙ offsets_back w count c pos size (bytes_drop e b bytes) in
    record {
      parts = r.parts;
      packed = record {
        held = held_one_type t r.parts r.one;
        normal = r.normal;
        bytes = r.bytes;
        whole = sym (packed_open t r.parts varies ∙ (framed_is (body_from 0 r.parts) (ends_from 0 r.parts) ∙ (ap₂ ◌++◌ body tail ∙ take-append-drop e b)));
      };
      values = r.values;
    }

pub table_back : (d : ℕ) (t : Ty) (b : List ℕ) → IsBytes b → fixed_size t ≡ None → HasTable b → AreNormalFrom d t (take (elements_end b None) b) 0 (table b) → IsNormalWithin (suc d) (array t) b
table_back d t b bytes varies h g = let p = table_packed d t b bytes varies h g in normal_of_parts d (array t) b p.parts p.packed

pub table_values : (d : ℕ) (t : Ty) (b : List ℕ) → IsBytes b → fixed_size t ≡ None → HasTable b → AreNormalFrom d t (take (elements_end b None) b) 0 (table b)
    → nodes (decode (array t) b) ≡ suc (values_from t (take (elements_end b None) b) 0 (table b))
table_values d t b bytes varies h g =
    let p = table_packed d t b bytes varies h g in packed_values d (array t) b p.parts p.packed ∙ ap (λ (n : ℕ). suc n) p.values

-- what a written table is
pub record IsTableOf (d : ℕ) (t : Ty) (b : List ℕ) : Type 0 where
  pub table : HasTable b
  pub elements : AreNormalFrom d t (take (elements_end b None) b) 0 (numbers_in (offset_width (length b)) (offset_number b) (drop (elements_end b None) b))

table_of : (d : ℕ) (t : Ty) (x : Part) (xs : List Part) (b : List ℕ) → OneType t (x ∷ xs) → AreNormal d (x ∷ xs) → b ≡ framed (body_from 0 (x ∷ xs)) (ends_from 0 (x ∷ xs)) → IsTableOf d t b
unfolding ends_from
table_of d t x xs b h g whole =
    let body = body_from 0 (x ∷ xs) in
    let ends = ends_from (end_after 0 x) xs in
    let es = end_after 0 x ∷ ends in
    let k = suc (length ends) in
    let w = least_width (length body) k in
    let tail = offsets w es in
    let is : b ≡ body ++ tail = whole ∙ framed_is body es in
    let last : length body ≡ last_of (end_after 0 x) ends = (let n : 0 + length body ≡ length body = omega arith in sym n ∙ (length-body_from 0 (x ∷ xs) ∙ sym (last_end (end_after 0 x) xs))) in
    let pos : 0 < w = least_width_pos (length body) k in
    let size : length b ≡ length body + k * w = ap length is ∙ (length-append body tail ∙ ap (λ (n : ℕ). length body + n) (length-offsets w es)) in
    let width : offset_width (length b) ≡ w = ap offset_width (size ∙ ap (λ (n : ℕ). length body + n) (mul_comm k w)) ∙ offset_width-least (length body) k (omega arith) in
    let end_is : elements_end b None ≡ length body = ap (λ (c : List ℕ). elements_end c None) whole ∙ last_number body (end_after 0 x) ends last in
    let room : 1 * 1 ≤ k * w = mul-le-mul (let l : 1 ≤ k = omega arith in l) pos in
    let rest : length b - elements_end b None ≡ k * w = omega (arith, size, end_is) in
    let count : offset_number b ≡ k = ap₂ ◌/◌ rest width ∙ mul-div_cancel k pos in
    let back : drop (elements_end b None) b ≡ tail = ap₂ drop end_is is ∙ drop-append_seam body tail in
    let front : take (elements_end b None) b ≡ body = ap₂ take end_is is ∙ take-append_seam body tail in
    let numbers : numbers_in (offset_width (length b)) (offset_number b) (drop (elements_end b None) b) ≡ es =
    ap₂ (λ (v n : ℕ). numbers_in v n (drop (elements_end b None) b)) width count ∙ (ap (numbers_in w k) back ∙ numbers_in-offsets w es pos) in
    record {
      table = record {
        within = omega (arith, size, end_is, room);
        whole = ap₂ ◌%◌ rest width ∙ mul-mod_left k w;
        narrow = ap₂ least_width end_is count ∙ sym width;
      };
      elements = subst (λ (ys : List ℕ). AreNormalFrom d t (take (elements_end b None) b) 0 ys) (sym numbers)
          (subst (λ (c : List ℕ). AreNormalFrom d t c 0 es) (sym front) (elements_there d t body [] 0 (x ∷ xs) h g refl refl));
    }

pub table_there : (d : ℕ) (t : Ty) (b : List ℕ) → IsBytes b → 0 < length b → fixed_size t ≡ None → IsNormalWithin (suc d) (array t) b → IsTableOf d t b
table_there d t b bytes some varies h =
    let p = parts_of_normal d (array t) b bytes tt h in
    go (parts (array t) b) (one_type_held t (parts (array t) b) p.held) p.normal (p.whole ∙ packed_open t (parts (array t) b) varies)
  where
    go : (xs : List Part) → OneType t xs → AreNormal d xs → b ≡ framed (body_from 0 xs) (ends_from 0 xs) → IsTableOf d t b
    go [] k g whole = absurd (omega (arith, some, ap length (whole ∙ nothing_framed)))
    go (x ∷ xs) k g whole = table_of d t x xs b k g whole

nothing_packed : (t : Ty) → [] ≡ packed (array t) []
unfolding packed
nothing_packed t = go (fixed_size t)
  where
    go : (f : Option ℕ) → [] ≡ array_bytes [] f
    go None = sym nothing_framed
    go (Some n) = refl

empty_packed : (d : ℕ) (t : Ty) → PackedOf d (array t) [] []
empty_packed d t = record { held = tt; normal = tt; bytes = tt; whole = nothing_packed t }

-- no bytes are the empty array
pub empty_array : (d : ℕ) (t : Ty) → IsNormalWithin (suc d) (array t) []
empty_array d t = normal_of_parts d (array t) [] [] (empty_packed d t)

pub empty_array_values : (t : Ty) → nodes (decode (array t) []) ≡ 1
empty_array_values t = packed_values 0 (array t) [] [] (empty_packed 0 t)

-- ---- a walk along the table

pub table_iff : (d : ℕ) (t : Ty) (b : List ℕ) → IsBytes b → fixed_size t ≡ None → HasTable b → (AreNormalFrom d t (take (elements_end b None) b) 0 (table b) ↔ IsNormalWithin (suc d) (array t) b)
table_iff d t b bytes varies h = (table_back d t b bytes varies h, λ n. (table_there d t b bytes (omega (arith, h.within)) varies n).elements)

-- the next end, as it is read
next_end : (b c : List ℕ) (i to w : ℕ) → w ≡ offset_width (length b) → c ≡ drop (elements_end b None) b → i < offset_number b
    → to ≡ number_in (take (i * w + w - i * w) (drop (i * w) c)) → drop i (table b) ≡ to ∷ drop (i + 1) (table b)
next_end b c i to w wide c_is less to_is =
    let ow = offset_width (length b) in
    let size : i * w + w - i * w ≡ w = omega arith in
    let read : to ≡ number_in (take ow (drop (i * ow) (drop (elements_end b None) b))) =
    to_is ∙ (ap (λ (n : ℕ). number_in (take n (drop (i * w) c))) size ∙ ap₂ (λ (v : ℕ) (x : List ℕ). number_in (take v (drop (i * v) x))) wide c_is) in
    let after : suc i ≡ i + 1 = omega arith in
    numbers_at ow (offset_number b) (drop (elements_end b None) b) i less ∙ ap₂ (λ (x j : ℕ). x ∷ drop j (table b)) (sym read) after

-- the next element, where what is left decides
pub element_turn : (W : Type 0) (d : ℕ) (t : Ty) (b c body : List ℕ) (i p from to w : ℕ) → w ≡ offset_width (length b) → c ≡ drop (elements_end b None) b → body ≡ take (elements_end b None) b → i < offset_number b
    → to ≡ number_in (take (i * w + w - i * w) (drop (i * w) c)) → from ≡ round_up (alignment t) p → (AreNormalFrom d t (take (elements_end b None) b) p (drop i (table b)) ↔ W)
    → (((LiesAfter body p from to × IsNormalWithin d t (slice_range body from to)) × AreNormalFrom d t (take (elements_end b None) b) to (drop (i + 1) (table b))) ↔ W)
element_turn W d t b c body i p from to w wide c_is body_is less to_is from_is h =
    let front = take (elements_end b None) b in
    let next = next_end b c i to w wide c_is less to_is in
    let one = subst (λ (ys : List ℕ). AreNormalFrom d t front p ys ↔ W) next h in
    let two = subst (λ (s : ℕ). ((LiesAfter front p s to × IsNormalWithin d t (slice_range front s to)) × AreNormalFrom d t front to (drop (i + 1) (table b))) ↔ W) (sym from_is) one in
    subst (λ (x : List ℕ). ((LiesAfter x p from to × IsNormalWithin d t (slice_range x from to)) × AreNormalFrom d t front to (drop (i + 1) (table b))) ↔ W) (sym body_is) two

-- and how many values it has
pub element_values : (t : Ty) (b c body : List ℕ) (i p from to w : ℕ) → w ≡ offset_width (length b) → c ≡ drop (elements_end b None) b → body ≡ take (elements_end b None) b → i < offset_number b
    → to ≡ number_in (take (i * w + w - i * w) (drop (i * w) c)) → from ≡ round_up (alignment t) p
    → values_from t (take (elements_end b None) b) p (drop i (table b)) ≡ nodes (decode t (slice_range body from to)) + values_from t (take (elements_end b None) b) to (drop (i + 1) (table b))
element_values t b c body i p from to w wide c_is body_is less to_is from_is =
    let front = take (elements_end b None) b in
    let rest = values_from t front to (drop (i + 1) (table b)) in
    ap (values_from t front p) (next_end b c i to w wide c_is less to_is)
    ∙ ap₂ (λ (x : List ℕ) (s : ℕ). nodes (decode t (slice_range x s to)) + rest) (sym body_is) (sym from_is)

no_more : (b : List ℕ) (i : ℕ) → offset_number b ≡ i → drop i (table b) ≡ []
no_more b i is = ap (λ (n : ℕ). drop n (table b)) (sym is) ∙ numbers_end (offset_width (length b)) (offset_number b) (drop (elements_end b None) b)

pub no_more_values : (t : Ty) (b : List ℕ) (i p : ℕ) → offset_number b ≡ i → values_from t (take (elements_end b None) b) p (drop i (table b)) ≡ 0
no_more_values t b i p is = ap (values_from t (take (elements_end b None) b) p) (no_more b i is)

pub elements_done : (W : Type 0) (d : ℕ) (t : Ty) (b : List ℕ) (i p : ℕ) → HasTable b → offset_number b ≡ i → (AreNormalFrom d t (take (elements_end b None) b) p (drop i (table b)) ↔ W) → ((p ≡ elements_end b None) ↔ W)
elements_done W d t b i p has is h =
    let none = no_more b i is in
    let one = subst (λ (ys : List ℕ). AreNormalFrom d t (take (elements_end b None) b) p ys ↔ W) none h in
    subst (λ (n : ℕ). (p ≡ n) ↔ W) (length-take-le (elements_end b None) b (omega (arith, has.within))) one

pub offsets_fit : (b : List ℕ) → HasTable b → elements_end b None + offset_number b ≤ length b
offsets_fit b h =
    let pos : 0 < offset_width (length b) = offset_width_pos (length b) (omega (arith, h.within)) in
    let whole = whole_table b h in
    let room : offset_number b * 1 ≤ offset_number b * offset_width (length b) = mul-le-mul (let r : offset_number b ≤ offset_number b = omega arith in r) pos in
    omega (arith, whole, room, h.within)

-- how many there are, as the code counts them
pub counted : (b c : List ℕ) (w : ℕ) → w ≡ offset_width (length b) → c ≡ drop (elements_end b None) b → length c / w ≡ offset_number b
counted b c w wide is = ap₂ ◌/◌ (ap length is ∙ length-drop (elements_end b None) b) wide
