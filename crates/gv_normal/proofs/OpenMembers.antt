-- A tuple or an entry of no fixed size is normal exactly where its members lie, and are, as written, by offsets as narrow as can be.
use Rattle.std.proofs.Common.{ℕ, zero, suc, ◌+◌, ◌-◌, ◌*◌, ◌/◌, ◌<◌, ◌≤◌, ◌≡◌, Bool, true, false, cond, nat_lt, nat_le, ◌&&◌, IsTrue, ◌↔◌, lt-ltb, le-leb, List, [], ◌∷◌, ◌++◌, reverse, length, take, drop, slice_range, Option, Some, None, refl, sym, ap, ap₂, ◌∙◌, subst, arith, append-nil, append_assoc, length-append, length-drop, mul_comm, mul-le-mul, zero-add}
use Rattle.std.proofs.Math.Seq.{drop-length}
use Rattle.std.proofs.Math.Nat.{mul-div_cancel}
use Rattle.std.proofs.lemmas.List.{length-reverse, take-append-drop, drop-drop, length-take-le, take_at, drop_at, reverse-append}
use Rattle.std.proofs.lemmas.Grind.{flat_map-append}
use Rattle.std.proofs.lemmas.Option.{none-some, same_Some}
use Rattle.std.specs.Prelude.{is_some}
use Rattle.gv_model.specs.Ty.{Ty, Types, members, types_from}
use Rattle.gv_model.specs.Ty.Types.{end, member}
use Rattle.gv_model.specs.Tree.{nodes}
use Rattle.gv_model.specs.Decode.{decode}
use Rattle.gv_model.specs.Layout.{alignment, fixed_size, round_up, offset_width}
use Rattle.gv_model.specs.BasicValue.{number_in}
use Rattle.gv_model.specs.Parts.{Part, parts}
use Rattle.gv_model.specs.Encode.{packed, tuple_bytes, framed, body_from, open_ends_from, zeros, start_after, end_after, number_bytes, least_width}
use Rattle.gv_model.proofs.NumberBytes.{le-round_up, length-number_bytes, number_in-number_bytes, offset_width-least}
use Rattle.gv_model.proofs.LayoutLaws.{alignment_pos}
use Rattle.gv_model.proofs.ListLaws.{nil_no_cons}
use Rattle.gv_model.proofs.WellTyped.{IsBytes, bytes_take, bytes_drop}
use Rattle.gv_model.proofs.PlacedParts.{length-body_from}
use Rattle.gv_model.proofs.MemberLaws.{part_types, HasSize, HaveSizes}
use Rattle.gv_model.proofs.FramedArrays.{offsets, length-offsets, least_width_pos}
use Rattle.gv_normal.specs.InPlace.{IsNormalWithin, LiesAfter, HasMembers}
use Rattle.gv_normal.specs.Tables.{member_place}
use Rattle.gv_normal.proofs.PackedParts.{AreNormal, AreOfBytes, PackedOf, values_of, packed_values, normal_of_parts, parts_of_normal, sizes_of_parts}
use Rattle.gv_normal.proofs.Pieces.{bytes_piece, no_piece, prefix_and_rest, length-piece, number_back}
use Rattle.gv_normal.proofs.PartSteps.{IsWrittenAfter, joined_there, ends_there, written_after}
use Rattle.gv_normal.proofs.FixedMembers.{packed_members, held_members, members_held, with_members}
use Rattle.gv_normal.proofs.OpenElements.{framed_is}

abbrev pub is_end : Types → Bool
is_end end = true
is_end (member t ts) = false

abbrev pub IsOpenAt : ℕ → List ℕ → ℕ → Ty → (ℕ → ℕ → Type 0) → Option (ℕ × ℕ) → Type 0
IsOpenAt d b p t Rest None = ⊥
IsOpenAt d b p t Rest (Some q) =
    (LiesAfter b p (round_up (alignment t) p) q.0 × IsNormalWithin d t (slice_range b (round_up (alignment t) p) q.0)) × Rest q.0 q.1

-- the offsets from q on, of w bytes each, follow a body of p bytes, and are as narrow as they can be
pub record IsFull (b : List ℕ) (w q p : ℕ) : Type 0 where
  pub full : p ≡ q
  pub narrow : q < length b → least_width p ((length b - q) / w) ≡ w

-- members that lie from p on, where the offsets from q on were read, fill what is left, and are normal
abbrev pub AreOpenFrom : ℕ → List ℕ → ℕ → ℕ → ℕ → Types → Type 0
AreOpenFrom d b w q p end = IsFull b w q p
AreOpenFrom d b w q p (member t ts) =
    IsOpenAt d b p t (λ e r. AreOpenFrom d b w r e ts) (member_place w b q (round_up (alignment t) p) (fixed_size t) (is_end ts))

-- how many values are in them
abbrev pub values_at : List ℕ → ℕ → Ty → (ℕ → ℕ → ℕ) → Option (ℕ × ℕ) → ℕ
values_at b p t rest None = 0
values_at b p t rest (Some q) = nodes (decode t (slice_range b (round_up (alignment t) p) q.0)) + rest q.0 q.1

abbrev pub open_values : List ℕ → ℕ → ℕ → ℕ → Types → ℕ
open_values b w q p end = 0
open_values b w q p (member t ts) = values_at b p t (λ e r. open_values b w r e ts) (member_place w b q (round_up (alignment t) p) (fixed_size t) (is_end ts))

-- the ends with that of a first member
abbrev ends_with : Option ℕ → Bool → ℕ → List ℕ → List ℕ
ends_with (Some n) last e es = es
ends_with None true e es = es
ends_with None false e es = e ∷ es

open_more : (p : ℕ) (x : Part) (xs : List Part) → open_ends_from p (x ∷ xs) ≡ ends_with (fixed_size x.0) (is_end (part_types xs)) (end_after p x) (open_ends_from (end_after p x) xs)
unfolding open_ends_from
open_more p x [] = go (fixed_size x.0)
  where
    go : (f : Option ℕ) → [] ≡ ends_with f true (end_after p x) []
    go None = refl
    go (Some n) = refl
open_more p x (y ∷ xs) = go (fixed_size x.0)
  where
    es : List ℕ
    es = open_ends_from (end_after p x) (y ∷ xs)

    go : (f : Option ℕ) → cond (is_some f) es (end_after p x ∷ es) ≡ ends_with f false (end_after p x) es
    go None = refl
    go (Some n) = refl

last_written : (w e : ℕ) (es : List ℕ) → offsets w (reverse (e ∷ es)) ≡ offsets w (reverse es) ++ number_bytes w e
last_written w e es =
    ap (offsets w) (reverse-append (e ∷ []) es) ∙ (flat_map-append (number_bytes w) (reverse es) (e ∷ []) ∙ ap (λ (ys : List ℕ). offsets w (reverse es) ++ ys) (append-nil (number_bytes w e)))

pub record HasOpen (d : ℕ) (b : List ℕ) (w q p : ℕ) (ts : Types) : Type 0 where
  pub parts : List Part
  pub types : part_types parts ≡ ts
  pub normal : AreNormal d parts
  pub bytes : AreOfBytes parts
  pub last : ℕ
  pub low : p ≤ last
  pub high : last ≤ length b
  pub joined : body_from p parts ≡ slice_range b p last
  pub tail : offsets w (reverse (open_ends_from p parts)) ++ drop q b ≡ drop last b
  pub narrow : last < length b → least_width last ((length b - last) / w) ≡ w
  pub wide : 0 < length (open_ends_from p parts) → 0 < w
  pub values : values_of parts ≡ open_values b w q p ts

-- an offset that is read stands there
offset_back : (w : ℕ) (b : List ℕ) (q : ℕ) → IsBytes b → 0 < w → w ≤ q → q ≤ length b → number_bytes w (number_in (take w (drop (q - w) b))) ++ drop q b ≡ drop (q - w) b
offset_back w b q bytes pos room le =
    let from = q - w in
    let place : from + w ≡ q = omega arith in
    let size : length (take w (drop from b)) ≡ w = length-take-le w (drop from b) (omega (arith, length-drop from b)) in
    ap₂ ◌++◌ (number_back w (take w (drop from b)) pos size (bytes_take w (drop from b) (bytes_drop from b bytes))) (ap (λ (n : ℕ). drop n b) (sym place) ∙ sym (drop-drop w from b))
    ∙ take-append-drop w (drop from b)

one_part : (d : ℕ) (b : List ℕ) (w q q' p e : ℕ) (t : Ty) (ts : Types) → IsBytes b → LiesAfter b p (round_up (alignment t) p) e → IsNormalWithin d t (slice_range b (round_up (alignment t) p) e) → (r : HasOpen d b w q' e ts)
    → offsets w (reverse (ends_with (fixed_size t) (is_end ts) e (open_ends_from e r.parts))) ++ drop q b ≡ offsets w (reverse (open_ends_from e r.parts)) ++ drop q' b
    → (0 < length (ends_with (fixed_size t) (is_end ts) e (open_ends_from e r.parts)) → 0 < w)
    → member_place w b q (round_up (alignment t) p) (fixed_size t) (is_end ts) ≡ Some (e, q')
    → HasOpen d b w q p (member t ts)
one_part d b w q q' p e t ts bytes lies normal r same wide place =
    let s = round_up (alignment t) p in
    let x : Part = (t, slice_range b s e) in
    let low = le-round_up (alignment t) p (alignment_pos t) in
    let end_is = ends_there b t p e lies in
    let ends : open_ends_from p (x ∷ r.parts) ≡ ends_with (fixed_size t) (is_end ts) e (open_ends_from e r.parts) =
    open_more p x r.parts ∙ ap₂ (λ (us : Types) (n : ℕ). ends_with (fixed_size t) (is_end us) n (open_ends_from n r.parts)) r.types end_is in
    record {
      parts = x ∷ r.parts;
      types = ap (member t) r.types;
      normal = (normal, r.normal);
      bytes = (bytes_piece b s e bytes, r.bytes);
      last = r.last;
      low = omega (arith, low, lies.rises, r.low);
      high = r.high;
      joined = joined_there b t p e r.last r.parts lies r.low r.joined;
      tail = ap (λ (es : List ℕ). offsets w (reverse es) ++ drop q b) ends ∙ (same ∙ r.tail);
      narrow = r.narrow;
      wide = λ some. wide (omega (arith, some, ap length ends));
      values = ap (λ (n : ℕ). nodes (decode t (slice_range b s e)) + n) r.values ∙ sym (ap (values_at b p t (λ e r. open_values b w r e ts)) place);
    }

pub open_back : (d : ℕ) (b : List ℕ) (w : ℕ) → IsBytes b → (ts : Types) (q p : ℕ) → q ≤ length b → AreOpenFrom d b w q p ts → HasOpen d b w q p ts
unfolding body_from open_ends_from
open_back d b w bytes end q p le h = record {
  parts = [];
  types = refl;
  normal = tt;
  bytes = tt;
  last = p;
  low = omega arith;
  high = omega (arith, h.full);
  joined = sym (no_piece b p);
  tail = ap (λ (n : ℕ). drop n b) (sym h.full);
  narrow = λ k. ap (λ (n : ℕ). least_width p ((length b - n) / w)) h.full ∙ h.narrow (omega (arith, h.full, k));
  wide = λ some. absurd (omega (arith, some));
  values = refl;
}
open_back d b w bytes (member t ts) q p le h = go (fixed_size t) refl (is_end ts) refl h (λ r e. open_back d b w bytes ts r e)
  where
    s : ℕ
    s = round_up (alignment t) p

    Rest : Type 0
    Rest = (r e : ℕ) → r ≤ length b → AreOpenFrom d b w r e ts → HasOpen d b w r e ts

    At : Option (ℕ × ℕ) → Type 0
    At o = IsOpenAt d b p t (λ e r. AreOpenFrom d b w r e ts) o

    go : (f : Option ℕ) → fixed_size t ≡ f → (l : Bool) → is_end ts ≡ l → At (member_place w b q s f l) → Rest → HasOpen d b w q p (member t ts)
    go (Some n) e l m k rest =
        let r = rest q (s + n) le k.1 in
        one_part d b w q q p (s + n) t ts bytes k.0.0 k.0.1 r (ap (λ (f : Option ℕ). offsets w (reverse (ends_with f (is_end ts) (s + n) (open_ends_from (s + n) r.parts))) ++ drop q b) e)
        (λ some. r.wide (omega (arith, some, ap (λ (f : Option ℕ). length (ends_with f (is_end ts) (s + n) (open_ends_from (s + n) r.parts))) e)))
        (ap₂ (member_place w b q s) e m)
    go None e true m k rest =
        let r = rest q q le k.1 in
        one_part d b w q q p q t ts bytes k.0.0 k.0.1 r (ap₂ (λ (f : Option ℕ) (l : Bool). offsets w (reverse (ends_with f l q (open_ends_from q r.parts))) ++ drop q b) e m)
        (λ some. r.wide (omega (arith, some, ap₂ (λ (f : Option ℕ) (l : Bool). length (ends_with f l q (open_ends_from q r.parts))) e m)))
        (ap₂ (member_place w b q s) e m)
    go None e false m k rest = read (nat_lt 0 w && nat_le w q) refl k
      where
        n : ℕ
        n = number_in (take w (drop (q - w) b))

        read : (c : Bool) → (nat_lt 0 w && nat_le w q) ≡ c → At (cond c (Some (n, q - w)) None) → HasOpen d b w q p (member t ts)
        read false z j = absurd j
        read true z j =
            let r = rest (q - w) n (omega arith) j.1 in
            let es = open_ends_from n r.parts in
            one_part d b w q (q - w) p n t ts bytes j.0.0 j.0.1 r
            (ap₂ (λ (f : Option ℕ) (l : Bool). offsets w (reverse (ends_with f l n es)) ++ drop q b) e m
            ∙ (ap (λ (ys : List ℕ). ys ++ drop q b) (last_written w n es)
            ∙ (append_assoc (offsets w (reverse es)) (number_bytes w n) (drop q b)
            ∙ ap (λ (ys : List ℕ). offsets w (reverse es) ++ ys) (offset_back w b q bytes (grind (arith, z)) (grind (arith, z)) le))))
            (λ some. grind (arith, z))
            (ap₂ (member_place w b q s) e m ∙ ap (λ (c : Bool). cond c (Some (n, q - w)) None) z)

-- ---- members that were written

pub open_there : (d : ℕ) (b front after : List ℕ) (w q p : ℕ) (xs : List Part) → HaveSizes xs → AreNormal d xs → length front ≡ p → q + length after ≡ length b
    → b ≡ front ++ (body_from p xs ++ (offsets w (reverse (open_ends_from p xs)) ++ after)) → (0 < length (open_ends_from p xs) → 0 < w)
    → ((m : ℕ) → length front + length (body_from p xs) ≡ m → m < length b → least_width m ((length b - m) / w) ≡ w) → AreOpenFrom d b w q p (part_types xs)
unfolding body_from open_ends_from
open_there d b front after w q p [] g h k room whole wide narrow =
    let size : length b ≡ length front + length after = ap length whole ∙ length-append front after in
    let same : p ≡ q = omega (arith, size, k, room) in
    record { full = same; narrow = λ less. ap (λ (n : ℕ). least_width p ((length b - n) / w)) (sym same) ∙ narrow p (omega (arith, k)) (omega (arith, same, less)) }
open_there d b front after w q p (x ∷ xs) g h k room whole wide narrow =
    go (fixed_size x.0) refl (is_end (part_types xs)) refl
    (λ after' q' room' whole' wide'. open_there d b u.front after' w q' e xs g.1 h.1 u.size room' whole' wide' (λ m is. narrow m (long ∙ is)))
  where
    e : ℕ
    e = end_after p x

    s : ℕ
    s = start_after p x

    body : List ℕ
    body = body_from e xs

    es : List ℕ
    es = open_ends_from e xs

    all : List ℕ
    all = offsets w (reverse (open_ends_from p (x ∷ xs))) ++ after

    split : (z y r t : List ℕ) → (z ++ (y ++ r)) ++ t ≡ z ++ (y ++ (r ++ t))
    split z y r t = simp append_assoc

    one : b ≡ front ++ (zeros (s - p) ++ (x.1 ++ (body ++ all)))
    one = whole ∙ ap (λ (r : List ℕ). front ++ r) (split (zeros (s - p)) x.1 body all)

    u : IsWrittenAfter b p x (body ++ all)
    u = written_after b front (body ++ all) p x k one

    long : length front + length (body_from p (x ∷ xs)) ≡ length u.front + length body
    long = (let n = length-body_from p (x ∷ xs) in let m = length-body_from e xs in omega (arith, k, u.size))

    ends : (f : Option ℕ) → fixed_size x.0 ≡ f → (l : Bool) → is_end (part_types xs) ≡ l → open_ends_from p (x ∷ xs) ≡ ends_with f l e es
    ends f i l m = open_more p x xs ∙ ap₂ (λ (f : Option ℕ) (l : Bool). ends_with f l e es) i m

    Rest : Type 0
    Rest = (after' : List ℕ) (q' : ℕ) → q' + length after' ≡ length b → b ≡ u.front ++ (body ++ (offsets w (reverse es) ++ after')) → (0 < length es → 0 < w) → AreOpenFrom d b w q' e (part_types xs)

    At : Option (ℕ × ℕ) → Type 0
    At o = IsOpenAt d b p x.0 (λ e r. AreOpenFrom d b w r e (part_types xs)) o

    here : LiesAfter b p s e × IsNormalWithin d x.0 (slice_range b s e)
    here = (u.lies, subst (IsNormalWithin d x.0) (sym u.piece) h.0)

    at_end : (n : ℕ) → n ≡ e → (r : ℕ) → AreOpenFrom d b w r e (part_types xs) → At (Some (n, r))
    at_end n is r j = subst (λ (m : ℕ). (LiesAfter b p s m × IsNormalWithin d x.0 (slice_range b s m)) × AreOpenFrom d b w r m (part_types xs)) (sym is) (here, j)

    last : (ys : List Part) → is_end (part_types ys) ≡ true → ys ≡ []
    last [] i = refl
    last (y ∷ ys) i = cc

    go : (f : Option ℕ) → fixed_size x.0 ≡ f → (l : Bool) → is_end (part_types xs) ≡ l → Rest → At (member_place w b q s f l)
    go (Some n) i l m rest =
        let size : length x.1 ≡ n = subst (λ (o : Option ℕ). HasSize o x) i g.0 in
        let same = ends (Some n) i l m in
        at_end (s + n) (ap (λ (j : ℕ). s + j) (sym size)) q
        (rest after q room (u.whole ∙ ap (λ (ys : List ℕ). u.front ++ (body ++ (offsets w (reverse ys) ++ after))) same) (λ some. wide (omega (arith, some, ap length same))))
    go None i true m rest =
        let same = ends None i true m in
        let none = last xs m in
        let no_body : length body ≡ 0 = ap (λ (ys : List Part). length (body_from e ys)) none in
        let no_ends : length (offsets w (reverse es)) ≡ 0 = ap (λ (ys : List Part). length (offsets w (reverse (open_ends_from e ys)))) none in
        let whole' : b ≡ u.front ++ (body ++ (offsets w (reverse es) ++ after)) = u.whole ∙ ap (λ (ys : List ℕ). u.front ++ (body ++ (offsets w (reverse ys) ++ after))) same in
        let size : length b ≡ length u.front + (length body + (length (offsets w (reverse es)) + length after)) = ap length whole' ∙ (length-append u.front _ ∙ ap (λ (n : ℕ). length u.front + n) (length-append body _ ∙ ap (λ (n : ℕ). length body + n) (length-append (offsets w (reverse es)) after))) in
        at_end q (omega (arith, size, no_body, no_ends, u.size, room)) q (rest after q room whole' (λ some. wide (omega (arith, some, ap length same))))
    go None i false m rest =
        let same = ends None i false m in
        let pos : 0 < w = wide (omega (arith, ap length same)) in
        let next = number_bytes w e ++ after in
        let late = offsets w (reverse es) in
        let tail : all ≡ late ++ next = ap (λ (ys : List ℕ). offsets w (reverse ys) ++ after) same ∙ (ap (λ (ys : List ℕ). ys ++ after) (last_written w e es) ∙ append_assoc late (number_bytes w e) after) in
        let whole' : b ≡ u.front ++ (body ++ (late ++ next)) = u.whole ∙ ap (λ (ys : List ℕ). u.front ++ (body ++ ys)) tail in
        let ahead = u.front ++ (body ++ late) in
        let joined : b ≡ ahead ++ next = whole' ∙ regroup u.front body late next in
        let wide_next : length next ≡ w + length after = length-append (number_bytes w e) after ∙ ap (λ (n : ℕ). n + length after) (length-number_bytes w e) in
        let size : length b ≡ length ahead + length next = ap length joined ∙ length-append ahead next in
        let place : length ahead ≡ q - w = omega (arith, size, wide_next, room) in
        let fits : w ≤ q = omega (arith, size, wide_next, room) in
        let test : nat_lt 0 w ≡ true = lt-ltb 0 w pos in
        let test' : nat_le w q ≡ true = le-leb w q fits in
        let number : number_in (take w (drop (q - w) b)) ≡ e =
        ap (λ (ys : List ℕ). number_in (take w ys)) (ap (drop (q - w)) joined ∙ drop_at ahead next (q - w) place) ∙ (ap number_in (take_at (number_bytes w e) after w (length-number_bytes w e)) ∙ number_in-number_bytes w e pos) in
        rw (test, test') (at_end (number_in (take w (drop (q - w) b))) number (q - w) (rest next (q - w) (omega (arith, size, wide_next, place)) whole' (λ some. pos)))
      where
        regroup : (f z x r : List ℕ) → f ++ (z ++ (x ++ r)) ≡ (f ++ (z ++ x)) ++ r
        regroup f z x r = simp append_assoc

-- ---- the whole

-- without offsets their width doesn't matter
same_offsets : (v w : ℕ) (xs : List ℕ) → (0 < length xs → v ≡ w) → offsets v xs ≡ offsets w xs
same_offsets v w [] f = refl
same_offsets v w (x ∷ xs) f = ap (λ (u : ℕ). offsets u (x ∷ xs)) (f (omega arith))

packed_open : (t : Ty) (xs : List Part) → HasMembers t → fixed_size t ≡ None → packed t xs ≡ framed (body_from 0 xs) (reverse (open_ends_from 0 xs))
packed_open t xs k varies = packed_members t xs k ∙ ap (tuple_bytes xs) varies

-- what such members pack
record IsPackedBy (d : ℕ) (t : Ty) (b : List ℕ) : Type 0 where
  pub parts : List Part
  pub packed : PackedOf d t b parts
  pub values : values_of parts ≡ open_values b (offset_width (length b)) (length b) 0 (members t)

open_packed : (d : ℕ) (t : Ty) (b : List ℕ) → IsBytes b → HasMembers t → fixed_size t ≡ None → AreOpenFrom d b (offset_width (length b)) (length b) 0 (members t) → IsPackedBy d t b
open_packed d t b bytes k varies h =
    let w = offset_width (length b) in
    let r = open_back d b w bytes (members t) (length b) 0 (omega arith) h in
    let es = reverse (open_ends_from 0 r.parts) in
    let body = body_from 0 r.parts in
    let long : length body ≡ r.last = ap length r.joined ∙ (length-piece b 0 r.last r.high ∙ omega arith) in
    let tail : offsets w es ≡ drop r.last b = sym (append-nil (offsets w es)) ∙ (ap (λ (ys : List ℕ). offsets w es ++ ys) (sym (drop-length b)) ∙ r.tail) in
    let total : length es * w ≡ length b - r.last = sym (length-offsets w es) ∙ (ap length tail ∙ length-drop r.last b) in
    let narrow : 0 < length es → least_width (length body) (length es) ≡ w = λ some. widths w (length es) r.last (length body) (r.wide (omega (arith, some, length-reverse (open_ends_from 0 r.parts)))) some total r.narrow long in
    record {
      parts = r.parts;
      packed = record {
        held = held_members t r.parts k r.types;
        normal = r.normal;
        bytes = r.bytes;
        whole = sym (packed_open t r.parts k varies ∙ (framed_is body es ∙ (ap₂ ◌++◌ r.joined (same_offsets (least_width (length body) (length es)) w es narrow ∙ tail) ∙ prefix_and_rest b r.last)));
      };
      values = r.values;
    }
  where
    widths : (w n last m : ℕ) → 0 < w → 0 < n → n * w ≡ length b - last → (last < length b → least_width last ((length b - last) / w) ≡ w) → m ≡ last → least_width m n ≡ w
    widths w n last m pos some total narrow is =
        let room : 1 * 1 ≤ n * w = mul-le-mul some pos in
        let count : (length b - last) / w ≡ n = ap (λ (x : ℕ). x / w) (sym total) ∙ mul-div_cancel n pos in
        ap₂ least_width is (sym count) ∙ narrow (omega (arith, room, total))

pub open_normal : (d : ℕ) (t : Ty) (b : List ℕ) → IsBytes b → HasMembers t → fixed_size t ≡ None → AreOpenFrom d b (offset_width (length b)) (length b) 0 (members t) → IsNormalWithin (suc d) t b
open_normal d t b bytes k varies h = let p = open_packed d t b bytes k varies h in normal_of_parts d t b p.parts p.packed

pub open_count : (d : ℕ) (t : Ty) (b : List ℕ) → IsBytes b → HasMembers t → fixed_size t ≡ None → AreOpenFrom d b (offset_width (length b)) (length b) 0 (members t)
    → nodes (decode t b) ≡ suc (open_values b (offset_width (length b)) (length b) 0 (members t))
open_count d t b bytes k varies h = let p = open_packed d t b bytes k varies h in packed_values d t b p.parts p.packed ∙ ap (λ (n : ℕ). suc n) p.values

pub normal_open : (d : ℕ) (t : Ty) (b : List ℕ) → IsBytes b → HasMembers t → fixed_size t ≡ None → IsNormalWithin (suc d) t b → AreOpenFrom d b (offset_width (length b)) (length b) 0 (members t)
normal_open d t b bytes k varies h =
    let p = parts_of_normal d t b bytes (with_members t k) h in
    let xs = parts t b in
    let w = offset_width (length b) in
    let body = body_from 0 xs in
    let ends = open_ends_from 0 xs in
    let es = reverse ends in
    let least = least_width (length body) (length es) in
    let many = length-reverse ends in
    let whole : b ≡ body ++ offsets least es = p.whole ∙ (packed_open t xs k varies ∙ framed_is body es) in
    let size : length b ≡ length body + length es * least = ap length whole ∙ (length-append body (offsets least es) ∙ ap (λ (n : ℕ). length body + n) (length-offsets least es)) in
    let pos : 0 < least = least_width_pos (length body) (length es) in
    let width : 0 < length es → w ≡ least = λ some. ap offset_width (size ∙ ap (λ (n : ℕ). length body + n) (mul_comm (length es) least)) ∙ offset_width-least (length body) (length es) some in
    let whole' : b ≡ body ++ (offsets w es ++ []) = whole ∙ ap (λ (ys : List ℕ). body ++ ys) (same_offsets least w es (λ some. sym (width some)) ∙ sym (append-nil (offsets w es))) in
    subst (AreOpenFrom d b w (length b) 0) (members_held t xs k p.held)
    (open_there d b [] [] w (length b) 0 xs (sizes_of_parts d xs p.normal p.bytes) p.normal refl (omega arith) whole' (λ some. omega (arith, width (omega (arith, many, some)), pos))
    (λ m is less. narrow w (length body) (length es) least m pos size width (sym (zero-add (length body)) ∙ is) less refl))
  where
    narrow : (w n k least m : ℕ) → 0 < least → length b ≡ n + k * least → (0 < k → w ≡ least) → n ≡ m → m < length b → least ≡ least_width n k → least_width m ((length b - m) / w) ≡ w
    narrow w n zero least m pos size width is less e = absurd (omega (arith, size, is, less))
    narrow w n (suc k) least m pos size width is less e =
        let same = width (omega arith) in
        let rest : length b - m ≡ suc k * least = omega (arith, size, is) in
        ap₂ least_width (sym is) (ap₂ ◌/◌ rest same ∙ mul-div_cancel (suc k) pos) ∙ (sym e ∙ sym same)

-- ---- a walk along the members

pub open_iff : (d : ℕ) (t : Ty) (b : List ℕ) → IsBytes b → HasMembers t → fixed_size t ≡ None → (AreOpenFrom d b (offset_width (length b)) (length b) 0 (members t) ↔ IsNormalWithin (suc d) t b)
open_iff d t b bytes k varies = (open_normal d t b bytes k varies, normal_open d t b bytes k varies)

last_is_end : (ts : List Ty) (r : Bool) → ((IsTrue r → ts ≡ []) × (ts ≡ [] → IsTrue r)) → r ≡ is_end (types_from ts)
last_is_end [] r h = h.1 refl
last_is_end (t ∷ ts) true h = absurd (nil_no_cons (sym (h.0 refl)))
last_is_end (t ∷ ts) false h = refl

-- the next member's place, where what is left decides
pub place_turn : (W : Type 0) (d : ℕ) (b : List ℕ) (w v q p from : ℕ) (u : Ty) (left rest : List Ty) (size : Option ℕ) (last : Bool) → left ≡ u ∷ rest → (AreOpenFrom d b w q p (types_from left) ↔ W)
    → v ≡ w → size ≡ fixed_size u → from ≡ round_up (alignment u) p → ((IsTrue last → rest ≡ []) × (rest ≡ [] → IsTrue last))
    → (IsOpenAt d b p u (λ e r. AreOpenFrom d b w r e (types_from rest)) (member_place v b q from size last) ↔ W)
place_turn W d b w v q p from u left rest size last steps h wide size_is from_is ends =
    let Rest : ℕ → ℕ → Type 0 = λ e r. AreOpenFrom d b w r e (types_from rest) in
    let one : IsOpenAt d b p u Rest (member_place w b q (round_up (alignment u) p) (fixed_size u) (is_end (types_from rest))) ↔ W = subst (λ (ts : List Ty). AreOpenFrom d b w q p (types_from ts) ↔ W) steps h in
    let two = subst (λ (f : Option ℕ). IsOpenAt d b p u Rest (member_place w b q (round_up (alignment u) p) f (is_end (types_from rest))) ↔ W) (sym size_is) one in
    let three = subst (λ (l : Bool). IsOpenAt d b p u Rest (member_place w b q (round_up (alignment u) p) size l) ↔ W) (sym (last_is_end rest last ends)) two in
    let four = subst (λ (s : ℕ). IsOpenAt d b p u Rest (member_place w b q s size last) ↔ W) (sym from_is) three in
    subst (λ (n : ℕ). IsOpenAt d b p u Rest (member_place n b q from size last) ↔ W) (sym wide) four

pub member_turn : (W : Type 0) (d : ℕ) (b : List ℕ) (w p from to r : ℕ) (u : Ty) (rest : List Ty) (o : Option (ℕ × ℕ)) → o ≡ Some (to, r) → from ≡ round_up (alignment u) p
    → (IsOpenAt d b p u (λ e q. AreOpenFrom d b w q e (types_from rest)) o ↔ W) → (((LiesAfter b p from to × IsNormalWithin d u (slice_range b from to)) × AreOpenFrom d b w r to (types_from rest)) ↔ W)
member_turn W d b w p from to r u rest o is from_is h =
    let one = subst (λ (x : Option (ℕ × ℕ)). IsOpenAt d b p u (λ e q. AreOpenFrom d b w q e (types_from rest)) x ↔ W) is h in
    subst (λ (s : ℕ). ((LiesAfter b p s to × IsNormalWithin d u (slice_range b s to)) × AreOpenFrom d b w r to (types_from rest)) ↔ W) (sym from_is) one

-- how many values there are in the next member and behind it
pub member_values : (b : List ℕ) (w v q p from to r : ℕ) (u : Ty) (left rest : List Ty) (size : Option ℕ) (last : Bool) → left ≡ u ∷ rest
    → v ≡ w → size ≡ fixed_size u → from ≡ round_up (alignment u) p → ((IsTrue last → rest ≡ []) × (rest ≡ [] → IsTrue last)) → member_place v b q from size last ≡ Some (to, r)
    → open_values b w q p (types_from left) ≡ nodes (decode u (slice_range b from to)) + open_values b w r to (types_from rest)
member_values b w v q p from to r u left rest size last steps wide size_is from_is ends place =
    let Rest : ℕ → ℕ → ℕ = λ e j. open_values b w j e (types_from rest) in
    let here : member_place w b q (round_up (alignment u) p) (fixed_size u) (is_end (types_from rest)) ≡ Some (to, r) =
    ap₂ (λ (x s : ℕ). member_place x b q s (fixed_size u) (is_end (types_from rest))) (sym wide) (sym from_is)
    ∙ (ap₂ (member_place v b q from) (sym size_is) (sym (last_is_end rest last ends)) ∙ place) in
    ap (λ (ts : List Ty). open_values b w q p (types_from ts)) steps
    ∙ (ap (values_at b p u Rest) here ∙ ap (λ (s : ℕ). nodes (decode u (slice_range b s to)) + open_values b w r to (types_from rest)) (sym from_is))

pub no_place : (W : Type 0) (d : ℕ) (b : List ℕ) (p : ℕ) (u : Ty) (Rest : ℕ → ℕ → Type 0) (o : Option (ℕ × ℕ)) → o ≡ None → (IsOpenAt d b p u Rest o ↔ W) → W → ⊥
no_place W d b p u Rest o is h w = (subst (λ (x : Option (ℕ × ℕ)). IsOpenAt d b p u Rest x ↔ W) is h).1 w

pub members_done : (W : Type 0) (d : ℕ) (b : List ℕ) (w q p : ℕ) (left : List Ty) → left ≡ [] → (AreOpenFrom d b w q p (types_from left) ↔ W) → (IsFull b w q p ↔ W)
members_done W d b w q p left steps h = subst (λ (ts : List Ty). AreOpenFrom d b w q p (types_from ts) ↔ W) steps h

-- the place of a member is within the bytes, and the offsets too
pub place_within : (w : ℕ) (b : List ℕ) (q s to r : ℕ) (size : Option ℕ) (last : Bool) → member_place w b q s size last ≡ Some (to, r) → r ≤ q
place_within w b q s to r (Some n) last e = omega (arith, ap (λ (x : ℕ × ℕ). x.1) (same_Some (s + n, q) (to, r) e))
place_within w b q s to r None true e = omega (arith, ap (λ (x : ℕ × ℕ). x.1) (same_Some (q, q) (to, r) e))
place_within w b q s to r None false e = go (nat_lt 0 w && nat_le w q) e
  where
    there : Option (ℕ × ℕ)
    there = Some (number_in (take w (drop (q - w) b)), q - w)

    go : (c : Bool) → cond c there None ≡ Some (to, r) → r ≤ q
    go true k = omega (arith, ap (λ (x : ℕ × ℕ). x.1) (same_Some (number_in (take w (drop (q - w) b)), q - w) (to, r) k))
    go false k = absurd (none-some (to, r) k)

pub sized_place : (w : ℕ) (b : List ℕ) (q s to r n : ℕ) (size : Option ℕ) (last : Bool) → member_place w b q s size last ≡ Some (to, r) → size ≡ Some n → to ≡ s + n
sized_place w b q s to r n (Some m) last e is = sym (ap (λ (x : ℕ × ℕ). x.0) (same_Some (s + m, q) (to, r) e)) ∙ ap (λ (k : ℕ). s + k) (same_Some m n is)
sized_place w b q s to r n None last e is = absurd (none-some n is)

-- the bytes from q on are whole offsets
abbrev pub AreWhole : ℕ → ℕ → ℕ → Type 0
AreWhole w n q = (k : ℕ) × (n ≡ q + k * w)

pub place_whole : (w n : ℕ) (b : List ℕ) (q s to r : ℕ) (size : Option ℕ) (last : Bool) → member_place w b q s size last ≡ Some (to, r) → AreWhole w n q → AreWhole w n r
place_whole w n b q s to r (Some m) last e h = subst (AreWhole w n) (ap (λ (x : ℕ × ℕ). x.1) (same_Some (s + m, q) (to, r) e)) h
place_whole w n b q s to r None true e h = subst (AreWhole w n) (ap (λ (x : ℕ × ℕ). x.1) (same_Some (q, q) (to, r) e)) h
place_whole w n b q s to r None false e h = go (nat_lt 0 w && nat_le w q) refl e
  where
    there : Option (ℕ × ℕ)
    there = Some (number_in (take w (drop (q - w) b)), q - w)

    go : (c : Bool) → (nat_lt 0 w && nat_le w q) ≡ c → cond c there None ≡ Some (to, r) → AreWhole w n r
    go true z k =
        let fits : w ≤ q = grind (arith, z) in
        subst (AreWhole w n) (ap (λ (x : ℕ × ℕ). x.1) (same_Some (number_in (take w (drop (q - w) b)), q - w) (to, r) k)) (suc h.0, omega (arith, h.1, fits))
    go false z k = absurd (none-some (to, r) k)

-- the offsets, where there are some
pub record HasOffsets (v n q p : ℕ) : Type 0 where
  pub some : 0 < (n - q) / v
  pub width : v ≡ offset_width (p + v * ((n - q) / v))

pub has_offsets : (v n q p : ℕ) → v ≡ offset_width n → 0 < v → q < n → p ≡ q → AreWhole (offset_width n) n q → HasOffsets v n q p
has_offsets v n q p wide pos less same h =
    let whole : n ≡ q + h.0 * v = h.1 ∙ ap (λ (x : ℕ). q + h.0 * x) (sym wide) in
    let rest : n - q ≡ h.0 * v = omega (arith, whole) in
    let count : (n - q) / v ≡ h.0 = ap (λ (x : ℕ). x / v) rest ∙ mul-div_cancel h.0 pos in
    let all : p + v * ((n - q) / v) ≡ n = ap₂ (λ (x y : ℕ). x + v * y) same count ∙ (ap (λ (y : ℕ). q + y) (mul_comm v h.0) ∙ sym whole) in
    record { some = positive ((n - q) / v) (count) whole; width = wide ∙ ap offset_width (sym all) }
  where
    positive : (k : ℕ) → k ≡ h.0 → n ≡ q + h.0 * v → 0 < k
    positive zero e w = absurd (omega (arith, less, w, ap (λ (x : ℕ). x * v) (sym e)))
    positive (suc k) e w = omega arith
