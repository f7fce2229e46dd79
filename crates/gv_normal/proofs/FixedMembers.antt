-- A value of a fixed size is normal exactly where its members lie, and are, as written, and the bytes behind them are zero.
use Rattle.std.proofs.Common.{ℕ, suc, ◌+◌, ◌-◌, ◌≤◌, ◌≡◌, ◌↔◌, IsTrue, Bool, false, List, [], ◌∷◌, ◌++◌, length, drop, slice_range, Option, Some, None, refl, sym, ap, ap₂, ◌∙◌, subst, arith, append_assoc, length-append}
use Rattle.std.proofs.Math.Seq.{drop-append_seam}
use Rattle.std.proofs.lemmas.Option.{none-some}
use Rattle.std.proofs.lemmas.Bool.{false≢true}
use Rattle.std.specs.Prelude.{option_and_then, IfSome}
use Rattle.gv_model.specs.Ty.{Ty, Types, members, types_from}
use Rattle.gv_model.specs.Ty.Ty.{basic, variant, array, maybe, tuple, entry}
use Rattle.gv_model.specs.Ty.Types.{end, member}
use Rattle.gv_model.specs.Layout.{alignment, fixed_size, fixed_end, round_up}
use Rattle.gv_model.specs.Typed.{MayHold}
use Rattle.gv_model.specs.Tree.{nodes}
use Rattle.gv_model.specs.Decode.{decode}
use Rattle.gv_model.specs.Parts.{Part, parts, part_trees}
use Rattle.gv_model.specs.Encode.{packed, tuple_bytes, body_from, zeros, start_after, end_after}
use Rattle.gv_model.specs.Normal.{IsContainer}
use Rattle.gv_model.proofs.NumberBytes.{le-round_up}
use Rattle.gv_model.proofs.LayoutLaws.{alignment_pos}
use Rattle.gv_model.proofs.WellTyped.{IsBytes}
use Rattle.gv_model.proofs.MemberLaws.{part_types, HasSize, HaveSizes}
use Rattle.gv_model.proofs.ContainerParts.{Holds, tuple_holds, entry_holds}
use Rattle.gv_model.proofs.PlacedParts.{length-zeros}
use Rattle.gv_normal.specs.InPlace.{IsNormalWithin, LiesAfter, HasMembers}
use Rattle.gv_normal.proofs.PackedParts.{AreNormal, AreOfBytes, PackedOf, values_of, packed_values, normal_of_parts, parts_of_normal, types_of_parts, sizes_of_parts}
use Rattle.gv_normal.proofs.Pieces.{bytes_piece, no_piece, prefix_and_rest, length-piece}
use Rattle.gv_normal.proofs.PartSteps.{joined_there, written_after}

pub packed_members : (t : Ty) (xs : List Part) → HasMembers t → packed t xs ≡ tuple_bytes xs (fixed_size t)
unfolding packed
packed_members (tuple ts) xs h = refl
packed_members (entry k t) xs h = refl
packed_members (basic k) xs h = absurd h
packed_members variant xs h = absurd h
packed_members (array t) xs h = absurd h
packed_members (maybe t) xs h = absurd h

pub held_members : (t : Ty) (xs : List Part) → HasMembers t → part_types xs ≡ members t → MayHold t (part_trees xs)
held_members (tuple ts) xs h e = types_of_parts xs ∙ e
held_members (entry k t) xs h e = types_of_parts xs ∙ e
held_members (basic k) xs h e = absurd h
held_members variant xs h e = absurd h
held_members (array t) xs h e = absurd h
held_members (maybe t) xs h e = absurd h

pub members_held : (t : Ty) (xs : List Part) → HasMembers t → MayHold t (part_trees xs) → part_types xs ≡ members t
members_held (tuple ts) xs h e = sym (types_of_parts xs) ∙ e
members_held (entry k t) xs h e = sym (types_of_parts xs) ∙ e
members_held (basic k) xs h e = absurd h
members_held variant xs h e = absurd h
members_held (array t) xs h e = absurd h
members_held (maybe t) xs h e = absurd h

pub with_members : (t : Ty) → HasMembers t → IsContainer t
with_members (tuple ts) h = tt
with_members (entry k t) h = tt
with_members (basic k) h = absurd h
with_members variant h = tt
with_members (array t) h = tt
with_members (maybe t) h = tt

holds : (t : Ty) (xs : List Part) → HasMembers t → part_types xs ≡ members t → Holds t xs
holds (tuple ts) xs h e = tuple_holds ts xs e
holds (entry k t) xs h e = entry_holds k t xs e
holds (basic k) xs h e = absurd h
holds variant xs h e = absurd h
holds (array t) xs h e = absurd h
holds (maybe t) xs h e = absurd h

-- members that lie from p on, and zero bytes behind them
abbrev pub IsFixedAt : ℕ → List ℕ → ℕ → Ty → (ℕ → Type 0) → Option ℕ → Type 0
IsFixedAt d b p t Rest None = ⊥
IsFixedAt d b p t Rest (Some s) =
    (LiesAfter b p (round_up (alignment t) p) (round_up (alignment t) p + s)
    × IsNormalWithin d t (slice_range b (round_up (alignment t) p) (round_up (alignment t) p + s)))
    × Rest (round_up (alignment t) p + s)

abbrev pub AreFixedFrom : ℕ → List ℕ → ℕ → Types → Type 0
AreFixedFrom d b p end = drop p b ≡ zeros (length b - p)
AreFixedFrom d b p (member t ts) = IsFixedAt d b p t (λ e. AreFixedFrom d b e ts) (fixed_size t)

-- how many values are in them
abbrev pub values_at : List ℕ → ℕ → Ty → (ℕ → ℕ) → Option ℕ → ℕ
values_at b p t rest None = 0
values_at b p t rest (Some s) = nodes (decode t (slice_range b (round_up (alignment t) p) (round_up (alignment t) p + s))) + rest (round_up (alignment t) p + s)

abbrev pub fixed_values : List ℕ → ℕ → Types → ℕ
fixed_values b p end = 0
fixed_values b p (member t ts) = values_at b p t (λ e. fixed_values b e ts) (fixed_size t)

-- parts that are packed from p on
pub record HasFixed (d : ℕ) (b : List ℕ) (p : ℕ) (ts : Types) : Type 0 where
  pub parts : List Part
  pub types : part_types parts ≡ ts
  pub normal : AreNormal d parts
  pub bytes : AreOfBytes parts
  pub last : ℕ
  pub low : p ≤ last
  pub high : last ≤ length b
  pub body : body_from p parts ≡ slice_range b p last
  pub rest : drop last b ≡ zeros (length b - last)
  pub values : values_of parts ≡ fixed_values b p ts

pub fixed_back : (d : ℕ) (b : List ℕ) → IsBytes b → (ts : Types) (p : ℕ) → p ≤ length b → AreFixedFrom d b p ts → HasFixed d b p ts
unfolding body_from
fixed_back d b bytes end p le h = record { parts = []; types = refl; normal = tt; bytes = tt; last = p; low = omega arith; high = le; body = sym (no_piece b p); rest = h; values = refl }
fixed_back d b bytes (member t ts) p le h = go (fixed_size t) refl h (λ q. fixed_back d b bytes ts q)
  where
    s : ℕ
    s = round_up (alignment t) p

    go : (f : Option ℕ) → fixed_size t ≡ f → IsFixedAt d b p t (λ e. AreFixedFrom d b e ts) f → ((q : ℕ) → q ≤ length b → AreFixedFrom d b q ts → HasFixed d b q ts) → HasFixed d b p (member t ts)
    go None is k rest = absurd k
    go (Some n) is k rest =
        let lies = k.0.0 in
        let r = rest (s + n) lies.within k.1 in
        let low = le-round_up (alignment t) p (alignment_pos t) in
        record {
          parts = (t, slice_range b s (s + n)) ∷ r.parts;
          types = ap (member t) r.types;
          normal = (k.0.1, r.normal);
          bytes = (bytes_piece b s (s + n) bytes, r.bytes);
          last = r.last;
          low = omega (arith, low, r.low);
          high = r.high;
          body = joined_there b t p (s + n) r.last r.parts lies r.low r.body;
          rest = r.rest;
          values = ap (λ (m : ℕ). nodes (decode t (slice_range b s (s + n))) + m) r.values ∙ sym (ap (values_at b p t (λ e. fixed_values b e ts)) is);
        }

abbrev AllFixed : List Part → Type 0
AllFixed [] = Unit {0}
AllFixed (x ∷ xs) = ((n : ℕ) × (fixed_size x.0 ≡ Some n)) × AllFixed xs

all_fixed : (xs : List Part) (p q : ℕ) → fixed_end (part_types xs) p ≡ Some q → AllFixed xs
unfolding fixed_end
all_fixed [] p q h = tt
all_fixed (x ∷ xs) p q h = go (fixed_size x.0) refl h (λ r. all_fixed xs r q)
  where
    go : (f : Option ℕ) → fixed_size x.0 ≡ f → option_and_then (λ s. fixed_end (part_types xs) (round_up (alignment x.0) p + s)) f ≡ Some q → ((r : ℕ) → fixed_end (part_types xs) r ≡ Some q → AllFixed xs) → AllFixed (x ∷ xs)
    go None e k rest = absurd (none-some q k)
    go (Some n) e k rest = ((n, e), rest (round_up (alignment x.0) p + n) k)

pub fixed_there : (d : ℕ) (b front tail : List ℕ) (p : ℕ) (xs : List Part) → AllFixed xs → HaveSizes xs → AreNormal d xs → length front ≡ p → b ≡ front ++ (body_from p xs ++ tail) → tail ≡ zeros (length tail) → AreFixedFrom d b p (part_types xs)
unfolding body_from
fixed_there d b front tail p [] f g h k whole zero =
    let size : length b ≡ length front + length tail = ap length whole ∙ length-append front tail in
    let rest : length tail ≡ length b - p = omega (arith, size, k) in
    ap₂ drop (sym k) whole ∙ (drop-append_seam front tail ∙ (zero ∙ ap zeros rest))
fixed_there d b front tail p (x ∷ xs) f g h k whole zero =
    let one = whole ∙ ap (λ (r : List ℕ). front ++ r) (split (zeros (start_after p x - p)) x.1 (body_from (end_after p x) xs) tail) in
    let w = written_after b front (body_from (end_after p x) xs ++ tail) p x k one in
    let size : length x.1 ≡ f.0.0 = subst (λ (o : Option ℕ). HasSize o x) f.0.1 g.0 in
    let to : end_after p x ≡ start_after p x + f.0.0 = ap (λ (n : ℕ). start_after p x + n) size in
    let here : LiesAfter b p (start_after p x) (end_after p x) × IsNormalWithin d x.0 (slice_range b (start_after p x) (end_after p x)) = (w.lies, subst (IsNormalWithin d x.0) (sym w.piece) h.0) in
    subst (IsFixedAt d b p x.0 (λ e. AreFixedFrom d b e (part_types xs))) (sym f.0.1)
    (subst (λ (e : ℕ). (LiesAfter b p (start_after p x) e × IsNormalWithin d x.0 (slice_range b (start_after p x) e)) × AreFixedFrom d b e (part_types xs)) to
    (here, fixed_there d b w.front tail (end_after p x) xs f.1 g.1 h.1 w.size w.whole zero))
  where
    split : (z y r t : List ℕ) → (z ++ (y ++ r)) ++ t ≡ z ++ (y ++ (r ++ t))
    split z y r t = simp append_assoc

-- ---- the whole

-- what fixed members pack
record IsPackedBy (d : ℕ) (t : Ty) (b : List ℕ) : Type 0 where
  pub parts : List Part
  pub packed : PackedOf d t b parts
  pub values : values_of parts ≡ fixed_values b 0 (members t)

fixed_packed : (d : ℕ) (t : Ty) (b : List ℕ) → IsBytes b → HasMembers t → fixed_size t ≡ Some (length b) → AreFixedFrom d b 0 (members t) → IsPackedBy d t b
fixed_packed d t b bytes k fixed h =
    let r = fixed_back d b bytes (members t) 0 (omega arith) h in
    let long : length (body_from 0 r.parts) ≡ r.last = ap length r.body ∙ (length-piece b 0 r.last r.high ∙ omega arith) in
    let tail : zeros (length b - length (body_from 0 r.parts)) ≡ drop r.last b = ap (λ (n : ℕ). zeros (length b - n)) long ∙ sym r.rest in
    record {
      parts = r.parts;
      packed = record {
        held = held_members t r.parts k r.types;
        normal = r.normal;
        bytes = r.bytes;
        whole = sym (packed_members t r.parts k ∙ (ap (tuple_bytes r.parts) fixed ∙ (ap₂ ◌++◌ r.body tail ∙ prefix_and_rest b r.last)));
      };
      values = r.values;
    }

pub fixed_normal : (d : ℕ) (t : Ty) (b : List ℕ) → IsBytes b → HasMembers t → fixed_size t ≡ Some (length b) → AreFixedFrom d b 0 (members t) → IsNormalWithin (suc d) t b
fixed_normal d t b bytes k fixed h = let p = fixed_packed d t b bytes k fixed h in normal_of_parts d t b p.parts p.packed

pub fixed_count : (d : ℕ) (t : Ty) (b : List ℕ) → IsBytes b → HasMembers t → fixed_size t ≡ Some (length b) → AreFixedFrom d b 0 (members t) → nodes (decode t b) ≡ suc (fixed_values b 0 (members t))
fixed_count d t b bytes k fixed h = let p = fixed_packed d t b bytes k fixed h in packed_values d t b p.parts p.packed ∙ ap (λ (n : ℕ). suc n) p.values

pub normal_fixed : (d : ℕ) (t : Ty) (b : List ℕ) → IsBytes b → HasMembers t → fixed_size t ≡ Some (length b) → IsNormalWithin (suc d) t b → AreFixedFrom d b 0 (members t)
normal_fixed d t b bytes k fixed h =
    let p = parts_of_normal d t b bytes (with_members t k) h in
    let xs = parts t b in
    let types = members_held t xs k p.held in
    let held = holds t xs k types (length b) fixed in
    let sizes = sizes_of_parts d xs p.normal p.bytes in
    let n = length b - length (body_from 0 xs) in
    let whole : b ≡ body_from 0 xs ++ zeros n = p.whole ∙ (packed_members t xs k ∙ ap (tuple_bytes xs) fixed) in
    subst (AreFixedFrom d b 0) types
    (fixed_there d b [] (zeros n) 0 xs (all_fixed xs 0 held.0 held.1) sizes p.normal refl whole (ap zeros (sym (length-zeros n))))

-- ---- a walk along the members

pub never : {N : Type 0} → (N → ⊥) → (IsTrue false ↔ N)
never f = (λ h. absurd (false≢true h), λ n. absurd (f n))

pub told : {P : Type 0} {r : Bool} → (IsTrue r ↔ P) → r ≡ false → P → ⊥
told h e p = absurd (false≢true (sym e ∙ h.1 p))

pub fixed_iff : (d : ℕ) (t : Ty) (b : List ℕ) → IsBytes b → HasMembers t → fixed_size t ≡ Some (length b) → (AreFixedFrom d b 0 (members t) ↔ IsNormalWithin (suc d) t b)
fixed_iff d t b bytes k fixed = (fixed_normal d t b bytes k fixed, normal_fixed d t b bytes k fixed)

-- the next member, where what is left decides
pub fixed_turn : (W : Type 0) (d : ℕ) (b : List ℕ) (p from s : ℕ) (u : Ty) (left rest : List Ty) → left ≡ u ∷ rest → (AreFixedFrom d b p (types_from left) ↔ W) → fixed_size u ≡ Some s → from ≡ round_up (alignment u) p
    → (((LiesAfter b p from (from + s) × IsNormalWithin d u (slice_range b from (from + s))) × AreFixedFrom d b (from + s) (types_from rest)) ↔ W)
fixed_turn W d b p from s u left rest steps h e is =
    let one : IsFixedAt d b p u (λ q. AreFixedFrom d b q (types_from rest)) (fixed_size u) ↔ W = subst (λ (ts : List Ty). AreFixedFrom d b p (types_from ts) ↔ W) steps h in
    let two = subst (λ (o : Option ℕ). IsFixedAt d b p u (λ q. AreFixedFrom d b q (types_from rest)) o ↔ W) e one in
    subst (λ (r : ℕ). ((LiesAfter b p r (r + s) × IsNormalWithin d u (slice_range b r (r + s))) × AreFixedFrom d b (r + s) (types_from rest)) ↔ W) (sym is) two

-- and how many values there are in it and behind it
pub fixed_turn_values : (b : List ℕ) (p from s : ℕ) (u : Ty) (left rest : List Ty) → left ≡ u ∷ rest → fixed_size u ≡ Some s → from ≡ round_up (alignment u) p
    → fixed_values b p (types_from left) ≡ nodes (decode u (slice_range b from (from + s))) + fixed_values b (from + s) (types_from rest)
fixed_turn_values b p from s u left rest steps e is =
    ap (λ (ts : List Ty). fixed_values b p (types_from ts)) steps
    ∙ (ap (values_at b p u (λ q. fixed_values b q (types_from rest))) e
    ∙ ap (λ (r : ℕ). nodes (decode u (slice_range b r (r + s))) + fixed_values b (r + s) (types_from rest)) (sym is))

pub fixed_none : (W : Type 0) (d : ℕ) (b : List ℕ) (p : ℕ) (u : Ty) (left rest : List Ty) → left ≡ u ∷ rest → (AreFixedFrom d b p (types_from left) ↔ W) → fixed_size u ≡ None → W → ⊥
fixed_none W d b p u left rest steps h e w =
    let one : IsFixedAt d b p u (λ q. AreFixedFrom d b q (types_from rest)) (fixed_size u) ↔ W = subst (λ (ts : List Ty). AreFixedFrom d b p (types_from ts) ↔ W) steps h in
    let two = subst (λ (o : Option ℕ). IsFixedAt d b p u (λ q. AreFixedFrom d b q (types_from rest)) o ↔ W) e one in
    two.1 w

pub fixed_done : (W : Type 0) (d : ℕ) (b : List ℕ) (p : ℕ) (left : List Ty) → left ≡ [] → (AreFixedFrom d b p (types_from left) ↔ W) → ((drop p b ≡ zeros (length b - p)) ↔ W)
fixed_done W d b p left steps h = subst (λ (ts : List Ty). AreFixedFrom d b p (types_from ts) ↔ W) steps h

pub if_some : (P : ℕ → Type 0) (o : Option ℕ) → ((n : ℕ) → o ≡ Some n → P n) → IfSome o P
if_some P None f = tt
if_some P (Some n) f = f n refl
