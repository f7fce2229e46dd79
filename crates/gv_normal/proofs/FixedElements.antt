-- An array of elements of a fixed size is normal exactly where they are, one after the other.
use Rattle.std.proofs.Common.{ℕ, zero, suc, ◌+◌, ◌-◌, ◌*◌, ◌/◌, ◌%◌, ◌<◌, ◌≤◌, ◌≡◌, ◌≢◌, ◌↔◌, IsTrue, Bool, List, [], ◌∷◌, ◌++◌, length, take, drop, slice_range, Option, Some, refl, sym, ap, ap₂, ◌∙◌, subst, arith, length-drop, div-add-mod'}
use Rattle.std.proofs.Math.Nat.{mul-mod_left, mul-div_cancel}
use Rattle.std.proofs.lemmas.List.{take_at, drop_at, take-append-drop, length-take-le, drop-drop}
use Rattle.std.specs.Prelude.{All}
use Rattle.std.proofs.lemmas.List.Elements.{All-nil, All-cons, All-head, All-tail}
use Rattle.gv_model.specs.Ty.{Ty, Basic}
use Rattle.gv_model.specs.Ty.Ty.{basic, array}
use Rattle.gv_model.specs.Tree.{nodes}
use Rattle.gv_model.specs.Decode.{decode}
use Rattle.gv_model.specs.Ty.Basic.{boolean, byte, int16, uint16, int32, uint32, int64, uint64, handle, double, string, path, signature}
use Rattle.gv_model.specs.Layout.{fixed_size, basic_size}
use Rattle.gv_model.specs.BasicValue.{number_in}
use Rattle.gv_model.specs.Parts.{Part, parts}
use Rattle.gv_model.specs.Encode.{packed, array_bytes, joined_parts}
use Rattle.gv_model.proofs.ContainerParts.{one_size}
use Rattle.gv_model.proofs.EmptyLaws.{fixed_size_pos}
use Rattle.gv_model.proofs.MemberLaws.{HasSize, HaveSizes}
use Rattle.gv_model.proofs.PlacedParts.{OneType}
use Rattle.gv_model.proofs.WellTyped.{IsBytes, bytes_take, bytes_drop}
use Rattle.gv_normal.specs.InPlace.{IsNormalWithin, AreNormalNumbers}
use Rattle.gv_types.specs.Classes.{basic_of}
use Rattle.gv_types.specs.declared.class.BasicType.{BasicType}
use Rattle.gv_normal.proofs.PackedParts.{AreNormal, AreOfBytes, PackedOf, basic_value_is_one, values_of, packed_values, normal_of_parts, parts_of_normal, one_type_held, held_one_type, sizes_of_parts, some_level}
use Rattle.gv_normal.proofs.BasicBytes.{basic_within, number_normal, other_bits, boolean_normal}

-- so many elements of n bytes each
abbrev pub AreChunks : ℕ → Ty → ℕ → ℕ → List ℕ → Type 0
AreChunks d t n zero b = Unit {0}
AreChunks d t n (suc k) b = IsNormalWithin d t (take n b) × AreChunks d t n k (drop n b)

-- how many values are in them
abbrev pub chunk_values : Ty → ℕ → ℕ → List ℕ → ℕ
chunk_values t n zero b = 0
chunk_values t n (suc k) b = nodes (decode t (take n b)) + chunk_values t n k (drop n b)

pub record HasChunks (d : ℕ) (t : Ty) (n k : ℕ) (b : List ℕ) : Type 0 where
  pub parts : List Part
  pub one : OneType t parts
  pub normal : AreNormal d parts
  pub bytes : AreOfBytes parts
  pub joined : joined_parts parts ≡ b
  pub values : values_of parts ≡ chunk_values t n k b

chunks_back : (d : ℕ) (t : Ty) (n k : ℕ) (b : List ℕ) → IsBytes b → length b ≡ k * n → AreChunks d t n k b → HasChunks d t n k b
chunks_back d t n zero [] bytes e h = record { parts = []; one = tt; normal = tt; bytes = tt; joined = refl; values = refl }
chunks_back d t n zero (x ∷ b) bytes e h = absurd (omega (arith, e))
chunks_back d t n (suc k) b bytes e h =
    let r = chunks_back d t n k (drop n b) (bytes_drop n b bytes) (omega (arith, length-drop n b, e)) h.1 in
    record {
      parts = (t, take n b) ∷ r.parts;
      one = (refl, r.one);
      normal = (h.0, r.normal);
      bytes = (bytes_take n b bytes, r.bytes);
      joined = ap (λ (c : List ℕ). take n b ++ c) r.joined ∙ take-append-drop n b;
      values = ap (λ (m : ℕ). nodes (decode t (take n b)) + m) r.values;
    }

chunks_there : (d : ℕ) (t : Ty) (n : ℕ) (xs : List Part) → fixed_size t ≡ Some n → OneType t xs → HaveSizes xs → AreNormal d xs → AreChunks d t n (length xs) (joined_parts xs)
chunks_there d t n [] e h g k = tt
chunks_there d t n (x ∷ xs) e h g k =
    let size : length x.1 ≡ n = subst (λ (o : Option ℕ). HasSize o x) (ap fixed_size h.0 ∙ e) g.0 in
    let front : take n (x.1 ++ joined_parts xs) ≡ x.1 = take_at x.1 (joined_parts xs) n size in
    let rest : drop n (x.1 ++ joined_parts xs) ≡ joined_parts xs = drop_at x.1 (joined_parts xs) n size in
    let here : IsNormalWithin d t x.1 = subst (λ (u : Ty). IsNormalWithin d u x.1) h.0 k.0 in
    (subst (IsNormalWithin d t) (sym front) here, subst (AreChunks d t n (length xs)) (sym rest) (chunks_there d t n xs e h.1 g.1 k.1))

packed_fixed : (t : Ty) (n : ℕ) (xs : List Part) → fixed_size t ≡ Some n → packed (array t) xs ≡ joined_parts xs
unfolding packed
packed_fixed t n xs e = ap (array_bytes xs) e

-- what whole chunks pack
record ArePackedBy (d : ℕ) (t : Ty) (n : ℕ) (b : List ℕ) : Type 0 where
  pub parts : List Part
  pub packed : PackedOf d (array t) b parts
  pub values : values_of parts ≡ chunk_values t n (length b / n) b

chunks_packed : (d : ℕ) (t : Ty) (n : ℕ) (b : List ℕ) → IsBytes b → fixed_size t ≡ Some n → length b % n ≡ 0 → AreChunks d t n (length b / n) b → ArePackedBy d t n b
chunks_packed d t n b bytes e even h =
    let whole : length b ≡ (length b / n) * n = omega (arith, even, div-add-mod' (length b) n) in
    let r = chunks_back d t n (length b / n) b bytes whole h in
    record {
      parts = r.parts;
      packed = record { held = held_one_type t r.parts r.one; normal = r.normal; bytes = r.bytes; whole = sym (packed_fixed t n r.parts e ∙ r.joined) };
      values = r.values;
    }

pub chunks_normal : (d : ℕ) (t : Ty) (n : ℕ) (b : List ℕ) → IsBytes b → fixed_size t ≡ Some n → length b % n ≡ 0 → AreChunks d t n (length b / n) b → IsNormalWithin (suc d) (array t) b
chunks_normal d t n b bytes e even h = let p = chunks_packed d t n b bytes e even h in normal_of_parts d (array t) b p.parts p.packed

pub chunks_values : (d : ℕ) (t : Ty) (n : ℕ) (b : List ℕ) → IsBytes b → fixed_size t ≡ Some n → length b % n ≡ 0 → AreChunks d t n (length b / n) b
    → nodes (decode (array t) b) ≡ suc (chunk_values t n (length b / n) b)
chunks_values d t n b bytes e even h =
    let p = chunks_packed d t n b bytes e even h in packed_values d (array t) b p.parts p.packed ∙ ap (λ (m : ℕ). suc m) p.values

pub record IsEven (d : ℕ) (t : Ty) (n : ℕ) (b : List ℕ) : Type 0 where
  pub even : length b % n ≡ 0
  pub chunks : AreChunks d t n (length b / n) b

pub normal_chunks : (d : ℕ) (t : Ty) (n : ℕ) (b : List ℕ) → IsBytes b → fixed_size t ≡ Some n → IsNormalWithin (suc d) (array t) b → IsEven d t n b
normal_chunks d t n b bytes e h =
    let p = parts_of_normal d (array t) b bytes tt h in
    let xs = parts (array t) b in
    let one = one_type_held t xs p.held in
    let sizes = sizes_of_parts d xs p.normal p.bytes in
    let whole : b ≡ joined_parts xs = p.whole ∙ packed_fixed t n xs e in
    let size : length b ≡ length xs * n = ap length whole ∙ one_size n t xs e one sizes in
    let count : length b / n ≡ length xs = ap (λ (m : ℕ). m / n) size ∙ mul-div_cancel (length xs) (fixed_size_pos t n e) in
    record {
      even = ap (λ (m : ℕ). m % n) size ∙ mul-mod_left (length xs) n;
      chunks = subst (λ (k : ℕ). AreChunks d t n k b) (sym count) (subst (AreChunks d t n (length xs)) (sym whole) (chunks_there d t n xs e one sizes p.normal));
    }

-- element i and those after it, where what is left decides
pub chunk_turn : (W : Type 0) (d : ℕ) (t : Ty) (n k i : ℕ) (b : List ℕ) → i < k → (AreChunks d t n (k - i) (drop (i * n) b) ↔ W)
    → ((IsNormalWithin d t (slice_range b (i * n) (i * n + n)) × AreChunks d t n (k - (i + 1)) (drop ((i + 1) * n) b)) ↔ W)
chunk_turn W d t n k i b less h =
    let more : k - i ≡ suc (k - (i + 1)) = omega arith in
    let place : i * n + n ≡ (i + 1) * n = omega arith in
    let size : n ≡ i * n + n - i * n = omega arith in
    let one : AreChunks d t n (suc (k - (i + 1))) (drop (i * n) b) ↔ W = subst (λ (m : ℕ). AreChunks d t n m (drop (i * n) b) ↔ W) more h in
    let two = subst (λ (c : List ℕ). (IsNormalWithin d t (take n (drop (i * n) b)) × AreChunks d t n (k - (i + 1)) c) ↔ W) (drop-drop n (i * n) b ∙ ap (λ (m : ℕ). drop m b) place) one in
    subst (λ (m : ℕ). (IsNormalWithin d t (take m (drop (i * n) b)) × AreChunks d t n (k - (i + 1)) (drop ((i + 1) * n) b)) ↔ W) size two

pub chunks_done : (W : Type 0) (d : ℕ) (t : Ty) (n k i : ℕ) (b : List ℕ) → k ≤ i → (AreChunks d t n (k - i) (drop (i * n) b) ↔ W) → W
chunks_done W d t n k i b le h =
    let none : k - i ≡ 0 = omega arith in
    (subst (λ (m : ℕ). AreChunks d t n m (drop (i * n) b) ↔ W) none h).0 tt

-- how many values are in element i and those after it
pub chunk_turn_values : (t : Ty) (n k i : ℕ) (b : List ℕ) → i < k
    → chunk_values t n (k - i) (drop (i * n) b) ≡ nodes (decode t (slice_range b (i * n) (i * n + n))) + chunk_values t n (k - (i + 1)) (drop ((i + 1) * n) b)
chunk_turn_values t n k i b less =
    let more : k - i ≡ suc (k - (i + 1)) = omega arith in
    let place : i * n + n ≡ (i + 1) * n = omega arith in
    let size : n ≡ i * n + n - i * n = omega arith in
    ap (λ (m : ℕ). chunk_values t n m (drop (i * n) b)) more
    ∙ ap₂ (λ (m : ℕ) (c : List ℕ). nodes (decode t (take m (drop (i * n) b))) + chunk_values t n (k - (i + 1)) c) size (drop-drop n (i * n) b ∙ ap (λ (m : ℕ). drop m b) place)

pub no_chunk_values : (t : Ty) (n k i : ℕ) (b : List ℕ) → k ≤ i → chunk_values t n (k - i) (drop (i * n) b) ≡ 0
no_chunk_values t n k i b le = ap (λ (m : ℕ). chunk_values t n m (drop (i * n) b)) (let none : k - i ≡ 0 = omega arith in none)

-- ---- numbers

-- each is one value
number_values : (k : Basic) (n count : ℕ) (b : List ℕ) → IsBytes b → chunk_values (basic k) n count b ≡ count
number_values k n zero b bytes = refl
number_values k n (suc count) b bytes = omega (arith, basic_value_is_one k (take n b) (bytes_take n b bytes), number_values k n count (drop n b) (bytes_drop n b bytes))

-- an array of so many numbers has one value more
pub numbers_values : (d n : ℕ) (t : Ty) (k : BasicType) (b : List ℕ) → IsBytes b → t ≡ basic (basic_of k) → fixed_size t ≡ Some n → IsNormalWithin (suc d) (array t) b → nodes (decode (array t) b) ≡ suc (length b / n)
numbers_values d n t k b bytes is e h =
    let r = normal_chunks d t n b bytes e h in
    chunks_values d t n b bytes e r.even r.chunks ∙ ap (λ (m : ℕ). suc m) (ap (λ (u : Ty). chunk_values u n (length b / n) b) is ∙ number_values (basic_of k) n (length b / n) b bytes)

pub no_levels : (t : Ty) (n k : ℕ) (b : List ℕ) → 0 < k → AreChunks 0 t n k b → ⊥
no_levels t n zero b some h = absurd (omega (arith, some))
no_levels t n (suc k) b some h = some_level t (take n b) h.0

pub numbers_normal : (d : ℕ) (k : Basic) (n count : ℕ) (b : List ℕ) → IsBytes b → basic_size k ≡ Some n → k ≢ boolean → length b ≡ count * n → AreChunks (suc d) (basic k) n count b
numbers_normal d k n zero b bytes e other size = tt
numbers_normal d k n (suc count) b bytes e other size = (
  (basic_within d k (take n b)).1 (number_normal k (take n b) n (bytes_take n b bytes) e (length-take-le n b (omega (arith, size))) (other_bits k other (number_in (take n b)))),
  numbers_normal d k n count (drop n b) (bytes_drop n b bytes) e other (omega (arith, length-drop n b, size)),
)

booleans_normal : (d : ℕ) (b : List ℕ) → (AreChunks (suc d) (basic boolean) 1 (length b) b ↔ All (λ x. x ≤ 1) b)
booleans_normal d [] = (λ h. All-nil (λ x. x ≤ 1), λ h. tt)
booleans_normal d (x ∷ b) =
    let rest = booleans_normal d b in
    let one = basic_within d boolean (x ∷ []) in
    (λ h. All-cons (λ x. x ≤ 1) x b ((boolean_normal x).0 (one.0 h.0)) (rest.0 h.1), λ h. (one.1 ((boolean_normal x).1 (All-head (λ x. x ≤ 1) x b h)), rest.1 (All-tail (λ x. x ≤ 1) x b h)))

-- whole numbers in an array
numbers_iff : (d : ℕ) (k : Basic) (n : ℕ) (b : List ℕ) → IsBytes b → basic_size k ≡ Some n → length b % n ≡ 0 → (AreNormalNumbers k b ↔ IsNormalWithin (suc (suc d)) (array (basic k)) b)
unfolding fixed_size
numbers_iff d k n b bytes e even = go k e
  where
    whole : length b ≡ (length b / n) * n
    whole = omega (arith, even, div-add-mod' (length b) n)

    ones : length b / 1 ≡ length b
    ones = omega arith

    other : (k : Basic) → basic_size k ≡ Some n → k ≢ boolean → IsNormalWithin (suc (suc d)) (array (basic k)) b
    other k e differs = chunks_normal (suc d) (basic k) n b bytes e even (numbers_normal d k n (length b / n) b bytes e differs whole)

    booleans : AreNormalNumbers boolean b ↔ IsNormalWithin (suc (suc d)) (array (basic boolean)) b
    booleans =
        let law = booleans_normal d b in
        let even' : length b % 1 ≡ 0 = omega arith in (
          λ h. chunks_normal (suc d) (basic boolean) 1 b bytes refl even' (subst (λ (m : ℕ). AreChunks (suc d) (basic boolean) 1 m b) (sym ones) (law.1 h)),
          λ h. law.0 (subst (λ (m : ℕ). AreChunks (suc d) (basic boolean) 1 m b) ones (normal_chunks (suc d) (basic boolean) 1 b bytes refl h).chunks),
        )

    go : (k : Basic) → basic_size k ≡ Some n → (AreNormalNumbers k b ↔ IsNormalWithin (suc (suc d)) (array (basic k)) b)
    go boolean e = booleans
    go byte e = (λ h. other byte e (λ r. cc), λ h. tt)
    go int16 e = (λ h. other int16 e (λ r. cc), λ h. tt)
    go uint16 e = (λ h. other uint16 e (λ r. cc), λ h. tt)
    go int32 e = (λ h. other int32 e (λ r. cc), λ h. tt)
    go uint32 e = (λ h. other uint32 e (λ r. cc), λ h. tt)
    go int64 e = (λ h. other int64 e (λ r. cc), λ h. tt)
    go uint64 e = (λ h. other uint64 e (λ r. cc), λ h. tt)
    go handle e = (λ h. other handle e (λ r. cc), λ h. tt)
    go double e = (λ h. other double e (λ r. cc), λ h. tt)
    go string e = (λ h. other string e (λ r. cc), λ h. tt)
    go path e = (λ h. other path e (λ r. cc), λ h. tt)
    go signature e = (λ h. other signature e (λ r. cc), λ h. tt)

-- by the type as the code has it
pub numbers_told : (d m : ℕ) (t : Ty) (k : BasicType) (n : ℕ) (b : List ℕ) (r : Bool) → IsBytes b → t ≡ basic (basic_of k) → m ≡ suc d → fixed_size t ≡ Some n → length b % n ≡ 0 → (IsTrue r ↔ AreNormalNumbers (basic_of k) b) → (IsTrue r ↔ IsNormalWithin (suc m) (array t) b)
unfolding fixed_size
numbers_told d m t k n b r bytes is low e even h =
    let size : basic_size (basic_of k) ≡ Some n = ap fixed_size (sym is) ∙ e in
    let law = numbers_iff d (basic_of k) n b bytes size even in
    subst (λ (j : ℕ). IsTrue r ↔ IsNormalWithin (suc j) (array t) b) (sym low) (subst (λ (u : Ty). IsTrue r ↔ IsNormalWithin (suc (suc d)) (array u) b) (sym is) (λ g. law.0 (h.0 g), λ g. h.1 (law.1 g)))

-- some numbers are of a level themselves
pub no_numbers : (m n : ℕ) (t : Ty) (b : List ℕ) → IsBytes b → m ≡ 0 → 0 < length b → fixed_size t ≡ Some n → length b % n ≡ 0 → IsNormalWithin (suc m) (array t) b → ⊥
no_numbers m n t b bytes low some e even h =
    let r = normal_chunks m t n b bytes e h in
    let whole : length b ≡ (length b / n) * n = omega (arith, even, div-add-mod' (length b) n) in
    no_levels t n (length b / n) b (count (length b / n) whole) (subst (λ (d : ℕ). AreChunks d t n (length b / n) b) low r.chunks)
  where
    count : (k : ℕ) → length b ≡ k * n → 0 < k
    count zero h = absurd (omega (arith, h, some))
    count (suc k) h = omega arith
