-- What occurs in a file is what is read there.
use Rattle.std.proofs.Common.{◌≡◌, ◌<◌, ◌≤◌, ◌+◌, ◌-◌, ◌*◌, ℕ, zero, suc, List, [], ◌∷◌, ◌++◌, length, get_or, take, drop, refl, sym, ap, ◌∙◌, arith, append_assoc, length-append}
use Rattle.std.specs.Prelude.{slice_range}
use Rattle.std.specs.List.{flat_map}
use Rattle.std.proofs.lemmas.List.{append-nil, drop_at, take_at, get_or-append-add, length-take-le, length-drop}
use Rattle.gv_model.specs.Encode.{number_bytes}
use Rattle.gv_model.specs.BasicValue.{number_in}
use Rattle.gv_model.proofs.NumberBytes.{length-number_bytes, number_in-number_bytes}
use Rattle.dconf_model.specs.Bytes.{u32_at, u16_at, u8_at}
use Rattle.dconf_model.specs.TableBytes.{OccursAt}

-- ---- where bytes are

pub occurs_at : (file : List ℕ) (at to : ℕ) (bytes : List ℕ) → at ≡ to → OccursAt file at bytes → OccursAt file to bytes
occurs_at file at to bytes e s = record { prefix = s.prefix; back = s.back; whole = s.whole; place = s.place ∙ e }

-- what is appended occurs at the end, and what was there before is still there
pub occurs_last : (file bytes : List ℕ) → OccursAt (file ++ bytes) (length file) bytes
occurs_last file bytes = record { prefix = file; back = []; whole = ap (λ (l : List ℕ). file ++ l) (sym (append-nil bytes)); place = refl }

pub occurs_still : (file : List ℕ) (at : ℕ) (bytes after : List ℕ) → OccursAt file at bytes → OccursAt (file ++ after) at bytes
occurs_still file at bytes after s = record {
  prefix = s.prefix;
  back = s.back ++ after;
  whole = ap (λ (l : List ℕ). l ++ after) s.whole ∙ (append_assoc s.prefix (bytes ++ s.back) after ∙ ap (λ (l : List ℕ). s.prefix ++ l) (append_assoc bytes s.back after));
  place = s.place;
}

-- the first part of what is there, and the rest
pub occurs_prefix : (file : List ℕ) (at : ℕ) (a b : List ℕ) → OccursAt file at (a ++ b) → OccursAt file at a
occurs_prefix file at a b s = record {
  prefix = s.prefix;
  back = b ++ s.back;
  whole = s.whole ∙ ap (λ (l : List ℕ). s.prefix ++ l) (append_assoc a b s.back);
  place = s.place;
}

pub occurs_suffix : (file : List ℕ) (at : ℕ) (a b : List ℕ) → OccursAt file at (a ++ b) → OccursAt file (at + length a) b
occurs_suffix file at a b s = record {
  prefix = s.prefix ++ a;
  back = s.back;
  whole = s.whole ∙ (ap (λ (l : List ℕ). s.prefix ++ l) (append_assoc a b s.back) ∙ sym (append_assoc s.prefix a (b ++ s.back)));
  place = length-append s.prefix a ∙ ap (λ (n : ℕ). n + length a) s.place;
}

-- the rest, where the first part has so many bytes
pub occurs_next : (file : List ℕ) (at n : ℕ) (a b : List ℕ) → length a ≡ n → OccursAt file at (a ++ b) → OccursAt file (at + n) b
occurs_next file at n a b e s = occurs_at file (at + length a) (at + n) b (omega (arith, e)) (occurs_suffix file at a b s)

-- it ends in the file
pub occurs_inside : (file : List ℕ) (at : ℕ) (bytes : List ℕ) → OccursAt file at bytes → at + length bytes ≤ length file
occurs_inside file at bytes s =
    let n : length file ≡ length s.prefix + (length bytes + length s.back) =
    ap length s.whole ∙ (length-append s.prefix (bytes ++ s.back) ∙ ap (λ (n : ℕ). length s.prefix + n) (length-append bytes s.back)) in
    let p = s.place in omega (arith, n, p)

-- ---- what is read

pub range_length : (xs : List ℕ) (a b : ℕ) → a ≤ b → b ≤ length xs → length (slice_range xs a b) ≡ b - a
range_length xs a b le inside = let n = length-drop a xs in length-take-le (b - a) (drop a xs) (omega (arith, n, le, inside))

range_of : (prefix bytes back : List ℕ) (at size : ℕ) → length prefix ≡ at → length bytes ≡ size → slice_range (prefix ++ (bytes ++ back)) at (at + size) ≡ bytes
range_of prefix bytes back at size p n =
    let gap : at + size - at ≡ size = omega arith in
    ap (λ (k : ℕ). take k (drop at (prefix ++ (bytes ++ back)))) gap ∙ (ap (λ (l : List ℕ). take size l) (drop_at prefix (bytes ++ back) at p) ∙ take_at bytes back size n)

pub read_range : (file : List ℕ) (at size : ℕ) (bytes : List ℕ) → length bytes ≡ size → OccursAt file at bytes → slice_range file at (at + size) ≡ bytes
read_range file at size bytes n s =
    ap (λ (l : List ℕ). slice_range l at (at + size)) s.whole ∙ range_of s.prefix bytes s.back at size s.place n

pub read_u32 : (file : List ℕ) (at n : ℕ) → OccursAt file at (number_bytes 4 n) → u32_at file at ≡ n
unfolding u32_at
read_u32 file at n s =
    ap number_in (read_range file at 4 (number_bytes 4 n) (length-number_bytes 4 n) s) ∙ number_in-number_bytes 4 n (omega arith)

pub read_u16 : (file : List ℕ) (at n : ℕ) → OccursAt file at (number_bytes 2 n) → u16_at file at ≡ n
unfolding u16_at
read_u16 file at n s =
    ap number_in (read_range file at 2 (number_bytes 2 n) (length-number_bytes 2 n) s) ∙ number_in-number_bytes 2 n (omega arith)

pub read_u8 : (file : List ℕ) (at b : ℕ) (more : List ℕ) → OccursAt file at (b ∷ more) → u8_at file at ≡ b
unfolding u8_at
read_u8 file at b more s =
    let here : at ≡ length s.prefix + 0 = let p = s.place in omega (arith, p) in
    ap (λ (l : List ℕ). get_or l at 0) s.whole
    ∙ (ap (λ (n : ℕ). get_or (s.prefix ++ (b ∷ (more ++ s.back))) n 0) here ∙ get_or-append-add s.prefix (b ∷ (more ++ s.back)) 0 0)

-- ---- pieces of one size

-- the i-th of pieces that come one after another
pub read_piece : {X : Type 0} (f : X → List ℕ) (size : ℕ) (d : X) → ((x : X) → length (f x) ≡ size) → (xs : List X) (i : ℕ) → i < length xs → (file : List ℕ) (at : ℕ) → OccursAt file at (flat_map f xs) → OccursAt file (at + size * i) (f (get_or xs i d))
read_piece f size d fit [] i l file at s = absurd (omega (arith, l))
read_piece f size d fit (x ∷ xs) zero l file at s = occurs_at file at (at + size * 0) (f x) (omega arith) (occurs_prefix file at (f x) (flat_map f xs) s)
read_piece f size d fit (x ∷ xs) (suc i) l file at s =
    let n = fit x in
    let next : at + length (f x) + size * i ≡ at + size * suc i = ap (λ (m : ℕ). at + m + size * i) n ∙ grind arith in
    occurs_at file (at + length (f x) + size * i) (at + size * suc i) (f (get_or xs i d)) next
    (read_piece f size d fit xs i (omega (arith, l)) file (at + length (f x)) (occurs_suffix file at (f x) (flat_map f xs) s))

pub length-pieces : {X : Type 0} (f : X → List ℕ) (size : ℕ) → ((x : X) → length (f x) ≡ size) → (xs : List X) → length (flat_map f xs) ≡ size * length xs
length-pieces f size fit [] = let e : 0 ≡ size * 0 = omega arith in e
length-pieces f size fit (x ∷ xs) =
    let n = fit x in let m = length-pieces f size fit xs in
    length-append (f x) (flat_map f xs) ∙ (ap (λ (k : ℕ). k + length (flat_map f xs)) n ∙ (ap (λ (k : ℕ). size + k) m ∙ grind arith))
