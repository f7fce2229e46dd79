-- Bytes of records that are written into a room.
use Rattle.std.proofs.Common.{ℕ, zero, suc, ◌+◌, ◌-◌, ◌<◌, ◌≤◌, ◌≡◌, ◌^◌, ◌==◌, false, List, [], ◌∷◌, ◌++◌, map, take, drop, length, get_or, sym, ◌∙◌, ap, ap₂, arith, append_assoc, append-nil}
use Rattle.std.proofs.lemmas.List.{take_at, drop_at, drop_all, drop-drop, take_more, take_all, length-append, length-drop, length-take, map-append}
use Rattle.dconf_times.specs.declared.times.DconfdbTime.{DconfdbTime}
use Rattle.gv_model.specs.Encode.{number_bytes}
use Rattle.gv_model.proofs.NumberBytes.{length-number_bytes, low_bytes}
use Rattle.byteorder.specs.Endian.{little_bytes}
use Rattle.dconf_notes.specs.Records.{Noted, IsHandedOut, file_bytes, noted_of, record_bytes, records_bytes, title}
use Rattle.dconf_notes.proofs.RecordLaws.{in_parts, records_append}

-- ---- how many bytes

pub record_length : (r : Noted) → length (record_bytes r) ≡ 24 + length r.path
record_length r =
    omega (
      arith,
      length-append (number_bytes 8 r.when) (number_bytes 8 r.value ++ (number_bytes 8 (length r.path) ++ r.path)),
      length-append (number_bytes 8 r.value) (number_bytes 8 (length r.path) ++ r.path),
      length-append (number_bytes 8 (length r.path)) r.path,
      length-number_bytes 8 r.when,
      length-number_bytes 8 r.value,
      length-number_bytes 8 (length r.path),
    )

-- of the first records, and of one more
abbrev pub so_far : List DconfdbTime → ℕ → List ℕ
so_far ts i = records_bytes (map noted_of (take i ts))

pub one_longer : (ts : List DconfdbTime) (i : ℕ) (d : DconfdbTime) → i < length ts → so_far ts (i + 1) ≡ so_far ts i ++ record_bytes (noted_of (get_or ts i d))
one_longer ts i d inside =
    let next : List DconfdbTime = get_or ts i d ∷ [] in
    let last : records_bytes (map noted_of next) ≡ record_bytes (noted_of (get_or ts i d)) = append-nil (record_bytes (noted_of (get_or ts i d))) in
    ap (λ (xs : List DconfdbTime). records_bytes (map noted_of xs)) (take_more ts i d inside)
    ∙ (ap records_bytes (map-append noted_of (take i ts) next)
    ∙ (records_append (map noted_of (take i ts)) (map noted_of next) ∙ ap (λ xs. so_far ts i ++ xs) last))

pub all_so_far : (ts : List DconfdbTime) (i : ℕ) → length ts ≤ i → so_far ts i ≡ records_bytes (map noted_of ts)
all_so_far ts i past = ap (λ (xs : List DconfdbTime). records_bytes (map noted_of xs)) (take_all i ts past)

longer : (a b c : List ℕ) → length b ≤ length c → length (a ++ b) ≤ length (a ++ c)
longer a b c h = omega (arith, h, length-append a b, length-append a c)

pub no_longer : (ts : List DconfdbTime) (i : ℕ) → length (so_far ts i) ≤ length (records_bytes (map noted_of ts))
no_longer ts zero = omega arith
no_longer [] (suc i) = omega arith
no_longer (t ∷ ts) (suc i) = longer (record_bytes (noted_of t)) (so_far ts i) (records_bytes (map noted_of ts)) (no_longer ts i)

-- there is room for one more
pub one_fits : (ts : List DconfdbTime) (i at : ℕ) (d : DconfdbTime) (room old rest : List ℕ) → i < length ts → at ≡ length (so_far ts i) → length room ≡ length old
    → length (records_bytes (map noted_of ts)) ≤ length old → rest ≡ drop at room → length (record_bytes (noted_of (get_or ts i d))) ≤ length rest
one_fits ts i at d room old rest inside is same fits behind =
    let more : length (so_far ts (i + 1)) ≡ length (so_far ts i) + length (record_bytes (noted_of (get_or ts i d))) =
    ap length (one_longer ts i d inside) ∙ length-append (so_far ts i) (record_bytes (noted_of (get_or ts i d))) in
    let left : length rest ≡ length room - at = ap length behind ∙ length-drop at room in
    let most : length (so_far ts (i + 1)) ≤ length (records_bytes (map noted_of ts)) = no_longer ts (i + 1) in
    rw left (omega (arith, more, most, is, same, fits))

-- ---- what stands in the room

pub number_put : (n : ℕ) (room buf : List ℕ) → n < 2 ^ 64 → buf ≡ little_bytes 8 n ++ drop 8 room → buf ≡ number_bytes 8 n ++ drop 8 room
number_put n room buf small is = is ∙ ap (λ b. b ++ drop 8 room) (sym (low_bytes 8 n (omega (arith, small))))

-- one piece more, behind the others
pub piece_put : (xs piece old room new : List ℕ) (at : ℕ) → at ≡ length xs → room ≡ xs ++ drop at old → new ≡ take at room ++ (piece ++ drop (length piece) (drop at room))
    → new ≡ (xs ++ piece) ++ drop (at + length piece) old
piece_put xs piece old room new at size is put =
    let front : take at room ≡ xs = ap (take at) is ∙ take_at xs (drop at old) at (sym size) in
    let behind : drop at room ≡ drop at old = ap (drop at) is ∙ drop_at xs (drop at old) at (sym size) in
    put ∙ (ap₂ (λ a b. a ++ (piece ++ drop (length piece) b)) front behind
    ∙ (ap (λ b. xs ++ (piece ++ b)) (drop-drop (length piece) at old) ∙ sym (append_assoc xs piece (drop (at + length piece) old))))

-- a number in eight bytes of a room
number_alone : (n : ℕ) (room a new : List ℕ) → a ≡ take 8 room → new ≡ number_bytes 8 n ++ drop 8 a → new ≡ number_bytes 8 n
number_alone n room a new is put =
    let none : drop 8 (take 8 room) ≡ [] = drop_all 8 (take 8 room) (omega (arith, length-take 8 room)) in
    put ∙ (ap (λ x. number_bytes 8 n ++ x) (ap (drop 8) is ∙ none) ∙ append-nil (number_bytes 8 n))

-- four pieces, one behind the other, in a room that is cut into them
pub record_put : (r : Noted) (room a ra b rb c rc rest na nb nc np : List ℕ) → a ≡ take 8 room → ra ≡ drop 8 room → b ≡ take 8 ra → rb ≡ drop 8 ra → c ≡ take 8 rb → rc ≡ drop 8 rb
    → rest ≡ drop (length r.path) rc
    → na ≡ number_bytes 8 r.when ++ drop 8 a → nb ≡ number_bytes 8 r.value ++ drop 8 b → nc ≡ number_bytes 8 (length r.path) ++ drop 8 c → np ≡ r.path
    → na ++ (nb ++ (nc ++ (np ++ rest))) ≡ record_bytes r ++ drop (24 + length r.path) room
record_put r room a ra b rb c rc rest na nb nc np ea era eb erb ec erc er pa pb pc pp =
    let two : rb ≡ drop 16 room = erb ∙ (ap (drop 8) era ∙ drop-drop 8 8 room) in
    let three : rc ≡ drop 24 room = erc ∙ (ap (drop 8) two ∙ drop-drop 8 16 room) in
    let four : rest ≡ drop (24 + length r.path) room = er ∙ (ap (drop (length r.path)) three ∙ drop-drop (length r.path) 24 room) in
    let when : na ≡ number_bytes 8 r.when = number_alone r.when room a na ea pa in
    let value : nb ≡ number_bytes 8 r.value = number_alone r.value ra b nb eb pb in
    let size : nc ≡ number_bytes 8 (length r.path) = number_alone (length r.path) rb c nc ec pc in
    ap₂ ◌++◌ when (ap₂ ◌++◌ value (ap₂ ◌++◌ size (ap₂ ◌++◌ pp four))) ∙ sym (in_parts r (drop (24 + length r.path) room))

-- one record more
pub loop_put : (ts : List DconfdbTime) (i : ℕ) (d : DconfdbTime) (old room front rest new : List ℕ) (at len : ℕ) → i < length ts → room ≡ so_far ts i ++ drop at old → at ≡ length (so_far ts i)
    → front ≡ take at room → rest ≡ drop at room → len ≡ length (record_bytes (noted_of (get_or ts i d))) → new ≡ record_bytes (noted_of (get_or ts i d)) ++ drop len rest
    → (front ++ new ≡ so_far ts (i + 1) ++ drop (at + len) old) × (at + len ≡ length (so_far ts (i + 1)))
loop_put ts i d old room front rest new at len inside is size f r long put =
    let piece : List ℕ = record_bytes (noted_of (get_or ts i d)) in
    let more : so_far ts (i + 1) ≡ so_far ts i ++ piece = one_longer ts i d inside in
    let put_there : new ≡ piece ++ drop (length piece) (drop at room) = put ∙ ap₂ (λ (n : ℕ) (xs : List ℕ). piece ++ drop n xs) long r in
    let all : front ++ new ≡ (so_far ts i ++ piece) ++ drop (at + length piece) old = piece_put (so_far ts i) piece old room (front ++ new) at size is (ap₂ ◌++◌ f put_there) in
    let longer : length (so_far ts (i + 1)) ≡ length (so_far ts i) + length piece = ap length more ∙ length-append (so_far ts i) piece in (
      all ∙ ap₂ (λ (xs : List ℕ) (n : ℕ). xs ++ drop (at + n) old) (sym more) (sym long),
      omega (arith, size, long, longer),
    )

pub place_fits : (ts : List DconfdbTime) (i at : ℕ) (room old : List ℕ) → at ≡ length (so_far ts i) → length room ≡ length old → length (records_bytes (map noted_of ts)) ≤ length old → at ≤ length room
place_fits ts i at room old is same fits = omega (arith, no_longer ts i, is, same, fits)

-- a file's frame around its records
pub frame_put : (head records end room front rest new_front new_rest first behind new_end : List ℕ) (at : ℕ) → length head ≡ 16 → length end ≡ 8 → front ≡ take 16 room → rest ≡ drop 16 room
    → new_front ≡ head → at ≡ length records → new_rest ≡ records ++ drop at rest → first ≡ take at new_rest → behind ≡ drop at new_rest → new_end ≡ end ++ drop 8 behind
    → new_front ++ (first ++ new_end) ≡ (head ++ (records ++ end)) ++ drop (length (head ++ (records ++ end))) room
frame_put head records end room front rest new_front new_rest first behind new_end at h8 e8 f r nf is nr fi be ne =
    let all : ℕ = length (head ++ (records ++ end)) in
    let begin : first ≡ records = fi ∙ (ap (take at) nr ∙ take_at records (drop at rest) at (sym is)) in
    let later : behind ≡ drop at rest = be ∙ (ap (drop at) nr ∙ drop_at records (drop at rest) at (sym is)) in
    let size : length (head ++ (records ++ end)) ≡ 16 + at + 8 =
    omega (arith, length-append head (records ++ end), length-append records end, h8, e8, is) in
    let back : drop 8 behind ≡ drop all room =
    ap (drop 8) (later ∙ (ap (drop at) r ∙ drop-drop at 16 room)) ∙ (drop-drop 8 (16 + at) room ∙ ap (λ (n : ℕ). drop n room) (sym size)) in
    let last : new_end ≡ end ++ drop all room = ne ∙ ap (λ x. end ++ x) back in
    ap₂ ◌++◌ nf (ap₂ ◌++◌ begin last)
    ∙ (ap (λ x. head ++ x) (sym (append_assoc records end (drop all room))) ∙ sym (append_assoc head (records ++ end) (drop all room)))

framed : (records end : List ℕ) → length end ≡ 8 → length (title ++ (records ++ end)) ≡ 24 + length records
framed records end size = omega (arith, length-append title (records ++ end), length-append records end, size)

-- how long a file is
pub file_length : (ts : List DconfdbTime) → 0 < length ts → length (file_bytes (map noted_of ts)) ≡ 24 + length (records_bytes (map noted_of ts))
file_length [] h = absurd (omega arith)
file_length (t ∷ ts) h = framed (records_bytes (map noted_of (t ∷ ts))) (number_bytes 8 t.when) (length-number_bytes 8 t.when)

pub counted : (ts : List DconfdbTime) (i n : ℕ) → 0 < length ts → length ts ≤ i → n ≡ 24 + length (so_far ts i) → n ≡ length (file_bytes (map noted_of ts))
counted ts i n some past is = is ∙ (ap (λ (xs : List ℕ). 24 + length xs) (all_so_far ts i past) ∙ sym (file_length ts some))

pub counted_more : (ts : List DconfdbTime) (i : ℕ) (d : DconfdbTime) (len new : ℕ) → i < length ts → len ≡ 24 + length (so_far ts i) → new ≡ len + length (record_bytes (noted_of (get_or ts i d)))
    → new ≡ 24 + length (so_far ts (i + 1))
counted_more ts i d len new inside is more =
    omega (arith, is, more, ap length (one_longer ts i d inside) ∙ length-append (so_far ts i) (record_bytes (noted_of (get_or ts i d))))

pub some_notes : (ts : List DconfdbTime) → (length ts == 0) ≡ false → 0 < length ts
some_notes [] e = cc
some_notes (t ∷ ts) e = omega arith

-- ---- the file, by its first note

file_is : (ts : List DconfdbTime) (head : DconfdbTime) → 0 < length ts → head ≡ get_or ts 0 head → file_bytes (map noted_of ts) ≡ title ++ (records_bytes (map noted_of ts) ++ number_bytes 8 head.when)
file_is [] head some is = absurd (omega arith)
file_is (t ∷ ts) head some is = ap (λ (h : DconfdbTime). title ++ (records_bytes (map noted_of (t ∷ ts)) ++ number_bytes 8 h.when)) (sym is)

pub handed_out : (ts : List DconfdbTime) (head : DconfdbTime) (room new : List ℕ) (n : ℕ) → 0 < length ts → head ≡ get_or ts 0 head → n ≡ length (file_bytes (map noted_of ts)) → n ≤ length room
    → new ≡ (title ++ (records_bytes (map noted_of ts) ++ number_bytes 8 head.when)) ++ drop (length (title ++ (records_bytes (map noted_of ts) ++ number_bytes 8 head.when))) room
    → IsHandedOut (file_bytes (map noted_of ts)) room new n
handed_out ts head room new n some first is fits put = record {
  count = is;
  fits = λ h. put ∙ ap (λ (b : List ℕ). b ++ drop (length b) room) (sym (file_is ts head some first));
  short = λ h. absurd (omega (arith, h, is, fits));
}
