-- Bytes of records: what is appended, and that no bytes are of two lists.
use Rattle.std.proofs.Common.{ℕ, ◌+◌, ◌*◌, ◌<◌, ◌≤◌, ◌≡◌, ◌⊎◌, List, [], ◌∷◌, ◌++◌, map, take, drop, Result, Ok, Err, length, suc, ◌/◌, ◌%◌, refl, sym, ◌∙◌, ap, ap₂, subst, arith, inl, inr, is_ok, if◌then◌else◌, append_assoc, append-nil, ⊎_elim}
use Rattle.std.specs.Prelude.{OnOk}
use Rattle.std.proofs.Math.ListN.{get_or}
use Rattle.std.proofs.lemmas.List.{append_cancel_left, take-append-drop, drop_all, drop_more, length-append, map-append}
use Rattle.dconf_times.specs.declared.times.DconfdbTime.{DconfdbTime}
use Rattle.gv_model.specs.BasicValue.{number_in}
use Rattle.gv_model.specs.Encode.{number_bytes}
use Rattle.gv_model.proofs.NumberBytes.{length-number_bytes, number_in-number_bytes}
use Rattle.dconf_notes.specs.Records.{Noted, IsFile, IsHeaded, IsOf, SaysOneThing, noted_of, file_bytes, record_bytes, records_bytes, title}

-- what was appended, where it was, by another name
pub appended : {T E : Type 0} (r : Result T E) (new old bytes number : List ℕ) → new ≡ (if is_ok r then old ++ bytes else old) → bytes ≡ number → OnOk r (new ≡ old ++ number)
appended (Ok x) new old bytes number items same = items ∙ ap (λ b. old ++ b) same
appended (Err e) new old bytes number items same = tt

bytes_back : (b : List ℕ) → ((i : ℕ) → get_or b i 0 < 256) → number_bytes (length b) (number_in b) ≡ b
unfolding number_bytes number_in
bytes_back [] h = refl
bytes_back (x ∷ []) h = ap (λ y. y ∷ []) (omega arith)
bytes_back (x ∷ y ∷ ys) h =
    let under : x < 256 = h 0 in
    let low : (x + 256 * number_in (y ∷ ys)) % 256 ≡ x = omega arith in
    let high : (x + 256 * number_in (y ∷ ys)) / 256 ≡ number_in (y ∷ ys) = omega arith in
    ap₂ ◌∷◌ low (ap (number_bytes (length (y ∷ ys))) high ∙ bytes_back (y ∷ ys) (λ i. h (suc i)))

-- eight bytes are those of the number in them
pub eight_back : (b : List ℕ) → length b ≡ 8 → ((i : ℕ) → get_or b i 0 < 256) → number_bytes 8 (number_in b) ≡ b
eight_back b size h = ap (λ n. number_bytes n (number_in b)) (sym size) ∙ bytes_back b h

-- what is split is its parts
pub joined : (xs front back : List ℕ) (n : ℕ) → front ≡ take n xs → back ≡ drop n xs → front ++ back ≡ xs
joined xs front back n f b = ap (λ x. x ++ back) f ∙ ap (λ x. take n xs ++ x) b ∙ take-append-drop n xs

-- parts of the same length are the same
pub same_parts : (a b c d : List ℕ) → length a ≡ length b → a ++ c ≡ b ++ d → (a ≡ b) × (c ≡ d)
same_parts [] [] c d l e = (refl, e)
same_parts [] (y ∷ b) c d l e = absurd (omega arith)
same_parts (x ∷ a) [] c d l e = absurd (omega arith)
same_parts (x ∷ a) (y ∷ b) c d l e =
    let h : x ≡ y = cc in
    let t : a ++ c ≡ b ++ d = cc in
    let r = same_parts a b c d (omega (arith, l)) t in
    let first : a ≡ b = r.0 in
    (cc, r.1)

same_number : (m n : ℕ) → number_bytes 8 m ≡ number_bytes 8 n → m ≡ n
same_number m n e = sym (number_in-number_bytes 8 m (omega arith)) ∙ ap number_in e ∙ number_in-number_bytes 8 n (omega arith)

number_part : (m n : ℕ) (c d : List ℕ) → number_bytes 8 m ++ c ≡ number_bytes 8 n ++ d → (m ≡ n) × (c ≡ d)
number_part m n c d e =
    let p = same_parts (number_bytes 8 m) (number_bytes 8 n) c d (length-number_bytes 8 m ∙ sym (length-number_bytes 8 n)) e in
    (same_number m n p.0, p.1)

-- a record's parts, one after another
pub in_parts : (r : Noted) (more : List ℕ) → record_bytes r ++ more ≡ number_bytes 8 r.when ++ (number_bytes 8 r.value ++ (number_bytes 8 (length r.path) ++ (r.path ++ more)))
in_parts r more =
    append_assoc (number_bytes 8 r.when) (number_bytes 8 r.value ++ (number_bytes 8 (length r.path) ++ r.path)) more
    ∙ ap (λ x. number_bytes 8 r.when ++ x) (append_assoc (number_bytes 8 r.value) (number_bytes 8 (length r.path) ++ r.path) more
    ∙ ap (λ x. number_bytes 8 r.value ++ x) (append_assoc (number_bytes 8 (length r.path)) r.path more))

record_part : (r s : Noted) (a b : List ℕ) → record_bytes r ++ a ≡ record_bytes s ++ b → (r ≡ s) × (a ≡ b)
record_part r s a b e =
    let w = number_part r.when s.when _ _ (sym (in_parts r a) ∙ e ∙ in_parts s b) in
    let v = number_part r.value s.value _ _ w.1 in
    let l = number_part (length r.path) (length s.path) _ _ v.1 in
    let p = same_parts r.path s.path a b l.0 l.1 in
    let when : r.when ≡ s.when = w.0 in
    let value : r.value ≡ s.value = v.0 in
    let path : r.path ≡ s.path = p.0 in (
      ap (λ x. record { path = x; when = r.when; value = r.value }) path ∙ ap (λ x. record { path = s.path; when = x; value = r.value }) when
          ∙ ap (λ x. record { path = s.path; when = s.when; value = x }) value,
      p.1,
    )

pub record_long : (r : Noted) (more : List ℕ) → 24 ≤ length (record_bytes r ++ more)
record_long r more =
    omega (
      arith,
      ap length (in_parts r more),
      length-append (number_bytes 8 r.when) (number_bytes 8 r.value ++ (number_bytes 8 (length r.path) ++ (r.path ++ more))),
      length-append (number_bytes 8 r.value) (number_bytes 8 (length r.path) ++ (r.path ++ more)),
      length-append (number_bytes 8 (length r.path)) (r.path ++ more),
      length-number_bytes 8 r.when,
      length-number_bytes 8 r.value,
      length-number_bytes 8 (length r.path),
    )

pub shorter : (r : Noted) (more rest : List ℕ) → rest ≡ record_bytes r ++ more → length more < length rest
shorter r more rest e =
    omega (
      arith,
      ap length e,
      ap length (in_parts r more),
      length-append (number_bytes 8 r.when) (number_bytes 8 r.value ++ (number_bytes 8 (length r.path) ++ (r.path ++ more))),
      length-append (number_bytes 8 r.value) (number_bytes 8 (length r.path) ++ (r.path ++ more)),
      length-append (number_bytes 8 (length r.path)) (r.path ++ more),
      length-append r.path more,
      length-number_bytes 8 r.when,
    )

-- after some records there are eight bytes, or one more record
pub goes_on : (ts rs : List Noted) (rest end : List ℕ) → length end ≡ 8 → records_bytes ts ++ rest ≡ records_bytes rs ++ end
    → (length rest ≡ 8) ⊎ ((r : Noted) × (more : List ℕ) × (rest ≡ record_bytes r ++ more) × (8 ≤ length more))
goes_on [] [] rest end l e = inl (ap length e ∙ l)
goes_on [] (r ∷ rs) rest end l e =
    inr (r, records_bytes rs ++ end, e ∙ append_assoc (record_bytes r) (records_bytes rs) end, omega (arith, length-append (records_bytes rs) end, l))
goes_on (t ∷ ts) [] rest end l e =
    let same : record_bytes t ++ (records_bytes ts ++ rest) ≡ end = sym (append_assoc (record_bytes t) (records_bytes ts) rest) ∙ e in
    absurd (omega (arith, record_long t (records_bytes ts ++ rest), ap length same, l))
goes_on (t ∷ ts) (r ∷ rs) rest end l e =
    goes_on ts rs rest end l (record_part t r (records_bytes ts ++ rest) (records_bytes rs ++ end)
    (sym (append_assoc (record_bytes t) (records_bytes ts) rest) ∙ e ∙ append_assoc (record_bytes r) (records_bytes rs) end)).1

-- and no bytes are of two lists
pub same_records : (ts rs : List Noted) (a b : List ℕ) → length a ≡ 8 → length b ≡ 8 → records_bytes ts ++ a ≡ records_bytes rs ++ b → ts ≡ rs
same_records [] [] a b l m e = refl
same_records [] (r ∷ rs) a b l m e =
    let same : a ≡ record_bytes r ++ (records_bytes rs ++ b) = e ∙ append_assoc (record_bytes r) (records_bytes rs) b in
    absurd (omega (arith, record_long r (records_bytes rs ++ b), ap length same, l))
same_records (t ∷ ts) [] a b l m e =
    let same : record_bytes t ++ (records_bytes ts ++ a) ≡ b = sym (append_assoc (record_bytes t) (records_bytes ts) a) ∙ e in
    absurd (omega (arith, record_long t (records_bytes ts ++ a), ap length same, m))
same_records (t ∷ ts) (r ∷ rs) a b l m e =
    let p = record_part t r (records_bytes ts ++ a) (records_bytes rs ++ b)
    (sym (append_assoc (record_bytes t) (records_bytes ts) a) ∙ e ∙ append_assoc (record_bytes r) (records_bytes rs) b) in
    let first : t ≡ r = p.0 in
    let later : ts ≡ rs = same_records ts rs a b l m p.1 in
    cc

without_title : (a b : List ℕ) → title ++ a ≡ title ++ b → a ≡ b
without_title a b e = (same_parts title title a b refl e).1

pub says_one_thing : SaysOneThing
says_one_thing bytes [] others f g = absurd f.0
says_one_thing bytes (n ∷ ns) [] f g = absurd g.0
says_one_thing bytes (n ∷ ns) (o ∷ os) f g =
    same_records (n ∷ ns) (o ∷ os) (number_bytes 8 n.when) (number_bytes 8 o.when) (length-number_bytes 8 n.when) (length-number_bytes 8 o.when)
    (without_title _ _ (sym f.1 ∙ g.1))

-- ---- while it is read

pub records_append : (ns ms : List Noted) → records_bytes (ns ++ ms) ≡ records_bytes ns ++ records_bytes ms
records_append [] ms = refl
records_append (n ∷ ns) ms = ap (λ x. record_bytes n ++ x) (records_append ns ms) ∙ sym (append_assoc (record_bytes n) (records_bytes ns) (records_bytes ms))

pub one_more : (ts : List DconfdbTime) (t : DconfdbTime) (new : List DconfdbTime) (bytes rest more : List ℕ) → new ≡ ts ++ t ∷ [] → bytes ≡ records_bytes (map noted_of ts) ++ rest
    → rest ≡ record_bytes (noted_of t) ++ more → bytes ≡ records_bytes (map noted_of new) ++ more
one_more ts t new bytes rest more is e r =
    let ns : map noted_of new ≡ map noted_of ts ++ noted_of t ∷ [] = ap (λ (x : List DconfdbTime). map noted_of x) is ∙ map-append noted_of ts (t ∷ []) in
    let last : records_bytes (noted_of t ∷ []) ≡ record_bytes (noted_of t) = append-nil (record_bytes (noted_of t)) in
    let all : records_bytes (map noted_of new) ≡ records_bytes (map noted_of ts) ++ record_bytes (noted_of t) =
    ap records_bytes ns ∙ records_append (map noted_of ts) (noted_of t ∷ []) ∙ ap (λ x. records_bytes (map noted_of ts) ++ x) last in
    e ∙ ap (λ x. records_bytes (map noted_of ts) ++ x) r ∙ sym (append_assoc (records_bytes (map noted_of ts)) (record_bytes (noted_of t)) more) ∙ ap (λ x. x ++ more) (sym all)

-- where the first is of no record, or less is left than eight bytes, it is no file's
pub no_record : (ts : List Noted) (bytes rest : List ℕ) → bytes ≡ records_bytes ts ++ rest → ¬ (length rest ≡ 8) → ((r : Noted) (more : List ℕ) → rest ≡ record_bytes r ++ more → ⊥)
    → (rs : List Noted) (end : List ℕ) → length end ≡ 8 → bytes ≡ records_bytes rs ++ end → ⊥
no_record ts bytes rest is size none rs end l e =
    ⊎_elim size (λ (w : (r : Noted) × (more : List ℕ) × (rest ≡ record_bytes r ++ more) × (8 ≤ length more)). none w.0 w.1 w.2) (goes_on ts rs rest end l (sym is ∙ e))

pub too_short : (rest : List ℕ) → length rest < 24 → (r : Noted) (more : List ℕ) → rest ≡ record_bytes r ++ more → ⊥
too_short rest lt r more e = omega (arith, lt, record_long r more, ap length e)

-- the path is longer than what is left
pub too_long : (bytes a b c rest : List ℕ) (n : ℕ) → length a ≡ 8 → length b ≡ 8 → length c ≡ 8 → bytes ≡ a ++ (b ++ (c ++ rest)) → number_bytes 8 n ≡ c → length rest < n →
    (r : Noted) (more : List ℕ) → bytes ≡ record_bytes r ++ more → ⊥
too_long bytes a b c rest n la lb lc is number lt r more e =
    let p = same_parts a (number_bytes 8 r.when) _ _ (la ∙ sym (length-number_bytes 8 r.when)) (sym is ∙ e ∙ in_parts r more) in
    let q = same_parts b (number_bytes 8 r.value) _ _ (lb ∙ sym (length-number_bytes 8 r.value)) p.1 in
    let s = same_parts c (number_bytes 8 (length r.path)) _ _ (lc ∙ sym (length-number_bytes 8 (length r.path))) q.1 in
    let same : n ≡ length r.path = same_number n (length r.path) (number ∙ s.0) in
    omega (arith, lt, same, ap length s.1, length-append r.path more)

pub of_moment : (ns : List Noted) (end : List ℕ) (moment : ℕ) → number_bytes 8 moment ≡ end → title ++ (records_bytes ns ++ end) ≡ file_bytes ns → IsHeaded ns → IsOf moment ns
of_moment [] end moment e same h = absurd h
of_moment (head ∷ more) end moment e same h =
    let tail : end ≡ number_bytes 8 head.when = append_cancel_left (records_bytes (head ∷ more)) end (number_bytes 8 head.when) (without_title _ _ same) in
    same_number head.when moment (sym tail ∙ sym e)

pub as_file : (ns : List Noted) (end : List ℕ) (moment : ℕ) → number_bytes 8 moment ≡ end → IsHeaded ns → IsOf moment ns → title ++ (records_bytes ns ++ end) ≡ file_bytes ns
as_file [] end moment e h o = absurd h
as_file (head ∷ more) end moment e h o = ap (λ x. title ++ (records_bytes (head ∷ more) ++ x)) (sym e ∙ ap (number_bytes 8) (sym o))

pub untitled_is : (bytes front back : List ℕ) → front ≡ take 16 bytes → back ≡ drop 16 bytes → front ≡ title → bytes ≡ title ++ back
untitled_is bytes front back f b t = sym (joined bytes front back 16 f b) ∙ ap (λ x. x ++ back) t

pub is_titled : (bytes front rest : List ℕ) → front ≡ take 16 bytes → bytes ≡ title ++ rest → front ≡ title
is_titled bytes front rest f e = f ∙ ap (take 16) e

-- ---- all of a file

pub whole_read : (bytes rest end : List ℕ) (notes : List DconfdbTime) → bytes ≡ title ++ rest → rest ≡ records_bytes (map noted_of notes) ++ end
    → IsFile (title ++ (records_bytes (map noted_of notes) ++ end)) (map noted_of notes) → (read : List DconfdbTime) → read ≡ notes → IsFile bytes (map noted_of read)
whole_read bytes rest end notes b r f read same =
    let is : title ++ (records_bytes (map noted_of notes) ++ end) ≡ bytes = ap (λ x. title ++ x) (sym r) ∙ sym b in
    subst (λ (x : List DconfdbTime). IsFile bytes (map noted_of x)) (sym same) (subst (λ x. IsFile x (map noted_of notes)) is f)

-- The records are not of a turn: so it is no file of others.
pub none_whole : (bytes rest end : List ℕ) (notes : List Noted) → bytes ≡ title ++ rest → rest ≡ records_bytes notes ++ end → length end ≡ 8
    → (title ++ (records_bytes notes ++ end) ≡ file_bytes notes → IsHeaded notes → ⊥) → (others : List Noted) → IsFile bytes others → ⊥
none_whole bytes rest end notes b r l none [] f = f.0
none_whole bytes rest end notes b r l none (o ∷ os) f =
    let same : rest ≡ records_bytes (o ∷ os) ++ number_bytes 8 o.when = without_title rest _ (sym b ∙ f.1) in
    let are : notes ≡ o ∷ os = same_records notes (o ∷ os) end (number_bytes 8 o.when) l (length-number_bytes 8 o.when) (sym r ∙ same) in
    none (ap (λ x. title ++ x) (sym r) ∙ sym b ∙ f.1 ∙ ap file_bytes (sym are)) (subst (λ x. IsHeaded x) (sym are) f.0)

-- There are no records: so it is no file.
pub none_read : (bytes rest : List ℕ) → bytes ≡ title ++ rest → ((notes : List Noted) (end : List ℕ) → length end ≡ 8 → rest ≡ records_bytes notes ++ end → ⊥) → (others : List Noted) → IsFile bytes others → ⊥
none_read bytes rest b none [] f = f.0
none_read bytes rest b none (o ∷ os) f = none (o ∷ os) (number_bytes 8 o.when) (length-number_bytes 8 o.when) (without_title rest _ (sym b ∙ f.1))

pub no_title : (bytes : List ℕ) → ((rest : List ℕ) → bytes ≡ title ++ rest → ⊥) → (others : List Noted) → IsFile bytes others → ⊥
no_title bytes none [] f = f.0
no_title bytes none (o ∷ os) f = none _ f.1
