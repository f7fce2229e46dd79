-- Prefixes of types, and the types that go on from them.
use Rattle.std.proofs.Common.{ℕ, suc, ◌≤◌, ◌<◌, ◌≡◌, ◌≢◌, List, [], ◌∷◌, ◌++◌, length, refl, sym, ap, ap₂, ◌∙◌, subst, append_assoc, append-nil, arith, inl, inr, length-append}
use Rattle.std.proofs.lemmas.List.{append_cancel_left}
use Rattle.gv_model.specs.Ty.{Ty, Basic, Types, letter, spelling, spellings, nesting, greatest_nesting}
use Rattle.gv_model.specs.Ty.Ty.{basic, array, maybe, tuple, entry}
use Rattle.gv_model.specs.Ty.Types.{end, member}
use Rattle.gv_model.specs.TypeFault.{Prefix, Expected, prefix_text, open_types, next, in_tuple, BeginsType, IsKey, IsAllowed}
use Rattle.gv_model.specs.TypeFault.Prefix.{nothing, array_of, maybe_of, tuple_with, entry_start, entry_with, entry_end}
use Rattle.gv_model.specs.TypeFault.Expected.{a_type, member_or_close, entry_close}
use Rattle.gv_model.proofs.TypeTextLaws.{one_reading}
use Rattle.gv_model.proofs.ListLaws.{same_head, same_tail}

-- ---- the first byte of a type's text

pub letter_is_apart : (k : Basic) → (98 ≤ letter k) × (letter k ≤ 121) × (letter k ≢ 109) × (letter k ≢ 118)
letter_is_apart Basic.boolean = (omega arith, omega arith, omega arith, omega arith)
letter_is_apart _ = (omega arith, omega arith, omega arith, omega arith)

-- the type is an array whose element's text is followed by the rest
opens_array : (t : Ty) (x y : List ℕ) → spelling t ++ x ≡ 97 ∷ y → (u : Ty) × (t ≡ array u) × (spelling u ++ x ≡ y)
unfolding spelling
opens_array (basic k) x y e = absurd (omega (arith, same_head e, letter_is_apart k))
opens_array (array u) x y e = (u, refl, same_tail e)
opens_array _ x y e = absurd (omega (arith, same_head e))

opens_maybe : (t : Ty) (x y : List ℕ) → spelling t ++ x ≡ 109 ∷ y → (u : Ty) × (t ≡ maybe u) × (spelling u ++ x ≡ y)
unfolding spelling
opens_maybe (basic k) x y e = absurd (omega (arith, same_head e, letter_is_apart k))
opens_maybe (maybe u) x y e = (u, refl, same_tail e)
opens_maybe _ x y e = absurd (omega (arith, same_head e))

opens_tuple : (t : Ty) (x y : List ℕ) → spelling t ++ x ≡ 40 ∷ y → (ts : Types) × (t ≡ tuple ts) × (spellings ts ++ 41 ∷ x ≡ y)
unfolding spelling
opens_tuple (basic k) x y e = absurd (omega (arith, same_head e, letter_is_apart k))
opens_tuple (tuple ts) x y e = (ts, refl, sym (append_assoc (spellings ts) (41 ∷ []) x) ∙ same_tail e)
opens_tuple _ x y e = absurd (omega (arith, same_head e))

opens_entry : (t : Ty) (x y : List ℕ) → spelling t ++ x ≡ 123 ∷ y → (k : Basic) × (u : Ty) × (t ≡ entry k u) × (letter k ∷ (spelling u ++ 125 ∷ x) ≡ y)
unfolding spelling
opens_entry (basic k) x y e = absurd (omega (arith, same_head e, letter_is_apart k))
opens_entry (entry k u) x y e = (k, u, refl, ap (λ z. letter k ∷ z) (sym (append_assoc (spelling u) (125 ∷ []) x)) ∙ same_tail e)
opens_entry _ x y e = absurd (omega (arith, same_head e))

-- no type begins with a closing bracket
pub no_type_begins_with_close : (t : Ty) (x y : List ℕ) → spelling t ++ x ≡ 41 ∷ y → ⊥
unfolding spelling
no_type_begins_with_close (basic k) x y e = omega (arith, same_head e, letter_is_apart k)
no_type_begins_with_close _ x y e = omega (arith, same_head e)

pub no_type_begins_with_entry_close : (t : Ty) (x y : List ℕ) → spelling t ++ x ≡ 125 ∷ y → ⊥
unfolding spelling
no_type_begins_with_entry_close (basic k) x y e = omega (arith, same_head e, letter_is_apart k)
no_type_begins_with_entry_close _ x y e = omega (arith, same_head e)

pub basic_parts : (j k : Basic) → basic j ≡ basic k → j ≡ k
basic_parts j k e = cc

pub same_letter : (j k : Basic) (x y : List ℕ) → letter j ∷ x ≡ letter k ∷ y → (j ≡ k) × (x ≡ y)
unfolding spelling
same_letter j k x y e = (basic_parts j k (one_reading (basic j) (basic k) x y e).0, same_tail e)

pub spelling-positive : (t : Ty) → 0 < length (spelling t)
unfolding spelling
spelling-positive (basic k) = omega arith
spelling-positive _ = omega arith

pub nesting-positive : (t : Ty) → 0 < nesting t
unfolding nesting
nesting-positive (basic k) = omega arith
nesting-positive _ = omega arith

-- ---- what may come after a prefix

-- the byte fits after the prefix, and types nest more than n deep where one more begins with it
pub record FitsAfter (n : ℕ) (f : Prefix) (b : ℕ) : Type 0 where
  pub allowed : IsAllowed (next f) b
  pub key : next f ≡ Expected.key → IsKey b
  pub deep : BeginsType b → open_types f < n

-- the byte fits after the prefix, and goes on to the type
abbrev pub GoesOnWith : Ty → Prefix → ℕ → Type 0
GoesOnWith t f b = FitsAfter (nesting t) f b

-- a text that nests n deep begins with a prefix's, and goes on with a byte that fits
pub record IsBegun (w : List ℕ) (n : ℕ) (f : Prefix) : Type 0 where
  pub byte : ℕ
  pub more : List ℕ
  pub whole : w ≡ prefix_text f ++ byte ∷ more
  pub goes : FitsAfter n f byte

abbrev pub IsBegunType : Ty → Prefix → Type 0
IsBegunType t f = IsBegun (spelling t) (nesting t) f

pub no_type_wants_key : a_type ≡ Expected.key → ⊥
no_type_wants_key e = cc

pub member_wants_key : member_or_close ≡ Expected.key → ⊥
member_wants_key e = cc

close_wants_key : entry_close ≡ Expected.key → ⊥
close_wants_key e = cc

close_begins_no_type : BeginsType 41 → ⊥
close_begins_no_type b = no_type_begins_with_close b.0 [] b.1.0 (append-nil (spelling b.0) ∙ b.1.1)

entry_close_begins_no_type : BeginsType 125 → ⊥
entry_close_begins_no_type b = no_type_begins_with_entry_close b.0 [] b.1.0 (append-nil (spelling b.0) ∙ b.1.1)

pub begun_first : (w : List ℕ) (n b : ℕ) (more : List ℕ) → w ≡ b ∷ more → BeginsType b → 0 < n → IsBegun w n nothing
unfolding prefix_text open_types next
begun_first w n b more e begins h = record { byte = b; more = more; whole = e; goes = record { allowed = begins; key = λ k. absurd (no_type_wants_key k); deep = λ _. h } }

begun_type : (t : Ty) → IsBegunType t nothing
begun_type t = go (spelling t) refl
  where
    go : (w : List ℕ) → spelling t ≡ w → IsBegunType t nothing
    go [] e = absurd (omega (arith, ap length e, spelling-positive t))
    go (b ∷ more) e = begun_first (spelling t) (nesting t) b more e (t, (more, e)) (nesting-positive t)

pub begun_longer : (w z : List ℕ) (n : ℕ) (f : Prefix) → IsBegun w n f → IsBegun (w ++ z) n f
begun_longer w z n f h = record { byte = h.byte; more = h.more ++ z; whole = ap (λ x. x ++ z) h.whole ∙ append_assoc (prefix_text f) (h.byte ∷ h.more) z; goes = h.goes }

pub begun_array : (w : List ℕ) (n : ℕ) (f : Prefix) → IsBegun w n f → IsBegun (97 ∷ w) (suc n) (array_of f)
unfolding prefix_text open_types next
begun_array w n f h = record { byte = h.byte; more = h.more; whole = ap (λ z. 97 ∷ z) h.whole; goes = record { allowed = h.goes.allowed; key = h.goes.key; deep = λ b. let below = h.goes.deep b in omega arith } }

pub begun_maybe : (w : List ℕ) (n : ℕ) (f : Prefix) → IsBegun w n f → IsBegun (109 ∷ w) (suc n) (maybe_of f)
unfolding prefix_text open_types next
begun_maybe w n f h = record { byte = h.byte; more = h.more; whole = ap (λ z. 109 ∷ z) h.whole; goes = record { allowed = h.goes.allowed; key = h.goes.key; deep = λ b. let below = h.goes.deep b in omega arith } }

pub begun_key : (k : Basic) (w : List ℕ) (n : ℕ) → 1 < n → IsBegun (123 ∷ letter k ∷ w) n entry_start
unfolding spelling prefix_text open_types next
begun_key k w n h = record { byte = letter k; more = w; whole = refl; goes = record { allowed = (basic k, ([], refl)); key = λ e. (k, refl); deep = λ b. h } }

pub begun_value : (k : Basic) (w : List ℕ) (n m : ℕ) (f : Prefix) → n ≤ m → IsBegun w n f → IsBegun (123 ∷ letter k ∷ w) (suc m) (entry_with k f)
unfolding prefix_text open_types next
begun_value k w n m f g h = record {
  byte = h.byte;
  more = h.more;
  whole = ap (λ z. 123 ∷ letter k ∷ z) h.whole;
  goes = record { allowed = h.goes.allowed; key = h.goes.key; deep = λ b. let below = h.goes.deep b in omega arith };
}

begun_entry_close : (k : Basic) (u : Ty) → IsBegunType (entry k u) (entry_end k u)
unfolding spelling prefix_text open_types next
begun_entry_close k u = record {
  byte = 125;
  more = [];
  whole = refl;
  goes = record { allowed = refl; key = λ e. absurd (close_wants_key e); deep = λ b. absurd (entry_close_begins_no_type b) };
}

begun_tuple_close : (ts : Types) → IsBegunType (tuple ts) (tuple_with ts nothing)
unfolding spelling prefix_text open_types next
begun_tuple_close ts = record {
  byte = 41;
  more = [];
  whole = rw (append-nil (spellings ts)) refl;
  goes = record { allowed = inr refl; key = λ k. absurd (member_wants_key k); deep = λ b. absurd (close_begins_no_type b) };
}

-- what may come after a prefix within a tuple
allowed_in_tuple : (f : Prefix) (b : ℕ) → IsAllowed (next f) b → IsAllowed (in_tuple f (next f)) b
unfolding next
allowed_in_tuple nothing b h = inl h
allowed_in_tuple _ b h = h

key_in_tuple : (f : Prefix) → in_tuple f (next f) ≡ Expected.key → next f ≡ Expected.key
unfolding next
key_in_tuple nothing e = absurd (member_wants_key e)
key_in_tuple _ e = e

pub begun_tuple : (us : Types) (w : List ℕ) (n m : ℕ) (f : Prefix) → n ≤ m → IsBegun w n f → IsBegun (40 ∷ (spellings us ++ w)) (suc m) (tuple_with us f)
unfolding prefix_text open_types next
begun_tuple us w n m f g h = record {
  byte = h.byte;
  more = h.more;
  whole = ap (λ z. 40 ∷ z) (ap (λ z. spellings us ++ z) h.whole ∙ sym (append_assoc (spellings us) (prefix_text f) (h.byte ∷ h.more)));
  goes = record {
    allowed = allowed_in_tuple f h.byte h.goes.allowed;
    key = λ k. h.goes.key (key_in_tuple f k);
    deep = λ b. let below = h.goes.deep b in omega arith;
  };
}

-- ---- two texts that begin with whole members

-- of the members ts those after the members us, the next one first
pub record IsAfter (us ts : Types) (x y : List ℕ) : Type 0 where
  pub first : Ty
  pub others : Types
  pub texts : spellings ts ≡ spellings us ++ (spelling first ++ spellings others)
  pub rest : x ≡ spelling first ++ (spellings others ++ y)
  pub nested : nesting first ≤ greatest_nesting ts

-- of two texts that begin with members, the members are the same, or some go on in one of them
pub data Aligned (us ts : Types) (x y : List ℕ) : Type 0 where
  same : us ≡ ts → x ≡ y → Aligned us ts x y
  second_goes_on : IsAfter us ts x y → Aligned us ts x y
  first_goes_on : IsAfter ts us y x → Aligned us ts x y

no_members_text : (x : List ℕ) → spellings end ++ x ≡ x
unfolding spelling
no_members_text x = refl

members_text : (t : Ty) (ts : Types) (x : List ℕ) → spellings (member t ts) ++ x ≡ spelling t ++ (spellings ts ++ x)
unfolding spelling
members_text t ts x = append_assoc (spelling t) (spellings ts) x

after_none : (t : Ty) (ts : Types) (x y : List ℕ) → spellings end ++ x ≡ spellings (member t ts) ++ y → IsAfter end (member t ts) x y
unfolding spelling nesting
after_none t ts x y e = record { first = t; others = ts; texts = refl; rest = e ∙ append_assoc (spelling t) (spellings ts) y; nested = omega arith }

after_more : (u t : Ty) (us ts : Types) (x y : List ℕ) → u ≡ t → IsAfter us ts x y → IsAfter (member u us) (member t ts) x y
unfolding spelling nesting
after_more u t us ts x y e h = record {
  first = h.first;
  others = h.others;
  texts = ap (λ v. spelling v ++ spellings ts) (sym e) ∙ (ap (λ z. spelling u ++ z) h.texts ∙ sym (append_assoc (spelling u) (spellings us) (spelling h.first ++ spellings h.others)));
  rest = h.rest;
  nested = let below = h.nested in omega arith;
}

aligned_more : (u t : Ty) (us ts : Types) (x y : List ℕ) → u ≡ t → Aligned us ts x y → Aligned (member u us) (member t ts) x y
aligned_more u t us ts x y e (same p q) = same (ap₂ member e p) q
aligned_more u t us ts x y e (second_goes_on h) = second_goes_on (after_more u t us ts x y e h)
aligned_more u t us ts x y e (first_goes_on h) = first_goes_on (after_more t u ts us y x (sym e) h)

pub aligned : (us ts : Types) (x y : List ℕ) → spellings us ++ x ≡ spellings ts ++ y → Aligned us ts x y
aligned end end x y e = same refl (sym (no_members_text x) ∙ (e ∙ no_members_text y))
aligned end (member t ts) x y e = second_goes_on (after_none t ts x y e)
aligned (member u us) end x y e = first_goes_on (after_none u us y x (sym e))
aligned (member u us) (member t ts) x y e =
    let read = one_reading u t (spellings us ++ x) (spellings ts ++ y) (sym (members_text u us x) ∙ (e ∙ members_text t ts y)) in
    aligned_more u t us ts x y read.0 (aligned us ts x y read.1)

-- a tuple's text of which a prefix of the next member is a part, z coming after its members
pub begun_after : (us ts : Types) (x y z : List ℕ) (n : ℕ) (f : Prefix) → greatest_nesting ts ≤ n → (h : IsAfter us ts x y) → IsBegunType h.first f → IsBegun (40 ∷ (spellings ts ++ z)) (suc n) (tuple_with us f)
begun_after us ts x y z n f g h b =
    let tail = spellings h.others ++ z in
    let whole : spellings us ++ (spelling h.first ++ tail) ≡ spellings ts ++ z = rw h.texts simp append_assoc refl in
    subst (λ w. IsBegun (40 ∷ w) (suc n) (tuple_with us f)) whole
    (begun_tuple us (spelling h.first ++ tail) (nesting h.first) n f (omega (arith, h.nested)) (begun_longer (spelling h.first) tail (nesting h.first) f b))

-- ---- a type whose text begins with a prefix

-- a prefix that begins with a closing bracket is that of nothing
prefix_begins_with_close : (f : Prefix) (x y : List ℕ) → prefix_text f ++ y ≡ 41 ∷ x → nothing ≡ f
unfolding prefix_text
prefix_begins_with_close nothing x y e = refl
prefix_begins_with_close _ x y e = absurd (omega (arith, same_head e))

type_after : (us ts : Types) (x y : List ℕ) (f : Prefix) → IsAfter us ts x y → ((h : IsAfter us ts x y) → IsBegunType h.first f) → IsBegunType (tuple ts) (tuple_with us f)
unfolding spelling nesting
type_after us ts x y f h inner = begun_after us ts x y (41 ∷ []) (greatest_nesting ts) f (omega arith) h (inner h)

tuple_begun : (us ts : Types) (f : Prefix) (x y : List ℕ) → ((v : Ty) (z : List ℕ) → spelling v ++ z ≡ prefix_text f ++ y → IsBegunType v f) → Aligned us ts (prefix_text f ++ y) (41 ∷ x) → IsBegunType (tuple ts) (tuple_with us f)
tuple_begun us ts f x y inner (same p q) = subst (λ g. IsBegunType (tuple ts) (tuple_with us g)) (prefix_begins_with_close f x y q) (subst (λ vs. IsBegunType (tuple ts) (tuple_with vs nothing)) (sym p) (begun_tuple_close ts))
tuple_begun us ts f x y inner (second_goes_on h) = type_after us ts (prefix_text f ++ y) (41 ∷ x) f h (λ g. inner g.first (spellings g.others ++ 41 ∷ x) (sym g.rest))
tuple_begun us ts f x y inner (first_goes_on h) = absurd (no_type_begins_with_close h.first _ x (sym h.rest))

array_begun : (u : Ty) (f : Prefix) → IsBegunType u f → IsBegunType (array u) (array_of f)
unfolding spelling nesting
array_begun u f h = begun_array (spelling u) (nesting u) f h

maybe_begun : (u : Ty) (f : Prefix) → IsBegunType u f → IsBegunType (maybe u) (maybe_of f)
unfolding spelling nesting
maybe_begun u f h = begun_maybe (spelling u) (nesting u) f h

key_begun : (k : Basic) (u : Ty) → IsBegunType (entry k u) entry_start
unfolding spelling nesting
key_begun k u = begun_key k (spelling u ++ 125 ∷ []) (suc (nesting u)) (omega (arith, nesting-positive u))

pub value_begun : (k : Basic) (u : Ty) (f : Prefix) → IsBegunType u f → IsBegunType (entry k u) (entry_with k f)
unfolding spelling nesting
value_begun k u f h = begun_value k (spelling u ++ 125 ∷ []) (nesting u) (nesting u) f (omega arith) (begun_longer (spelling u) (125 ∷ []) (nesting u) f h)

-- a type whose text, followed by anything, begins with a prefix goes on after it
pub begun : (f : Prefix) (t : Ty) (x y : List ℕ) → spelling t ++ x ≡ prefix_text f ++ y → IsBegunType t f
unfolding prefix_text
begun nothing t x y e = begun_type t
begun (array_of f) t x y e =
    let o = opens_array t x (prefix_text f ++ y) e in
    subst (λ v. IsBegunType v (array_of f)) (sym o.1) (array_begun o.0 f (begun f o.0 x y o.2))
begun (maybe_of f) t x y e =
    let o = opens_maybe t x (prefix_text f ++ y) e in
    subst (λ v. IsBegunType v (maybe_of f)) (sym o.1) (maybe_begun o.0 f (begun f o.0 x y o.2))
begun (tuple_with us f) t x y e =
    let o = opens_tuple t x ((spellings us ++ prefix_text f) ++ y) e in
    let aside = aligned us o.0 (prefix_text f ++ y) (41 ∷ x) (sym (o.2 ∙ append_assoc (spellings us) (prefix_text f) y)) in
    subst (λ v. IsBegunType v (tuple_with us f)) (sym o.1) (tuple_begun us o.0 f x y (λ v z. begun f v z y) aside)
begun entry_start t x y e =
    let o = opens_entry t x y e in
    subst (λ v. IsBegunType v entry_start) (sym o.2) (key_begun o.0 o.1)
begun (entry_with k f) t x y e =
    let o = opens_entry t x (letter k ∷ (prefix_text f ++ y)) e in
    let read = same_letter o.0 k (spelling o.1 ++ 125 ∷ x) (prefix_text f ++ y) o.3 in
    subst (λ v. IsBegunType v (entry_with k f)) (sym (o.2 ∙ ap (λ j. entry j o.1) read.0)) (value_begun k o.1 f (begun f o.1 (125 ∷ x) y read.1))
begun (entry_end k u) t x y e =
    let o = opens_entry t x (letter k ∷ (spelling u ++ y)) e in
    let read = same_letter o.0 k (spelling o.1 ++ 125 ∷ x) (spelling u ++ y) o.3 in
    subst (λ v. IsBegunType v (entry_end k u)) (sym (o.2 ∙ ap₂ entry read.0 (one_reading o.1 u (125 ∷ x) y read.1).0)) (begun_entry_close k u)

-- ---- what follows for a text that begins both with a type's text and with a prefix

pub prefix_is_shorter : (f : Prefix) (t : Ty) (x y : List ℕ) → spelling t ++ x ≡ prefix_text f ++ y → length (prefix_text f) < length (spelling t)
prefix_is_shorter f t x y e =
    let h = begun f t x y e in
    omega (arith, ap length h.whole, length-append (prefix_text f) (h.byte ∷ h.more))

-- the byte after the prefix is that with which it goes on
pub begun_with : (w x rest : List ℕ) (n b : ℕ) (f : Prefix) → IsBegun w n f → w ++ x ≡ prefix_text f ++ b ∷ rest → FitsAfter n f b
begun_with w x rest n b f h e =
    let read : h.byte ∷ (h.more ++ x) ≡ b ∷ rest = append_cancel_left (prefix_text f) _ _ (sym (append_assoc (prefix_text f) (h.byte ∷ h.more) x) ∙ (ap (λ z. z ++ x) (sym h.whole) ∙ e)) in
    subst (λ c. FitsAfter n f c) (same_head read) h.goes

pub prefix_goes_on : (f : Prefix) (t : Ty) (x : List ℕ) (b : ℕ) (rest : List ℕ) → spelling t ++ x ≡ prefix_text f ++ b ∷ rest → GoesOnWith t f b
prefix_goes_on f t x b rest e = begun_with (spelling t) x rest (nesting t) b f (begun f t x (b ∷ rest) e) e
