-- What the first byte of a text tells of the type at its start.
use Rattle.std.proofs.Common.{ℕ, ◌≡◌, ◌≤◌, ◌<◌, ◌++◌, List, [], ◌∷◌, length, drop, get_or, Some, true, refl, sym, ap, ◌∙◌, subst, arith, length-append, length-drop}
use Rattle.std.proofs.lemmas.Bool.{false≢true}
use Rattle.gv_model.specs.Ty.{Ty, Types, Basic, spelling, nesting, greatest_nesting}
use Rattle.gv_model.specs.Ty.Ty.{basic, variant, tuple, entry}
use Rattle.gv_model.specs.Ty.Types.{end, member}
use Rattle.gv_model.specs.TypeText.{TypeMark, Seen, seen, mark, is_type, type_at, tuple_type_before, mark_before, array_before, maybe_before, entry_before, member_before}
use Rattle.gv_model.specs.TypeText.TypeMark.{letter, of_variant, of_array, of_maybe, open_tuple, close_tuple, open_entry, close_entry, other}
use Rattle.gv_model.specs.TypeText.Seen.{nothing, type, tuple_end, entry_end, wrong}
use Rattle.gv_model.specs.Lexing.{type_prefix}
use Rattle.gv_model.proofs.TypeTextLaws.{seen-spelling, seen_type, limits_of, within_limits}
use Rattle.gv_model.proofs.TypeTextParts.{spelling-type_at}
use Rattle.gv_model.proofs.Prefixes.{spelling-positive}
use Rattle.gv_model.proofs.TypeTextSound.{Shows, seen_shows, IsByteOf, byte_of_mark}
use Rattle.gv_types.specs.declared.class.BasicType.{BasicType}
use Rattle.gv_types.specs.declared.class.Class.{Class}
use Rattle.gv_types.specs.declared.class.Class.TheVariants as classes
use Rattle.gv_types.specs.Classes.{basic_of, class_of, class_of_mark}
use Rattle.gv_types.specs.FirstTypes.{begins_type, first_type, after, closes, types_inside, after_close, HasFirstType, BeginsInside, IsAfterFirst}
use Rattle.gv_types.proofs.ClassLaws.{basic_of-basic_type}
use Rattle.gv_types.proofs.PrefixTypes.{one_type_prefix}

-- ---- tuples

-- types before a closing bracket, in brackets
pub record IsTupleBefore (s r : Seen) : Type 0 where
  pub ends : closes s ≡ true
  pub is : r ≡ type (tuple (types_inside s)) (after_close s)

member_begins : (t : Ty) (r : Seen) → begins_type (member_before t r) ≡ true → begins_type r ≡ true
member_begins t (type u r) h = refl
member_begins t _ h = h

one_more : (t : Ty) (s r : Seen) → IsTupleBefore s r → IsTupleBefore (type t s) (member_before t r)
one_more t s r h = record { ends = h.ends; is = ap (member_before t) h.is }

tuple_before : (s : Seen) → begins_type (tuple_type_before s) ≡ true → IsTupleBefore s (tuple_type_before s)
unfolding tuple_type_before
tuple_before (tuple_end s) h = record { ends = refl; is = refl }
tuple_before (type t s) h = one_more t s (tuple_type_before s) (tuple_before s (member_begins t (tuple_type_before s) h))
tuple_before _ h = absurd (false≢true h)

first_nests : (t : Ty) (ts : Types) → (nesting t ≤ greatest_nesting (member t ts)) × (greatest_nesting ts ≤ greatest_nesting (member t ts))
unfolding nesting
first_nests t ts = (omega arith, omega arith)

tuple_begins : (s : Seen) → closes (tuple_type_before s) ≡ true → begins_type (tuple_type_before s) ≡ true
unfolding tuple_type_before
tuple_begins (tuple_end s) e = refl
tuple_begins (type t s) e = go (tuple_type_before s) e
  where
    go : (r : Seen) → closes (member_before t r) ≡ true → begins_type (member_before t r) ≡ true
    go (type (tuple ts) r) e = refl
    go _ e = e
tuple_begins nothing e = e
tuple_begins (entry_end s) e = e
tuple_begins wrong e = e

-- neither brackets begin with a closing one
no_end : (s r : Seen) → tuple_type_before s ≡ entry_end r → ⊥
unfolding tuple_type_before
no_end (tuple_end s) r e = cc
no_end (type t s) r e = go (tuple_type_before s) e
  where
    go : (q : Seen) → member_before t q ≡ entry_end r → ⊥
    go (type (tuple ts) q) e = cc
    go _ e = cc
no_end nothing r e = cc
no_end (entry_end s) r e = cc
no_end wrong r e = cc

no_entry_end : (s r : Seen) → entry_before s ≡ entry_end r → ⊥
no_entry_end (type (basic k) (type t (entry_end s))) r e = cc
no_entry_end _ r e = cc

-- ---- a mark before s

-- r is an entry's type, whose parts occur in s
pub record IsEntryBefore (s r : Seen) : Type 0 where
  pub key : Basic
  pub value : Ty
  pub rest : Seen
  pub inside : s ≡ type (basic key) (type value (entry_end rest))
  pub is : r ≡ type (entry key value) rest

-- what r is, whose first type is of this class and begins before s
abbrev pub IsBefore : Seen → Seen → Class → Type 0
IsBefore s r (classes.Basic b) = r ≡ type (basic (basic_of b)) s
IsBefore s r classes.Variant = r ≡ type variant s
IsBefore s r classes.Array = Unit {0}
IsBefore s r classes.Maybe = Unit {0}
IsBefore s r classes.Tuple = IsTupleBefore s r
IsBefore s r classes.Entry = IsEntryBefore s r

-- a mark before s tells the class
pub record IsMarked (m : TypeMark) (s r : Seen) : Type 0 where
  pub class : class_of_mark m ≡ Some (class_of (first_type r))
  pub is : IsBefore s r (class_of (first_type r))

array_is : (s : Seen) → begins_type (array_before s) ≡ true → IsMarked of_array s (array_before s)
array_is (type t s) h = record { class = refl; is = tt }
array_is _ h = absurd (false≢true h)

maybe_is : (s : Seen) → begins_type (maybe_before s) ≡ true → IsMarked of_maybe s (maybe_before s)
maybe_is (type t s) h = record { class = refl; is = tt }
maybe_is _ h = absurd (false≢true h)

entry_is : (s : Seen) → begins_type (entry_before s) ≡ true → IsMarked open_entry s (entry_before s)
entry_is (type (basic k) (type t (entry_end s))) h = record { class = refl; is = record { key = k; value = t; rest = s; inside = refl; is = refl } }
entry_is _ h = absurd (false≢true h)

tuple_is : (s : Seen) → begins_type (tuple_type_before s) ≡ true → IsMarked open_tuple s (tuple_type_before s)
tuple_is s h =
    let t = tuple_before s h in
    let c : classes.Tuple ≡ class_of (first_type (tuple_type_before s)) = sym (ap (λ r. class_of (first_type r)) t.is) in
    record { class = ap Some c; is = subst (IsBefore s (tuple_type_before s)) c t }

marked : (m : TypeMark) (s : Seen) → begins_type (mark_before m s) ≡ true → IsMarked m s (mark_before m s)
marked (letter k) s h = record { class = refl; is = ap (λ j. type (basic j) s) (sym (basic_of-basic_type k)) }
marked of_variant s h = record { class = refl; is = refl }
marked of_array s h = array_is s h
marked of_maybe s h = maybe_is s h
marked open_tuple s h = tuple_is s h
marked open_entry s h = entry_is s h
marked _ s h = absurd (false≢true h)

-- ---- the first byte of a text

seen_cut : (w : List ℕ) → 0 < length w → seen w ≡ mark_before (mark (get_or w 0 0)) (seen (drop 1 w))
unfolding seen
seen_cut [] h = absurd (omega arith)
seen_cut (c ∷ w) h = refl

some_seen : (w : List ℕ) → (seen w ≡ nothing → ⊥) → 0 < length w
unfolding seen
some_seen [] h = absurd (h refl)
some_seen (c ∷ w) h = omega arith

pub first_type_some : (w : List ℕ) → HasFirstType w → 0 < length w
first_type_some w f = some_seen w (λ e. false≢true (sym (ap begins_type e) ∙ f.begins))

first_type_marked : (w : List ℕ) → HasFirstType w → IsMarked (mark (get_or w 0 0)) (seen (drop 1 w)) (seen w)
first_type_marked w f =
    let e = seen_cut w (first_type_some w f) in
    subst (IsMarked (mark (get_or w 0 0)) (seen (drop 1 w))) (sym e) (marked (mark (get_or w 0 0)) (seen (drop 1 w)) (sym (ap begins_type e) ∙ f.begins))

-- it tells the type's class
pub first_type_class : (w : List ℕ) → HasFirstType w → class_of_mark (mark (get_or w 0 0)) ≡ Some (class_of (first_type (seen w)))
first_type_class w f = (first_type_marked w f).class

first_type_is : (w : List ℕ) (c : Class) → HasFirstType w → class_of (first_type (seen w)) ≡ c → IsBefore (seen (drop 1 w)) (seen w) c
first_type_is w c f e = subst (IsBefore (seen (drop 1 w)) (seen w)) e (first_type_marked w f).is

drop_shorter : (w : List ℕ) → 0 < length w → length (drop 1 w) < length w
drop_shorter w h = omega (arith, h, length-drop 1 w)

-- a type of one letter
pub record IsOneLetter (w : List ℕ) (t : Ty) : Type 0 where
  pub type : first_type (seen w) ≡ t
  pub after : IsAfterFirst w (drop 1 w)

one_letter : (w : List ℕ) (t : Ty) → HasFirstType w → seen w ≡ type t (seen (drop 1 w)) → IsOneLetter w t
one_letter w t f e = record { type = ap first_type e; after = record { is = sym (ap after e); shorter = drop_shorter w (first_type_some w f) } }

pub basic_first_type : (w : List ℕ) (b : BasicType) → HasFirstType w → class_of (first_type (seen w)) ≡ classes.Basic b → IsOneLetter w (basic (basic_of b))
basic_first_type w b f e = one_letter w (basic (basic_of b)) f (first_type_is w (classes.Basic b) f e)

pub variant_first_type : (w : List ℕ) → HasFirstType w → class_of (first_type (seen w)) ≡ classes.Variant → IsOneLetter w variant
variant_first_type w f e = one_letter w variant f (first_type_is w classes.Variant f e)

-- ---- the type that is cut off

begun : (s : Seen) → begins_type s ≡ true → s ≡ type (first_type s) (after s)
begun (type t s) h = refl
begun _ h = absurd (false≢true h)

spelled : (s : Seen) (w : List ℕ) → begins_type s ≡ true → Shows s w → (r : List ℕ) × (w ≡ spelling (first_type s) ++ r)
spelled (type t s) w h is = (is.0, is.1)
spelled _ w h is = absurd (false≢true h)

pub first_type_prefix : (w : List ℕ) → HasFirstType w → type_prefix [] w ≡ Some (first_type (seen w))
first_type_prefix w f =
    let p = spelled (seen w) w f.begins (seen_shows w) in
    let t = first_type (seen w) in
    let fits = within_limits t (spelling t) f.nested (omega (arith, f.short, ap length p.1, length-append (spelling t) p.0)) in
    ap (type_prefix []) p.1 ∙ one_type_prefix t [] (spelling t) p.0 fits refl

pub first_type_short : (w : List ℕ) → HasFirstType w → length (spelling (first_type (seen w))) ≤ 67108864
first_type_short w f =
    let p = spelled (seen w) w f.begins (seen_shows w) in
    omega (arith, f.short, ap length p.1, length-append (spelling (first_type (seen w))) p.0)

pub cut_after : (w rest : List ℕ) (t : Ty) → w ≡ spelling t ++ rest → IsAfterFirst w rest
cut_after w rest t e = record {
  is = sym (ap after (ap seen e ∙ seen-spelling t rest));
  shorter = omega (arith, ap length e, length-append (spelling t) rest, spelling-positive t);
}

-- ---- the members of a tuple

pub record HasInside (w : List ℕ) : Type 0 where
  pub begins : BeginsInside (drop 1 w)
  pub type : first_type (seen w) ≡ tuple (types_inside (seen (drop 1 w)))
  pub after : after (seen w) ≡ after_close (seen (drop 1 w))
  pub shorter : length (drop 1 w) < length w

inside_nests : (ts : Types) → greatest_nesting ts ≤ nesting (tuple ts)
unfolding nesting
inside_nests ts = omega arith

pub tuple_first_type : (w : List ℕ) → HasFirstType w → class_of (first_type (seen w)) ≡ classes.Tuple → HasInside w
tuple_first_type w f e =
    let t = first_type_is w classes.Tuple f e in
    let less = drop_shorter w (first_type_some w f) in
    record {
      begins = record { ends = t.ends; nested = omega (arith, f.nested, ap (λ r. nesting (first_type r)) t.is, inside_nests (types_inside (seen (drop 1 w)))); short = omega (arith, f.short, less) };
      type = ap first_type t.is;
      after = ap after t.is;
      shorter = less;
    }

pub inside_some : (w : List ℕ) → BeginsInside w → 0 < length w
inside_some w f = some_seen w (λ e. false≢true (sym (ap closes e) ∙ f.ends))

-- the bracket closes
pub record IsClosed (w : List ℕ) : Type 0 where
  pub none : types_inside (seen w) ≡ end
  pub after : after_close (seen w) ≡ seen (drop 1 w)
  pub shorter : length (drop 1 w) < length w

closing : mark 41 ≡ close_tuple
unfolding mark
closing = refl

pub inside_end : (w : List ℕ) → BeginsInside w → get_or w 0 0 ≡ 41 → IsClosed w
inside_end w f e =
    let is : seen w ≡ tuple_end (seen (drop 1 w)) = seen_cut w (inside_some w f) ∙ ap (λ m. mark_before m (seen (drop 1 w))) (ap mark e ∙ closing) in
    record { none = ap types_inside is; after = ap after_close is; shorter = drop_shorter w (inside_some w f) }

-- another byte begins a member
ends_or_begins : (m : TypeMark) (b : ℕ) (s : Seen) → IsByteOf m b → (b ≡ 41 → ⊥) → closes (mark_before m s) ≡ true → begins_type (mark_before m s) ≡ true
ends_or_begins (letter k) b s is h e = refl
ends_or_begins of_variant b s is h e = refl
ends_or_begins of_array b s is h e = array_begins s e
  where
    array_begins : (s : Seen) → closes (array_before s) ≡ true → begins_type (array_before s) ≡ true
    array_begins (type t s) e = refl
    array_begins nothing e = e
    array_begins (tuple_end s) e = e
    array_begins (entry_end s) e = e
    array_begins wrong e = e
ends_or_begins of_maybe b s is h e = maybe_begins s e
  where
    maybe_begins : (s : Seen) → closes (maybe_before s) ≡ true → begins_type (maybe_before s) ≡ true
    maybe_begins (type t s) e = refl
    maybe_begins nothing e = e
    maybe_begins (tuple_end s) e = e
    maybe_begins (entry_end s) e = e
    maybe_begins wrong e = e
ends_or_begins open_tuple b s is h e = tuple_begins s e
ends_or_begins open_entry b s is h e = entry_begins s e
  where
    entry_begins : (s : Seen) → closes (entry_before s) ≡ true → begins_type (entry_before s) ≡ true
    entry_begins (type (basic k) (type t (entry_end s))) e = refl
    entry_begins _ e = e
ends_or_begins close_tuple b s is h e = absurd (h is)
ends_or_begins close_entry b s is h e = e
ends_or_begins other b s is h e = e

pub inside_first_type : (w : List ℕ) → BeginsInside w → (get_or w 0 0 ≡ 41 → ⊥) → HasFirstType w
inside_first_type w f h =
    let cut = seen_cut w (inside_some w f) in
    let begins : begins_type (seen w) ≡ true = ap begins_type cut ∙ ends_or_begins (mark (get_or w 0 0)) (get_or w 0 0) (seen (drop 1 w)) (byte_of_mark (get_or w 0 0)) h (sym (ap closes cut) ∙ f.ends) in
    record { begins = begins; nested = omega (arith, f.nested, ap (λ s. greatest_nesting (types_inside s)) (begun (seen w) begins), first_nests (first_type (seen w)) (types_inside (after (seen w)))); short = f.short }

pub inside_types : (w : List ℕ) → BeginsInside w → HasFirstType w → types_inside (seen w) ≡ member (first_type (seen w)) (types_inside (after (seen w)))
inside_types w f g = ap types_inside (begun (seen w) g.begins)

pub inside_more : (w : List ℕ) → BeginsInside w → (get_or w 0 0 ≡ 41 → ⊥) → types_inside (seen w) ≡ end → ⊥
inside_more w f h e = let is : member (first_type (seen w)) (types_inside (after (seen w))) ≡ end = sym (inside_types w f (inside_first_type w f h)) ∙ e in cc

-- after a member
pub record HasMember (w rest : List ℕ) : Type 0 where
  pub begins : BeginsInside rest
  pub types : types_inside (seen w) ≡ member (first_type (seen w)) (types_inside (seen rest))
  pub after : after_close (seen w) ≡ after_close (seen rest)

pub inside_next : (w rest : List ℕ) → BeginsInside w → HasFirstType w → IsAfterFirst w rest → HasMember w rest
inside_next w rest f g a =
    let is : seen w ≡ type (first_type (seen w)) (seen rest) = begun (seen w) g.begins ∙ ap (type (first_type (seen w))) (sym a.is) in
    record {
      begins = record {
        ends = sym (ap closes is) ∙ f.ends;
        nested = omega (arith, f.nested, ap (λ s. greatest_nesting (types_inside s)) is, first_nests (first_type (seen w)) (types_inside (seen rest)));
        short = omega (arith, f.short, a.shorter);
      };
      types = ap types_inside is;
      after = ap after_close is;
    }

-- ---- the parts of an entry

-- a key, a value, and the bracket that closes
pub record HasPair (w : List ℕ) : Type 0 where
  pub key : Basic
  pub value : Ty
  pub rest : Seen
  pub inside : seen (drop 1 w) ≡ type (basic key) (type value (entry_end rest))
  pub type : first_type (seen w) ≡ entry key value
  pub after : after (seen w) ≡ rest
  pub nested : nesting value ≤ 128
  pub short : length (drop 1 w) ≤ 67108864
  pub shorter : length (drop 1 w) < length w

value_nests : (k : Basic) (t : Ty) → nesting t ≤ nesting (entry k t)
unfolding nesting
value_nests k t = omega arith

pub entry_first_type : (w : List ℕ) → HasFirstType w → class_of (first_type (seen w)) ≡ classes.Entry → HasPair w
entry_first_type w f e =
    let t = first_type_is w classes.Entry f e in
    let less = drop_shorter w (first_type_some w f) in
    record {
      key = t.key;
      value = t.value;
      rest = t.rest;
      inside = t.inside;
      type = ap first_type t.is;
      after = ap after t.is;
      nested = omega (arith, f.nested, ap (λ r. nesting (first_type r)) t.is, value_nests t.key t.value);
      short = omega (arith, f.short, less);
      shorter = less;
    }

key_nests : (k : Basic) → nesting (basic k) ≤ 128
unfolding nesting
key_nests k = omega arith

-- the key is at the start of what is in the brackets
pub key_first_type : (w : List ℕ) (p : HasPair w) → HasFirstType (drop 1 w)
key_first_type w p = record { begins = ap begins_type p.inside; nested = subst (λ (t : Ty). nesting t ≤ 128) (sym (ap first_type p.inside)) (key_nests p.key); short = p.short }

pub key_type : (w : List ℕ) (p : HasPair w) → first_type (seen (drop 1 w)) ≡ basic p.key
key_type w p = ap first_type p.inside

-- after it the value is
value_seen : (w rest : List ℕ) (p : HasPair w) → IsAfterFirst (drop 1 w) rest → seen rest ≡ type p.value (entry_end p.rest)
value_seen w rest p a = a.is ∙ ap after p.inside

pub value_first_type : (w rest : List ℕ) (p : HasPair w) → IsAfterFirst (drop 1 w) rest → HasFirstType rest
value_first_type w rest p a =
    let e = value_seen w rest p a in
    record { begins = ap begins_type e; nested = subst (λ (t : Ty). nesting t ≤ 128) (sym (ap first_type e)) p.nested; short = omega (arith, p.short, a.shorter) }

pub value_type : (w rest : List ℕ) (p : HasPair w) → IsAfterFirst (drop 1 w) rest → first_type (seen rest) ≡ p.value
value_type w rest p a = ap first_type (value_seen w rest p a)

-- and then the bracket
entry_closes : (w : List ℕ) (s : Seen) → seen w ≡ entry_end s → (0 < length w) × (seen (drop 1 w) ≡ s)
entry_closes w s e =
    let some : 0 < length w = some_seen w (λ n. absurd (let x : entry_end s ≡ nothing = sym e ∙ n in cc)) in
    (some, closed (mark (get_or w 0 0)) (seen (drop 1 w)) (sym (seen_cut w some) ∙ e))
  where
    closed : (m : TypeMark) (r : Seen) → mark_before m r ≡ entry_end s → r ≡ s
    closed close_entry r e = cc
    closed (letter k) r e = absurd cc
    closed of_variant r e = absurd cc
    closed of_array (type t r) e = absurd cc
    closed of_array nothing e = absurd cc
    closed of_array (tuple_end r) e = absurd cc
    closed of_array (entry_end r) e = absurd cc
    closed of_array wrong e = absurd cc
    closed of_maybe (type t r) e = absurd cc
    closed of_maybe nothing e = absurd cc
    closed of_maybe (tuple_end r) e = absurd cc
    closed of_maybe (entry_end r) e = absurd cc
    closed of_maybe wrong e = absurd cc
    closed open_tuple r e = absurd (no_end r s e)
    closed open_entry r e = absurd (no_entry_end r s e)
    closed close_tuple r e = absurd cc
    closed other r e = absurd cc

pub record IsEntryClosed (w last : List ℕ) : Type 0 where
  pub some : 0 < length last
  pub after : IsAfterFirst w (drop 1 last)

pub entry_closed : (w value last : List ℕ) (p : HasPair w) → IsAfterFirst (drop 1 w) value → IsAfterFirst value last → IsEntryClosed w last
entry_closed w value last p a b =
    let c = entry_closes last p.rest (b.is ∙ ap after (value_seen w value p a)) in
    record { some = c.0; after = record { is = c.1 ∙ sym p.after; shorter = omega (arith, p.shorter, a.shorter, b.shorter, drop_shorter last c.0) } }

-- ---- a whole type

pub whole_first_type : (w : List ℕ) → is_type w ≡ true → HasFirstType w
whole_first_type w h =
    let is = spelling-type_at w h in
    let e : seen w ≡ type (type_at w) nothing = ap seen (sym is.0) ∙ seen_type (type_at w) in
    let limits = limits_of (type_at w) w is.1 in
    record { begins = ap begins_type e; nested = subst (λ (t : Ty). nesting t ≤ 128) (sym (ap first_type e)) limits.0; short = limits.1 }

pub whole_type : (w : List ℕ) → is_type w ≡ true → first_type (seen w) ≡ type_at w
whole_type w h = ap first_type (ap seen (sym (spelling-type_at w h).0) ∙ seen_type (type_at w))
