-- Sizes and alignments of types: by a type's class, and how large they get.
use Rattle.std.proofs.Common.{◌≡◌, ◌⊎◌, inl, inr, ℕ, ◌+◌, ◌-◌, ◌*◌, ◌/◌, ◌^◌, ◌<◌, ◌≤◌, max, List, [], ◌∷◌, ◌++◌, length, Option, Some, None, true, refl, sym, ap, ap₂, ◌∙◌, arith, length-append}
use Rattle.std.specs.Prelude.{option_map, option_and_then, max}
use Rattle.std.proofs.Math.Nat.{div-mul-le_self, lt-div-mul-add}
use Rattle.std.proofs.lemmas.Option.{same_Some, none-some}
use Rattle.gv_model.specs.Ty.{Ty, Types, Basic, spelling, spellings, members}
use Rattle.gv_model.specs.Ty.Ty.{basic, variant, array, maybe, tuple, entry}
use Rattle.gv_model.specs.Ty.Types.{end, member}
use Rattle.gv_model.specs.Layout.{basic_size, alignment, greatest_alignment, fixed_size, fixed_end, padded, round_up, or_one}
use Rattle.gv_model.specs.TypeText.{is_type, type_at, is_within_limits}
use Rattle.gv_model.proofs.TypeTextParts.{spelling-type_at}
use Rattle.gv_model.proofs.LayoutLaws.{alignment_pos, round_up-zero}
use Rattle.gv_types.specs.declared.class.BasicType.{BasicType}
use Rattle.gv_types.specs.declared.class.Class.{Class}
use Rattle.gv_types.specs.declared.class.Class.TheVariants as classes
use Rattle.gv_types.specs.Classes.{class_of, basic_of}
use Rattle.gv_types.proofs.ClassLaws.{basic_class}

-- ---- alignments

-- an alignment is 1 to 8
pub record IsAlignment (a : ℕ) : Type 0 where
  pub least : 0 < a
  pub most : a ≤ 8

basic_alignment : (k : Basic) → IsAlignment (or_one (basic_size k))
basic_alignment Basic.boolean = record { least = omega arith; most = omega arith }
basic_alignment _ = record { least = omega arith; most = omega arith }

pub max_alignment : (a b : ℕ) → IsAlignment a → IsAlignment b → IsAlignment (max a b)
max_alignment a b h g = record { least = omega (arith, h.least); most = omega (arith, h.most, g.most) }

mutual
  unfolding alignment greatest_alignment

  pub alignment_is : (t : Ty) → IsAlignment (alignment t)
  alignment_is (basic k) = basic_alignment k
  alignment_is variant = record { least = omega arith; most = omega arith }
  alignment_is (array t) = alignment_is t
  alignment_is (maybe t) = alignment_is t
  alignment_is (tuple ts) = greatest_alignment_is ts
  alignment_is (entry k t) = max_alignment (or_one (basic_size k)) (alignment t) (basic_alignment k) (alignment_is t)

  pub greatest_alignment_is : (ts : Types) → IsAlignment (greatest_alignment ts)
  greatest_alignment_is end = record { least = omega arith; most = omega arith }
  greatest_alignment_is (member t ts) = max_alignment (alignment t) (greatest_alignment ts) (alignment_is t) (greatest_alignment_is ts)

pub alignment_most : (t : Ty) → alignment t ≤ 8
alignment_most t = (alignment_is t).most

-- ---- rounding up

pub round_up_near : (a p : ℕ) → 0 < a → (p ≤ round_up a p) × (round_up a p < p + a)
unfolding round_up
round_up_near a p h =
    let past : p + (a - 1) < (p + (a - 1)) / a * a + a = lt-div-mul-add h in
    (omega (arith, past), omega (arith, div-mul-le_self (p + (a - 1)) a))

-- ---- tuples and entries by their members

-- the alignment and the size of a type are those of its members one after the other
pub record IsOfMembers (t : Ty) : Type 0 where
  pub aligned : alignment t ≡ greatest_alignment (members t)
  pub sized : fixed_size t ≡ padded (greatest_alignment (members t)) (fixed_end (members t) 0)

entry_end : (t : Ty) (a : ℕ) (o : Option ℕ) (u : Option ℕ) → round_up a 0 ≡ 0
    → option_and_then (λ s. option_and_then (λ z. Some (round_up (alignment t) (round_up a 0 + s) + z)) u) o
    ≡ option_and_then (λ p. option_map (λ s. round_up (alignment t) p + s) u) o
entry_end t a None u h = refl
entry_end t a (Some s) None h = refl
entry_end t a (Some s) (Some z) h =
    let same : round_up a 0 + s ≡ s = omega (arith, h) in
    ap (λ (p : ℕ). Some (round_up (alignment t) p + z)) same

of_tuple : (ts : Types) → IsOfMembers (tuple ts)
unfolding alignment fixed_size
of_tuple ts = record { aligned = refl; sized = refl }

of_entry : (k : Basic) (t : Ty) → IsOfMembers (entry k t)
unfolding alignment greatest_alignment fixed_size fixed_end
of_entry k t =
    let same : max (or_one (basic_size k)) (alignment t) ≡ max (or_one (basic_size k)) (max (alignment t) 1) = omega (arith, alignment_pos t) in
    record {
      aligned = same;
      sized = ap₂ padded same (sym (entry_end t (or_one (basic_size k)) (basic_size k) (fixed_size t) (round_up-zero (or_one (basic_size k)) (basic_alignment k).least)));
    }

pub of_members : (t : Ty) (c : Class) → c ≡ class_of t → (c ≡ classes.Tuple) ⊎ (c ≡ classes.Entry) → IsOfMembers t
of_members (tuple ts) c e h = of_tuple ts
of_members (entry k t) c e h = of_entry k t
of_members (basic k) c e (inr h) = absurd cc
of_members variant c e (inr h) = absurd cc
of_members (array t) c e (inr h) = absurd cc
of_members (maybe t) c e (inr h) = absurd cc
of_members _ c e (inl h) = absurd cc

-- ---- how large sizes get: each byte of a type's text stands for at most 16 bytes

abbrev pub IsSmall : Ty → Type 0
IsSmall t = (n : ℕ) → fixed_size t ≡ Some n → n + 8 ≤ 16 * length (spelling t)

abbrev EndsNear : Types → Type 0
EndsNear ts = (p e : ℕ) → fixed_end ts p ≡ Some e → e ≤ p + 16 * length (spellings ts)

-- where a member ends that begins after p
pub member_near : (t : Ty) (p s : ℕ) → IsSmall t → fixed_size t ≡ Some s → round_up (alignment t) p + s ≤ p + 16 * length (spelling t)
member_near t p s small e = omega (arith, small s e, (round_up_near (alignment t) p (alignment_pos t)).1, alignment_most t)

ends_near : (t : Ty) (ts : Types) → IsSmall t → EndsNear ts → EndsNear (member t ts)
unfolding fixed_end spellings
ends_near t ts small near p e eq = go (fixed_size t) refl eq
  where
    go : (o : Option ℕ) → fixed_size t ≡ o → option_and_then (λ s. fixed_end ts (round_up (alignment t) p + s)) o ≡ Some e → e ≤ p + 16 * length (spelling t ++ spellings ts)
    go None h g = absurd (none-some e g)
    go (Some s) h g = omega (arith, member_near t p s small h, near (round_up (alignment t) p + s) e g, length-append (spelling t) (spellings ts))

-- a size padded at the end
padded_near : (a : ℕ) (place : Option ℕ) (n m : ℕ) → IsAlignment a → ((e : ℕ) → place ≡ Some e → e ≤ m) → padded a place ≡ Some n → n ≤ m + 7
padded_near a None n m h f e = absurd (none-some n e)
padded_near a (Some p) n m h f e =
    let same : max 1 (round_up a p) ≡ n = same_Some _ _ e in
    omega (arith, same, f p refl, (round_up_near a p h.least).1, h.most)

basic_small : (k : Basic) → IsSmall (basic k)
unfolding fixed_size spelling
basic_small k n e = go (basic_size k) e (basic_alignment k)
  where
    go : (o : Option ℕ) → o ≡ Some n → IsAlignment (or_one o) → n + 8 ≤ 16
    go None g h = absurd (none-some n g)
    go (Some m) g h = let same : m ≡ n = same_Some m n g in omega (arith, h.most)

tuple_small : (ts : Types) → EndsNear ts → IsSmall (tuple ts)
unfolding fixed_size spelling
tuple_small ts near n e =
    omega (arith, padded_near (greatest_alignment ts) (fixed_end ts 0) n (16 * length (spellings ts)) (greatest_alignment_is ts) (λ x h. omega (arith, near 0 x h)) e, length-append (spellings ts) (41 ∷ []))

entry_small : (k : Basic) (t : Ty) → EndsNear (members (entry k t)) → IsSmall (entry k t)
unfolding spelling spellings
entry_small k t near n e =
    let ts : Types = members (entry k t) in
    omega (arith, padded_near (greatest_alignment ts) (fixed_end ts 0) n (16 * length (spellings ts)) (greatest_alignment_is ts) (λ x h. omega (arith, near 0 x h)) (sym (of_entry k t).sized ∙ e), length-append (spelling t) (125 ∷ []), length-append (spelling t) [])

varies_small : (t : Ty) → fixed_size t ≡ None → IsSmall t
varies_small t h n e = absurd (none-some n (sym h ∙ e))

end_near : EndsNear end
unfolding fixed_end spellings
end_near p e eq = let same : p ≡ e = same_Some p e eq in omega arith

no_size-variant : fixed_size variant ≡ None
unfolding fixed_size
no_size-variant = refl

no_size-array : (t : Ty) → fixed_size (array t) ≡ None
unfolding fixed_size
no_size-array t = refl

no_size-maybe : (t : Ty) → fixed_size (maybe t) ≡ None
unfolding fixed_size
no_size-maybe t = refl

mutual
  pub size_most : (t : Ty) → IsSmall t
  size_most (basic k) = basic_small k
  size_most variant = varies_small variant no_size-variant
  size_most (array t) = varies_small (array t) (no_size-array t)
  size_most (maybe t) = varies_small (maybe t) (no_size-maybe t)
  size_most (tuple ts) = tuple_small ts (end_most ts)
  size_most (entry k t) = entry_small k t (ends_near (basic k) (member t end) (basic_small k) (ends_near t end (size_most t) end_near))

  end_most : (ts : Types) → EndsNear ts
  end_most end = end_near
  end_most (member t ts) = ends_near t ts (size_most t) (end_most ts)

-- the text of a checked type is not too long
pub text_most : (w : List ℕ) → is_type w ≡ true → length (spelling (type_at w)) ≤ 67108864
text_most w h =
    let found = spelling-type_at w h in
    let within : is_within_limits (type_at w) w ≡ true = found.1 in
    let same : length (spelling (type_at w)) ≡ length w = ap length found.0 in
    grind arith

-- the size of a checked type
pub fixed_size_most : (w : List ℕ) (n : ℕ) → is_type w ≡ true → fixed_size (type_at w) ≡ Some n → n < 2 ^ 31
fixed_size_most w n h e = omega (arith, size_most (type_at w) n e, text_most w h)

-- ---- sizes and alignments by a type's class

pub fixed_size-basic : (t : Ty) (b : BasicType) → classes.Basic b ≡ class_of t → fixed_size t ≡ basic_size (basic_of b)
unfolding fixed_size
fixed_size-basic t b e = ap fixed_size (basic_class t b e)

pub alignment-basic : (t : Ty) (b : BasicType) → classes.Basic b ≡ class_of t → alignment t ≡ or_one (basic_size (basic_of b))
unfolding alignment
alignment-basic t b e = ap alignment (basic_class t b e)

-- a type of these classes has no fixed size
pub no_size : (t : Ty) (c : Class) → c ≡ class_of t → (c ≡ classes.Variant) ⊎ ((c ≡ classes.Array) ⊎ (c ≡ classes.Maybe)) → fixed_size t ≡ None
no_size variant c e h = no_size-variant
no_size (array t) c e h = no_size-array t
no_size (maybe t) c e h = no_size-maybe t
no_size (basic k) c e (inl h) = absurd cc
no_size (basic k) c e (inr (inl h)) = absurd cc
no_size (basic k) c e (inr (inr h)) = absurd cc
no_size (tuple ts) c e (inl h) = absurd cc
no_size (tuple ts) c e (inr (inl h)) = absurd cc
no_size (tuple ts) c e (inr (inr h)) = absurd cc
no_size (entry k t) c e (inl h) = absurd cc
no_size (entry k t) c e (inr (inl h)) = absurd cc
no_size (entry k t) c e (inr (inr h)) = absurd cc
