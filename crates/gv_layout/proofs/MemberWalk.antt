-- A walk along a type's members, from the first on.
use Rattle.std.proofs.Common.{◌≡◌, ℕ, ◌+◌, ◌*◌, ◌<◌, ◌≤◌, ◌^◌, max, List, [], ◌∷◌, length, Option, Some, None, refl, sym, ap, ap₂, subst, ◌∙◌, arith, length-append}
use Rattle.std.specs.Prelude.{IfSome, option_map, option_and_then}
use Rattle.gv_model.specs.Ty.{Ty, Types, nesting, greatest_nesting, spelling, spellings, members, types_from, type_list}
use Rattle.gv_model.specs.Ty.Ty.{basic, variant, array, maybe, tuple, entry}
use Rattle.gv_model.specs.Ty.Types.{member}
use Rattle.gv_model.specs.Layout.{alignment, greatest_alignment, fixed_size, fixed_end, round_up}
use Rattle.gv_model.proofs.ListLaws.{types_from-listed}
use Rattle.gv_model.proofs.Prefixes.{nesting-positive}
use Rattle.gv_layout.proofs.Sizes.{IsAlignment, size_most, member_near, alignment_is, max_alignment, greatest_alignment_is, alignment_most}

-- where a member ends after one that ends there
abbrev pub end_of_next : Ty → Option ℕ → Option ℕ
end_of_next u place = option_and_then (λ p. option_map (λ s. round_up (alignment u) p + s) (fixed_size u)) place

-- before the members in rest, a walk along those of t has found that they are aligned to a and end at a place
pub record IsWalk (t : Ty) (rest : List Ty) (a : ℕ) (place : Option ℕ) : Type 0 where
  pub aligned : max a (greatest_alignment (types_from rest)) ≡ greatest_alignment (members t)
  pub placed : option_and_then (fixed_end (types_from rest)) place ≡ fixed_end (members t) 0
  pub deeper : greatest_nesting (types_from rest) < nesting t
  pub alignment_is : IsAlignment a
  pub near : IfSome place (λ p. p + 16 * length (spellings (types_from rest)) ≤ 16 * length (spelling t))

members_nest : (t : Ty) → greatest_nesting (members t) < nesting t
unfolding nesting greatest_nesting
members_nest (entry k t) = omega (arith, nesting-positive t)
members_nest _ = omega arith

members_text : (t : Ty) → length (spellings (members t)) ≤ length (spelling t)
unfolding spelling spellings
members_text (tuple ts) = omega (arith, length-append (spellings ts) (41 ∷ []))
members_text (entry k t) = omega (arith, length-append (spelling t) (125 ∷ []), length-append (spelling t) [])
members_text _ = omega arith

start_of_members : (t : Ty) → IsWalk t (type_list (members t)) 1 (Some 0)
start_of_members t =
    let same = types_from-listed (members t) in
    record {
      aligned = rw same (omega (arith, (greatest_alignment_is (members t)).least));
      placed = ap (λ (ts : Types). fixed_end ts 0) same;
      deeper = rw same (members_nest t);
      alignment_is = record { least = omega arith; most = omega arith };
      near = rw same (omega (arith, members_text t));
    }

pub start : (t : Ty) (rest : List Ty) → rest ≡ type_list (members t) → IsWalk t rest 1 (Some 0)
start t rest e = subst (λ (ts : List Ty). IsWalk t ts 1 (Some 0)) (sym e) (start_of_members t)

placed_next : (u : Ty) (ts : Types) (place : Option ℕ) → option_and_then (fixed_end ts) (end_of_next u place) ≡ option_and_then (fixed_end (member u ts)) place
unfolding fixed_end
placed_next u ts None = refl
placed_next u ts (Some p) = go (fixed_size u)
  where
    go : (o : Option ℕ) → option_and_then (fixed_end ts) (option_map (λ s. round_up (alignment u) p + s) o) ≡ option_and_then (λ s. fixed_end ts (round_up (alignment u) p + s)) o
    go None = refl
    go (Some s) = refl

near_next : (u : Ty) (ts : Types) (m : ℕ) (place : Option ℕ) → IfSome place (λ p. p + 16 * length (spellings (member u ts)) ≤ m)
    → IfSome (end_of_next u place) (λ p. p + 16 * length (spellings ts) ≤ m)
unfolding spellings
near_next u ts m None h = h
near_next u ts m (Some p) h = go (fixed_size u) refl
  where
    go : (o : Option ℕ) → fixed_size u ≡ o → IfSome (option_map (λ s. round_up (alignment u) p + s) o) (λ q. q + 16 * length (spellings ts) ≤ m)
    go None e = tt
    go (Some s) e = omega (arith, h, member_near u p s (size_most u) e, length-append (spelling u) (spellings ts))

max_next : (t u : Ty) (ts : Types) (a : ℕ) → max a (greatest_alignment (member u ts)) ≡ greatest_alignment (members t)
    → max (max a (alignment u)) (greatest_alignment ts) ≡ greatest_alignment (members t)
unfolding greatest_alignment
max_next t u ts a e = omega (arith, e)

-- the next member
step : (t u : Ty) (rest : List Ty) (a : ℕ) (place : Option ℕ) → IsWalk t (u ∷ rest) a place → IsWalk t rest (max a (alignment u)) (end_of_next u place)
unfolding greatest_nesting
step t u rest a place w = record {
  aligned = max_next t u (types_from rest) a w.aligned;
  placed = placed_next u (types_from rest) place ∙ w.placed;
  deeper = omega (arith, w.deeper);
  alignment_is = max_alignment a (alignment u) w.alignment_is (alignment_is u);
  near = near_next u (types_from rest) (16 * length (spelling t)) place w.near;
}

-- the same, as the code finds the next member's layout
pub turned : (t u : Ty) (rest : List Ty) (a : ℕ) (place : Option ℕ) → IsWalk t (u ∷ rest) a place
    → (b c : ℕ) (size o : Option ℕ) → b ≡ alignment u → size ≡ fixed_size u → c ≡ max a b
    → o ≡ option_and_then (λ p. option_map (λ s. round_up b p + s) size) place → IsWalk t rest c o
turned t u rest a place w b c size o e f g h =
    let aligned : c ≡ max a (alignment u) = g ∙ ap (max a) e in
    let placed : o ≡ end_of_next u place = h ∙ ap₂ (λ (y : ℕ) (z : Option ℕ). option_and_then (λ p. option_map (λ s. round_up y p + s) z) place) e f in
    subst (λ (y : ℕ). IsWalk t rest y o) (sym aligned) (subst (IsWalk t rest (max a (alignment u))) (sym placed) (step t u rest a place w))

-- where the code finds the next member's layout, no place goes past the numbers of 64 bits
pub member_fits : (t u : Ty) (rest : List Ty) (a : ℕ) (place : Option ℕ) → IsWalk t (u ∷ rest) a place → length (spelling t) ≤ 67108864
    → (b : ℕ) (size : Option ℕ) → b ≡ alignment u → size ≡ fixed_size u → IfSome place (λ p. IfSome size (λ s. p + s + b < 2 ^ 64))
unfolding spellings
member_fits t u rest a None w h b size e f = tt
member_fits t u rest a (Some p) w h b None e f = tt
member_fits t u rest a (Some p) w h b (Some s) e f =
    omega (arith, h, e, w.near, size_most u s (sym f), alignment_most u, length-append (spelling u) (spellings (types_from rest)))

pub end_fits : (t : Ty) (rest : List Ty) (a : ℕ) (place : Option ℕ) → IsWalk t rest a place → length (spelling t) ≤ 67108864
    → IfSome place (λ p. p + a < 2 ^ 64)
end_fits t rest a None w h = tt
end_fits t rest a (Some p) w h = omega (arith, h, w.near, w.alignment_is.most)

-- the walk's end
pub aligned_all : (t : Ty) (a : ℕ) (place : Option ℕ) → IsWalk t [] a place → a ≡ greatest_alignment (members t)
unfolding greatest_alignment
aligned_all t a place w = omega (arith, w.aligned, w.alignment_is.least)

pub placed_all : (t : Ty) (a : ℕ) (place : Option ℕ) → IsWalk t [] a place → place ≡ fixed_end (members t) 0
unfolding fixed_end
placed_all t a None w = w.placed
placed_all t a (Some p) w = w.placed
