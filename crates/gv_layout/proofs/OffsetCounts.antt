-- How many framing offsets members have.
use Rattle.std.proofs.Common.{◌≡◌, ℕ, suc, ◌+◌, ◌≤◌, Bool, true, false, cond, not, is_none, is_some, Option, Some, None, length, List, ◌∷◌, refl, sym, ap, ◌∙◌, arith}
use Rattle.std.specs.Prelude.{IsTrue}
use Rattle.gv_model.specs.Ty.{Ty, Types, type_list, types_from, members}
use Rattle.gv_model.specs.Ty.Types.{end, member}
use Rattle.gv_model.specs.Layout.{fixed_size}
use Rattle.gv_model.specs.Tuples.{offset_count, next_offset}
use Rattle.gv_model.specs.TypeText.{is_type, type_at}
use Rattle.gv_model.proofs.TypeTextParts.{spelling-type_at}
use Rattle.gv_model.proofs.TypeTextLaws.{limits_of}
use Rattle.gv_model.proofs.ListLaws.{types_from-listed}
use Rattle.gv_layout.proofs.Counts.{members_short_of}

-- the offsets of these and of the member before, which has one if it is of no fixed size and isn't the last
abbrev pub count_after : Bool → Types → ℕ
count_after is_open end = 0
count_after is_open (member t ts) = cond is_open 1 0 + offset_count (member t ts)

count_first : (t : Ty) (ts : Types) → offset_count (member t ts) ≡ count_after (is_none (fixed_size t)) ts
unfolding offset_count
count_first t end = refl
count_first t (member u ts) = go (fixed_size t)
  where
    go : (o : Option ℕ) → next_offset (offset_count (member u ts)) o ≡ cond (is_none o) 1 0 + offset_count (member u ts)
    go (Some n) = omega arith
    go None = omega arith

count_next : (is_open : Bool) (t : Ty) (ts : Types) → count_after is_open (member t ts) ≡ cond is_open 1 0 + count_after (is_none (fixed_size t)) ts
count_next is_open t ts = ap (λ n. cond is_open 1 0 + n) (count_first t ts)

count_all : (ts : Types) → 0 + count_after false ts ≡ offset_count ts
unfolding offset_count
count_all (member t (member u ts)) = let same : 0 + (0 + offset_count (member t (member u ts))) ≡ offset_count (member t (member u ts)) = omega arith in same
count_all _ = omega arith

-- ---- the walk that counts them

pub count_start : (t : Ty) (xs : List Ty) → xs ≡ type_list (members t) → 0 + count_after false (types_from xs) ≡ offset_count (members t)
count_start t xs e = ap (λ ts. 0 + count_after false ts) (ap types_from e ∙ types_from-listed (members t)) ∙ count_all (members t)

opened : (count : ℕ) (is_open : Bool) (u : Ty) (xs ys : List Ty) (total : ℕ) → ys ≡ u ∷ xs → count + count_after is_open (types_from ys) ≡ total
    → count + count_after is_open (member u (types_from xs)) ≡ total
opened count is_open u xs ys total e h = ap (λ zs. count + count_after is_open (types_from zs)) (sym e) ∙ h

pub count_room : (count : ℕ) (is_open : Bool) (u : Ty) (xs ys : List Ty) (total : ℕ) → ys ≡ u ∷ xs → is_open ≡ true → count + count_after is_open (types_from ys) ≡ total
    → count + 1 ≤ total
count_room count false u xs ys total e so h = absurd cc
count_room count true u xs ys total e so h =
    let whole : count + (1 + offset_count (member u (types_from xs))) ≡ total = opened count true u xs ys total e h in omega arith

add : (next count d a b total : ℕ) → next ≡ count + d → b ≡ a → count + (d + a) ≡ total → next + b ≡ total
add next count d a b total h g k = omega arith

flip : (o : Option ℕ) (r : Bool) → is_some o ≡ not r → r ≡ is_none o
flip None true e = refl
flip None false e = absurd cc
flip (Some n) true e = absurd cc
flip (Some n) false e = refl

pub counted_open : (count next : ℕ) (is_open : Bool) → is_open ≡ true → next ≡ count + 1 → next ≡ count + cond is_open 1 0
counted_open count next true e h = h
counted_open count next false e h = absurd cc

pub counted_shut : (count next : ℕ) (is_open : Bool) → is_open ≡ false → next ≡ count → next ≡ count + cond is_open 1 0
counted_shut count next true e h = absurd cc
counted_shut count next false e h = let same : count ≡ count + 0 = omega arith in h ∙ same

pub count_step : (count next : ℕ) (is_open after : Bool) (u : Ty) (xs ys : List Ty) (size : Option ℕ) (total : ℕ) → ys ≡ u ∷ xs
    → next ≡ count + cond is_open 1 0 → is_some size ≡ not after → size ≡ fixed_size u
    → count + count_after is_open (types_from ys) ≡ total → next + count_after after (types_from xs) ≡ total
count_step count next is_open after u xs ys size total e is_next is_after is_size h =
    let whole = opened count is_open u xs ys total e h in
    let first : count_after is_open (member u (types_from xs)) ≡ cond is_open 1 0 + count_after (is_none (fixed_size u)) (types_from xs) = count_next is_open u (types_from xs) in
    let same : after ≡ is_none (fixed_size u) = flip size after is_after ∙ ap is_none is_size in
    add next count (cond is_open 1 0) (count_after (is_none (fixed_size u)) (types_from xs)) (count_after after (types_from xs)) total is_next
    (ap (λ o. count_after o (types_from xs)) same) (ap (λ n. count + n) (sym first) ∙ whole)

pub count_most : (count rest total : ℕ) → count + rest ≡ total → count ≤ total
count_most count rest total h = omega arith

count_few : (ts : Types) → offset_count ts ≤ length (type_list ts)
unfolding offset_count type_list
count_few end = omega arith
count_few (member t end) = omega arith
count_few (member t (member u ts)) = go (fixed_size t) (count_few (member u ts))
  where
    go : (o : Option ℕ) → offset_count (member u ts) ≤ length (type_list (member u ts)) → next_offset (offset_count (member u ts)) o ≤ suc (length (type_list (member u ts)))
    go (Some n) h = omega arith
    go None h = omega arith

pub offsets_few : (w : List ℕ) → IsTrue (is_type w) → offset_count (members (type_at w)) ≤ 67108864
offsets_few w h =
    let spelled = spelling-type_at w h in
    let short : length w ≤ 67108864 = (limits_of (type_at w) w spelled.1).1 in
    omega (arith, count_few (members (type_at w)), members_short_of (type_at w), ap length spelled.0)
