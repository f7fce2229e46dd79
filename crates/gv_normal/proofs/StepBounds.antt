-- How many values a walk along a container has looked at.
use Rattle.std.proofs.Common.{ℕ, suc, ◌+◌, ◌-◌, ◌*◌, ◌≤◌, ◌≡◌, List, [], ◌∷◌, length, Option, Some, None, sym, ap, ◌∙◌, arith, length-append, mul-le-mul}
use Rattle.std.specs.Prelude.{option_map}
use Rattle.std.proofs.lemmas.Option.{none-some, same_Some}
use Rattle.gv_types.specs.TypeStr.{element_of}
use Rattle.gv_model.specs.Ty.{Ty, spelling, spellings, members, types_from}
use Rattle.gv_model.specs.Ty.Ty.{basic, variant, array, maybe, tuple, entry}
use Rattle.gv_model.specs.Laws.{most_values as bound}
use Rattle.gv_model.proofs.ValueBound.{array_step, array_total, tuple_step, tuple_total, spelled_array, spelled_maybe}
use Rattle.gv_normal.specs.InPlace.{HasMembers}

-- i elements of t bytes of type text in the first p bytes
abbrev pub in_elements : ℕ → ℕ → ℕ → ℕ
in_elements t p i = p * p + p * (2 * t + 1) + 2 * t * i

elements_grow : (t m n i : ℕ) → m ≤ n → in_elements t m i ≤ in_elements t n i
elements_grow t m n i h = let d : ℕ = n - m in let whole : n ≡ m + d = omega arith in rw whole (omega arith)

pub element_steps : (t p s e i x : ℕ) → p ≤ s → s ≤ e → x ≤ bound (e - s) t → in_elements t p i + x ≤ in_elements t e (i + 1)
element_steps t p s e i x h g k =
    let more = array_step (e - s) p t i x (in_elements t p i) k (omega arith) in
    let wide = elements_grow t ((e - s) + p) e (suc i) (omega arith) in
    let next : in_elements t e (suc i) ≡ in_elements t e (i + 1) = ap (in_elements t e) (let j : suc i ≡ i + 1 = omega arith in j) in
    omega arith

pub all_elements : (t n p i : ℕ) → p + i ≤ n → in_elements t p i + 1 ≤ bound n (suc t)
all_elements t n p i h = omega (arith, array_total n p i t (in_elements t p i) h (omega arith))

-- members of a bytes of type texts in the first p bytes
abbrev pub in_members : ℕ → ℕ → ℕ
in_members a p = p * p + p * (2 * a + 1) + 2 * a

members_grow : (a m n : ℕ) → m ≤ n → in_members a m ≤ in_members a n
members_grow a m n h = let d : ℕ = n - m in let whole : n ≡ m + d = omega arith in rw whole (omega arith)

pub member_steps : (a t p s e x : ℕ) → p ≤ s → s ≤ e → x ≤ bound (e - s) t → in_members a p + x ≤ in_members (t + a) e
member_steps a t p s e x h g k =
    let more = tuple_step (e - s) p t a x (in_members a p) k (omega arith) in
    let wide = members_grow (t + a) ((e - s) + p) e (omega arith) in
    omega arith

in_fewer : (a b p : ℕ) → a ≤ b → in_members a p ≤ in_members b p
in_fewer a b p h = let d : ℕ = b - a in let whole : b ≡ a + d = omega arith in rw whole (omega arith)

pub all_members : (a t n p : ℕ) → a + 2 ≤ t → p ≤ n → in_members a p + 1 ≤ bound n t
all_members a t n p h g =
    let more = in_fewer a (t - 2) p (omega arith) in
    let total = tuple_total n p (t - 2) (in_members (t - 2) p) g (omega arith) in
    let same : bound n (suc (suc (t - 2))) ≡ bound n t = ap (bound n) (let j : suc (suc (t - 2)) ≡ t = omega arith in j) in
    omega arith

-- the texts of the members stand in the type's text
pub members_spelled : (t : Ty) → HasMembers t → length (spellings (members t)) + 2 ≤ length (spelling t)
unfolding spelling
members_spelled (tuple ts) h = omega (arith, length-append (spellings ts) (41 ∷ []))
members_spelled (entry k t) h = omega (arith, length-append (spelling t) (125 ∷ []), length-append (spelling t) [])
members_spelled (basic k) h = absurd h
members_spelled variant h = absurd h
members_spelled (array t) h = absurd h
members_spelled (maybe t) h = absurd h

pub spelled_first : (t : Ty) (ts : List Ty) → length (spellings (types_from (t ∷ ts))) ≡ length (spelling t) + length (spellings (types_from ts))
unfolding spelling
spelled_first t ts = length-append (spelling t) (spellings (types_from ts))

pub spelled_some : (t : Ty) → 1 ≤ length (spelling t)
unfolding spelling
spelled_some (basic k) = omega arith
spelled_some variant = omega arith
spelled_some (array t) = omega arith
spelled_some (maybe t) = omega arith
spelled_some (tuple ts) = omega arith
spelled_some (entry k t) = omega arith

pub bound_more : (n s t : ℕ) → s ≤ t → bound n s ≤ bound n t
bound_more n s t h = let more : n + 2 * s ≤ n + 2 * t = omega arith in let same : n + 1 ≤ n + 1 = omega arith in mul-le-mul same more

pub some_values : (n t : ℕ) → 1 ≤ t → 2 ≤ bound n t
some_values n t h = omega (arith, bound_more n 1 t h)

pub spelled_over : {X : Type 0} (f : X → Ty) (t : Ty) (o : Option X) (x : X) → option_map f o ≡ element_of t → o ≡ Some x → length (spelling t) ≡ suc (length (spelling (f x)))
spelled_over f t None x e h = absurd (none-some x h)
spelled_over f t (Some y) x e h = over t (f x) (sym e ∙ ap (λ z. Some (f z)) (same_Some y x h))
  where
    same : (u v : Ty) → Some u ≡ Some v → suc (length (spelling u)) ≡ suc (length (spelling v))
    same u v e = ap (λ (w : Ty). suc (length (spelling w))) (same_Some u v e)

    over : (t u : Ty) → element_of t ≡ Some u → length (spelling t) ≡ suc (length (spelling u))
    over (array v) u e = spelled_array v ∙ same v u e
    over (maybe v) u e = spelled_maybe v ∙ same v u e
    over (basic k) u e = absurd (none-some u e)
    over variant u e = absurd (none-some u e)
    over (tuple ts) u e = absurd (none-some u e)
    over (entry k v) u e = absurd (none-some u e)
