-- Values that are laid one after another, each at a multiple of 8.
use Rattle.std.proofs.lemmas.Grind.{common_steps}
use Rattle.std.proofs.Common.{ℕ, ◌≡◌, ◌<◌, ◌≤◌, ◌+◌, List, [], ◌∷◌, ◌++◌, length, get_or, take, ap, ◌∙◌, arith}
use Rattle.std.proofs.lemmas.List.{take_all}
use Rattle.std.proofs.lemmas.List.Sums.{fold_more}
use Rattle.gv_model.specs.Layout.{round_up}
use Rattle.gv_model.specs.Limits.{limit}
use Rattle.dconf_model.specs.Plans.{values_end}
use Rattle.gvdb_maps.specs.declared.layout.Pointer.{Pointer}
use Rattle.refused.specs.declared.Refused.{Refused}
use Rattle.refused.specs.declared.Refused.TheVariants.{Fault, Memory}
use Rattle.gvdb_maps.specs.declared.write_fault.TooBig.{TooBig}
use Rattle.gvdb_maps.specs.Limits.{IsPast, IsOver}
use Rattle.gvdb_maps.specs.LayoutParts.{value_start, pointer_at, IsShort, ArePointers}
use Rattle.gvdb_values.proofs.WithValues.{prefix_ends_below}

-- so many values are laid, and end there
pub record AreLaid (start : ℕ) (values : List (List ℕ)) (n at : ℕ) (pointers : List Pointer) : Type 0 where
  pub here : at ≡ values_end start (take n values)
  pub counted : length pointers ≡ n
  pub starts : (k : ℕ) → k < n → (pointer_at pointers k).start ≡ value_start start values k
  pub ends : (k : ℕ) → k < n → (pointer_at pointers k).end ≡ value_start start values k + length (get_or values k [])

-- where one more value ends
pub next_end : (start : ℕ) (values : List (List ℕ)) (n : ℕ) → n < length values → values_end start (take (n + 1) values) ≡ value_start start values n + length (get_or values n [])
next_end start values n l = fold_more (λ (m : ℕ) (value : List ℕ). round_up 8 m + length value) start values n [] l

pub none_laid : (start : ℕ) (values : List (List ℕ)) (pointers : List Pointer) → pointers ≡ [] → AreLaid start values 0 start pointers
none_laid start values pointers none = grind (arith, common_steps)

pub one_laid : (start : ℕ) (values : List (List ℕ)) (n at next : ℕ) (pointers after : List Pointer) (pointer : Pointer) → AreLaid start values n at pointers
    → n < length values → pointer.start ≡ round_up 8 at → pointer.end ≡ round_up 8 at + length (get_or values n []) → next ≡ pointer.end
    → after ≡ pointers ++ pointer ∷ [] → AreLaid start values (n + 1) next after
one_laid start values n at next pointers after pointer so l from to end is = grind (arith, common_steps)

-- after the last value
pub all_laid : (start : ℕ) (values : List (List ℕ)) (n at : ℕ) (pointers : List Pointer) → AreLaid start values n at pointers → n ≡ length values → ArePointers start values pointers
all_laid start values n at pointers so is = grind (arith, common_steps)

pub whole_end : (start : ℕ) (values : List (List ℕ)) (n at : ℕ) (pointers : List Pointer) → AreLaid start values n at pointers → length values ≤ n → at ≡ values_end start values
whole_end start values n at pointers so le = so.here ∙ ap (values_end start) (take_all n values le)

-- where a value starts and ends is not past the end of all
pub ends_below : (start : ℕ) (values : List (List ℕ)) (n : ℕ) → n < length values → value_start start values n + length (get_or values n []) ≤ values_end start values
ends_below start values n l = grind (arith, common_steps, prefix_ends_below, next_end)

pub past_is_over : (n m : ℕ) (e : Refused TooBig) → n ≤ m → IsPast n e → IsOver m e
past_is_over n m (Fault f) le past = omega (arith, le, past)
past_is_over n m Memory le past = absurd past

-- too much at one value is too much for all
pub past_at_align : (start : ℕ) (values : List (List ℕ)) (n at : ℕ) (pointers : List Pointer) → AreLaid start values n at pointers → n < length values → (e : Refused TooBig) → IsPast (round_up 8 at) e → IsOver (values_end start values) e
past_at_align start values n at pointers so l e past =
    let begins : round_up 8 at ≡ value_start start values n = ap (round_up 8) so.here in
    let le = ends_below start values n l in
    past_is_over (round_up 8 at) (values_end start values) e (omega (arith, begins, le)) past

pub past_at_lay : (start : ℕ) (values : List (List ℕ)) (n at aligned size : ℕ) (pointers : List Pointer) → AreLaid start values n at pointers → n < length values
    → aligned ≡ round_up 8 at → size ≡ length (get_or values n []) → (e : Refused TooBig) → IsPast (aligned + size) e → IsOver (values_end start values) e
past_at_lay start values n at aligned size pointers so l is many e past =
    let begins : aligned ≡ value_start start values n = is ∙ ap (round_up 8) so.here in
    let le = ends_below start values n l in
    past_is_over (aligned + size) (values_end start values) e (omega (arith, begins, many, le)) past

-- ---- the pointers of all

-- they fit in four bytes where the end does
pub pointers_short : (at : ℕ) (values : List (List ℕ)) (pointers : List Pointer) → ArePointers at values pointers → values_end at values ≤ limit → (k : ℕ) → k < length pointers → IsShort (pointer_at pointers k)
pointers_short at values pointers are le k l =
    let n = are.counted in
    let here : k < length values = omega (arith, l, n) in
    let start = are.starts k here in
    let end = are.ends k here in
    let below = ends_below at values k here in
    record { start = omega (arith, start, below, le); end = omega (arith, end, below, le) }
