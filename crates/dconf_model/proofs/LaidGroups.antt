-- Members in the order of their groups, and the first member of each group.
use Rattle.std.proofs.Common.{◌≡◌, ◌<◌, ◌≤◌, ◌+◌, ℕ, arith, ⊎_elim}
use Rattle.std.proofs.lemmas.Bool.{cases_lt}
use Rattle.dconf_model.specs.Entries.{AreFirsts}

-- no member comes before the first of the first group
pub first_is_zero : (count groups : ℕ) (group first : ℕ → ℕ) → AreFirsts count groups group first → 0 < groups → first 0 ≡ 0
first_is_zero count groups group first f some =
    ⊎_elim (λ (l : 0 < first 0). let w = f.within 0 some in let below = (f.lesser 0 0 some (omega (arith, l, w))).0 l in absurd (omega (arith, below)))
    (λ (g : first 0 ≤ 0). let e : first 0 ≡ 0 = omega (arith, g) in e) (cases_lt 0 (first 0))

-- a later group's first member is no earlier
pub firsts_rise : (count groups : ℕ) (group first : ℕ → ℕ) → AreFirsts count groups group first → (g : ℕ) → g + 1 < groups → first g ≤ first (g + 1)
firsts_rise count groups group first f g more =
    ⊎_elim
    (λ (l : first (g + 1) < first g).
    let w = f.within g (omega (arith, more)) in
    let here : first (g + 1) < count = omega (arith, l, w) in
    let below = (f.lesser g (first (g + 1)) (omega (arith, more)) here).0 l in
    let still = (f.lesser (g + 1) (first (g + 1)) more here).1 (omega (arith, below)) in
    absurd (omega (arith, still)))
    (λ (le : first g ≤ first (g + 1)). le) (cases_lt (first (g + 1)) (first g))

-- a member occurs at the first of its group or after it
pub not_before_first : (count groups : ℕ) (group first : ℕ → ℕ) → AreFirsts count groups group first → (i : ℕ) → i < count → group i < groups → first (group i) ≤ i
not_before_first count groups group first f i here some =
    ⊎_elim (λ (l : i < first (group i)). let below = (f.lesser (group i) i some here).0 l in absurd (omega (arith, below)))
    (λ (le : first (group i) ≤ i). le) (cases_lt i (first (group i)))

-- and before the first of the next
pub before_next : (count groups : ℕ) (group first : ℕ → ℕ) → AreFirsts count groups group first → (i : ℕ) → i < count → group i + 1 < groups → i < first (group i + 1)
before_next count groups group first f i here some = (f.lesser (group i + 1) i some here).1 (omega arith)

-- what occurs from the first of a group up to that of the next is in the group
pub group_is : (count groups : ℕ) (group first : ℕ → ℕ) → AreFirsts count groups group first → (g i : ℕ) → g + 1 < groups → first g ≤ i → i < first (g + 1) → (i < count) × (group i ≡ g)
group_is count groups group first f g i some from to =
    let w = f.within (g + 1) some in
    let here : i < count = omega (arith, to, w) in
    let below = (f.lesser (g + 1) i some here).0 to in
    let same : group i ≡ g =
    ⊎_elim (λ (l : group i < g). let early = (f.lesser g i (omega (arith, some)) here).1 l in absurd (omega (arith, early, from)))
    (λ (le : g ≤ group i). let e : group i ≡ g = omega (arith, le, below) in e) (cases_lt (group i) g) in
    (here, same)
