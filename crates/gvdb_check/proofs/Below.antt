-- What a walk along the numbers has seen.
use Rattle.std.proofs.Common.{ℕ, ◌+◌, ◌<◌, sym, subst, arith, inl, inr}
use Rattle.std.proofs.lemmas.Bool.{cases_order}

-- one more
pub below_next : (P : ℕ → Type 0) (n : ℕ) → ((j : ℕ) → j < n → P j) → P n → (j : ℕ) → j < n + 1 → P j
below_next P n before here j lt = elim (cases_order j n) [
  | inl e ↦ subst P (sym e) here
  | inr rest ↦ elim rest [
    | inl lower ↦ before j lower
    | inr higher ↦ absurd (omega (arith, lt, higher))
  ]
]
