-- Whether a number occurs twice in a list.
use Rattle.std.proofs.Common.{ℕ, ◌<◌, ◌≤◌, ◌≡◌, ◌≢◌, sym, arith, inl, inr}
use Rattle.std.proofs.lemmas.Bool.{cases_order}
use Rattle.dconf_model.specs.Table.{Table}
use Rattle.dconf_model.specs.Sound.{list_length, listed}
use Rattle.gvdb_check.specs.Counted.{IsOnce}

pub all_once : (t : Table) (i n : ℕ) → list_length t i ≤ n → ((m k : ℕ) → m < n → k < m → listed t i k ≢ listed t i m) → IsOnce t i
all_once t i n all firsts k m k_inside m_inside same = elim (cases_order k m) [
  | inl e ↦ e
  | inr rest ↦ elim rest [
    | inl before ↦ absurd (firsts m k (omega (arith, all, m_inside)) before same)
    | inr after ↦ absurd (firsts k m (omega (arith, all, k_inside)) after (sym same))
  ]
]

pub first_if_once : (t : Table) (i k : ℕ) → k < list_length t i → IsOnce t i → (m : ℕ) → m < k → listed t i m ≢ listed t i k
first_if_once t i k inside once m lt same = let e : m ≡ k = once m k (omega (arith, inside, lt)) inside same in omega (arith, lt, e)
