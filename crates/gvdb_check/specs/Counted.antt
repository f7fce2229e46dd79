-- Lists that hold children of their items once each, and how many items are found by them.
use Rattle.std.specs.Prelude.{ℕ, ◌+◌, ◌%◌, ◌<◌, ◌≡◌, ◌≢◌, Bool, true, false, ◌==◌, Option, Some, None, codes}
use Rattle.dconf_model.specs.Table.{Table, item, list_kind}
use Rattle.dconf_model.specs.Names.{HasName}
use Rattle.dconf_model.specs.Sound.{IsChild, list_length, listed}

-- no number occurs twice
abbrev pub IsOnce : Table → ℕ → Type 0
IsOnce t i = (k m : ℕ) → k < list_length t i → m < list_length t i → listed t i k ≡ listed t i m → k ≡ m

-- the number at place m is none of those before it, if it is of this part
abbrev pub IsNewInPart : Table → ℕ → ℕ → ℕ → ℕ → Type 0
IsNewInPart t i part parts m = listed t i m % parts ≡ part → (k : ℕ) → k < m → listed t i k ≢ listed t i m

-- no number of this part occurs twice
abbrev pub IsOnceInPart : Table → ℕ → ℕ → ℕ → Type 0
IsOnceInPart t i part parts = (m : ℕ) → m < list_length t i → IsNewInPart t i part parts m

-- the list holds children of its item, once each; it is empty only at `/`
pub record ListsOnce (t : Table) (i : ℕ) : Type 0 where
  pub children_alone : (k : ℕ) → k < list_length t i → IsChild t i (listed t i k)
  pub once : IsOnce t i
  pub empty_at_root : list_length t i ≡ 0 → HasName t i (codes "/")

abbrev pub HasListOnceIfAny : Table → ℕ → Type 0
HasListOnceIfAny t i = (item t i).kind ≡ list_kind → ListsOnce t i

-- how many items are in its list, if it is one
abbrev pub listed_count : Bool → Table → ℕ → ℕ
listed_count true t i = list_length t i
listed_count false t i = 0

-- one where there is no parent
abbrev pub top_count : Option ℕ → ℕ
top_count None = 1
top_count (Some p) = 0

-- how many items are found by item i: those in its list, and itself where it has no parent
abbrev pub found_count : Table → ℕ → ℕ
found_count t i = listed_count ((item t i).kind == list_kind) t i + top_count (item t i).parent
