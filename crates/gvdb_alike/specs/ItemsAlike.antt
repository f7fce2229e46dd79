-- Items that are alike but for the bytes of values. Words of private parts: nothing here is to be believed.
use Rattle.std.specs.Prelude.{◌≡◌, ◌⊎◌, ℕ, List}
use Rattle.dconf_model.specs.Searchable.{IsInBloom, IsInSpan}
use Rattle.dconf_model.specs.Table.{Table, HasBytes, bytes_of, item, list_kind, value_kind}
use Rattle.gvdb_alike.specs.NamesAlike.{AreStepsAlike}

-- they are a value's, or the same of a list
abbrev pub HasLikeBytes : ℕ → List ℕ → List ℕ → Type 0
HasLikeBytes kind bytes same = (kind ≡ value_kind) ⊎ ((kind ≡ list_kind) × (bytes ≡ same))

-- item i of both has the same hash and kind, a valid pointer, and what that kind wants
pub record HasLikeContent (t u : Table) (i : ℕ) : Type 0 where
  pub hash : (item t i).hash ≡ (item u i).hash
  pub kind : (item t i).kind ≡ (item u i).kind
  pub valid : HasBytes t i
  pub bytes : HasLikeBytes (item t i).kind (bytes_of t i) (bytes_of u i)

-- and can be found by its hash
pub record IsItemAlike (t u : Table) (i : ℕ) : Type 0 where
  pub step : AreStepsAlike t u i
  pub content : HasLikeContent t u i
  pub in_span : IsInSpan t i
  pub in_bloom : IsInBloom t i
