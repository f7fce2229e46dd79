-- The rules of a sound table by which each item can be found (this project's rules S1 to S8).
use Rattle.std.specs.Prelude.{ℕ, ◌+◌, ◌%◌, ◌≤◌, ◌<◌, ◌≡◌, ◌⊎◌, List, [], ◌∷◌, length, Some, None, Contains, IfSome, IsUtf8}
use Rattle.dconf_model.specs.Bytes.{hash_of}
use Rattle.dconf_model.specs.Table.{Table, item, item_count, key, bucket, bucket_count, HasBytes, value_kind, list_kind, table_kind, bytes_of}
use Rattle.dconf_model.specs.Names.{HasName}
use Rattle.dconf_model.specs.Search.{InSpan, PassesBloom}

-- each item has P
abbrev pub EachItem : Table → (ℕ → Type 0) → Type 0
EachItem t P = (i : ℕ) → i < item_count t → P i

-- where there are items there are buckets; the first begins at 0, they don't fall, and none is past the items
pub record HasBuckets (t : Table) : Type 0 where
  pub some : 0 < item_count t → 0 < bucket_count t
  pub from_zero : 0 < bucket_count t → bucket t 0 ≡ 0
  pub rising : (b : ℕ) → b + 1 < bucket_count t → bucket t b ≤ bucket t (b + 1)
  pub counted : (b : ℕ) → b < bucket_count t → bucket t b ≤ item_count t

-- the key's bytes lie in the file and are UTF-8 without NUL; the parent is an item
pub record HasGoodKey (t : Table) (i : ℕ) : Type 0 where
  pub inside : (item t i).key_end ≤ length t.file
  pub utf8 : IsUtf8 (key t i)
  pub no_nul : ¬ Contains (key t i) 0
  pub parent : IfSome (item t i).parent (λ p. p < item_count t)

-- these are the item's parents, up to one without parent
abbrev pub LeadsUp : Table → ℕ → List ℕ → Type 0
LeadsUp t i [] = (item t i).parent ≡ None
LeadsUp t i (p ∷ ps) = ((item t i).parent ≡ Some p) × LeadsUp t p ps

-- The parents end, and the key is not empty. An empty key further up is the fault of the item that has it.
pub record HasEnd (t : Table) (i : ℕ) : Type 0 where
  pub parents : List ℕ
  pub ends : LeadsUp t i parents
  pub key : 0 < length (key t i)

-- the stored hash is that of the full name
abbrev pub HasHash : Table → ℕ → Type 0
HasHash t i = (name : List ℕ) → HasName t i name → (item t i).hash ≡ hash_of name

-- the item lies in the span of its hash, and the bloom words let its hash pass
abbrev pub IsInSpan : Table → ℕ → Type 0
IsInSpan t i = InSpan t (item t i).hash i

abbrev pub IsInBloom : Table → ℕ → Type 0
IsInBloom t i = PassesBloom t (item t i).hash

-- no lower item has the same full name
abbrev pub IsOnlyNamed : Table → ℕ → Type 0
IsOnlyNamed t i = (name : List ℕ) (j : ℕ) → HasName t i name → HasName t j name → ¬ (j < i)

abbrev pub IsKind : ℕ → Type 0
IsKind kind = (kind ≡ value_kind) ⊎ ((kind ≡ list_kind) ⊎ (kind ≡ table_kind))

-- the kind is one of the three, the pointer is valid for it, and a list has whole numbers
pub record HasContent (t : Table) (i : ℕ) : Type 0 where
  pub kind : IsKind (item t i).kind
  pub valid : HasBytes t i
  pub whole : (item t i).kind ≡ list_kind → length (bytes_of t i) % 4 ≡ 0

-- each item keeps each rule
pub record IsSearchable (t : Table) : Type 0 where
  pub buckets : HasBuckets t
  pub good_key : EachItem t (HasGoodKey t)
  pub chain : EachItem t (HasEnd t)
  pub hash : EachItem t (HasHash t)
  pub in_span : EachItem t (IsInSpan t)
  pub in_bloom : EachItem t (IsInBloom t)
  pub once : EachItem t (IsOnlyNamed t)
  pub content : EachItem t (HasContent t)
