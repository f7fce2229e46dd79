-- What a search for a name and kind finds.
-- GVDB, file version 0 (gvdb-format.h), and gvdb-reader: the bloom words may rule a name out; the hash names a bucket; the
-- bucket's items are looked at in their order.
use Rattle.std.specs.Prelude.{ℕ, ◌+◌, ◌/◌, ◌%◌, ◌^◌, ◌-◌, ◌≤◌, ◌<◌, ◌≡◌, ◌⊎◌, List, Option, Some, None, IsBitSet, if◌then◌else◌, nat_lt, nat_le, ◌==◌, ◌&&◌}
use Rattle.dconf_model.specs.Bytes.{hash_of}
use Rattle.dconf_model.specs.Table.{Table, item, item_count, bloom_words, bloom_word, bloom_shift, bucket, bucket_count, HasBytes}
use Rattle.dconf_model.specs.Names.{HasName}

-- the bloom word that speaks of a hash
abbrev pub bloom_word_of : Table → ℕ → ℕ
bloom_word_of t hash = bloom_word t (hash / 32 % bloom_words t)

-- the bloom words don't rule this hash out: there are none, or two bits are set
abbrev pub PassesBloom : Table → ℕ → Type 0
PassesBloom t hash = (bloom_words t ≡ 0) ⊎ (
    IsBitSet (bloom_word_of t hash) (hash % 32)
    × IsBitSet (bloom_word_of t hash) (hash / 2 ^ bloom_shift t % 32))

-- the span of a hash starts at its bucket's first item
abbrev pub span_start : Table → ℕ → ℕ
span_start t hash = if bucket_count t == 0 then 0 else bucket t (hash % bucket_count t)

-- It ends at the next bucket's first item; after the last item where there is no next bucket, or where its number is
-- past the item count.
abbrev pub span_end : Table → ℕ → ℕ
span_end t hash =
    if bucket_count t == 0 then 0 else
    if nat_lt (hash % bucket_count t + 1) (bucket_count t) && nat_le (bucket t (hash % bucket_count t + 1)) (item_count t)
    then bucket t (hash % bucket_count t + 1)
    else item_count t

-- how many items are in it; none where it starts after its end
abbrev pub span_size : Table → ℕ → ℕ
span_size t hash = span_end t hash - span_start t hash

-- the items among which a search for a name of this hash looks
pub record InSpan (t : Table) (hash : ℕ) (i : ℕ) : Type 0 where
  pub first : span_start t hash ≤ i
  pub before : i < span_end t hash

-- the item has this hash, full name and kind
pub record IsWanted (t : Table) (hash : ℕ) (name : List ℕ) (kind : ℕ) (i : ℕ) : Type 0 where
  pub hash_is : (item t i).hash ≡ hash
  pub named : HasName t i name
  pub of_kind : (item t i).kind ≡ kind

-- a search comes upon the item
pub record Fits (t : Table) (name : List ℕ) (kind : ℕ) (i : ℕ) : Type 0 where
  pub passes : PassesBloom t (hash_of name)
  pub in_span : InSpan t (hash_of name) i
  pub wanted : IsWanted t (hash_of name) name kind i

-- the least fitting item
pub record IsLeast (t : Table) (name : List ℕ) (kind : ℕ) (i : ℕ) : Type 0 where
  pub fits : Fits t name kind i
  pub least : (j : ℕ) → Fits t name kind j → i ≤ j

-- What a search finds: the least fitting item; nothing where none fits, or where that one's pointer isn't valid.
abbrev pub Finds : Table → List ℕ → ℕ → Option ℕ → Type 0
Finds t name kind (Some i) = IsLeast t name kind i × HasBytes t i
Finds t name kind None = (i : ℕ) → IsLeast t name kind i → ¬ HasBytes t i
