-- What of a table has the same bytes in another file. Words of private parts: nothing here is to be believed.
use Rattle.std.specs.Prelude.{◌≡◌, ◌<◌, ◌≤◌, ◌⊎◌, ℕ, length}
use Rattle.dconf_model.specs.Searchable.{HasBuckets}
use Rattle.dconf_model.specs.Table.{Table, bloom_shift, bloom_word, bloom_words, bucket, bucket_count, bytes_of, item, item_count}
use Rattle.gvdb_format.specs.declared.record.ItemRecord.{ItemRecord}
use Rattle.gvdb_format.specs.Tables.{item_of}
use Rattle.gvdb_alike.specs.ItemsAlike.{HasLikeBytes, IsItemAlike}
use Rattle.gvdb_alike.specs.NamesAlike.{AreStepsAlike}
use Rattle.gvdb_alike.specs.Spans.{AreSameOutside}

-- they lie at the same place, in files of one length
pub record HaveOnePlace (t u : Table) : Type 0 where
  pub start : t.start ≡ u.start
  pub end : t.end ≡ u.end
  pub len : length t.file ≡ length u.file

-- as many items, with the same bloom words and buckets, in files of one length
pub record HasSameHead (t u : Table) : Type 0 where
  pub len : length t.file ≡ length u.file
  pub counted : item_count t ≡ item_count u
  pub shift : bloom_shift t ≡ bloom_shift u
  pub words : bloom_words t ≡ bloom_words u
  pub word : (k : ℕ) → k < bloom_words t → bloom_word t k ≡ bloom_word u k
  pub buckets : bucket_count t ≡ bucket_count u
  pub bucket : (k : ℕ) → k < bucket_count t → bucket t k ≡ bucket u k

-- item i has the same record, and the files differ from the first position up to the last at most
pub record HasSameRecord (t u : Table) (first last i : ℕ) : Type 0 where
  pub head : HasSameHead t u
  pub files : AreSameOutside t.file u.file first last
  pub numbers : item t i ≡ item u i

-- those before the first item, and from the end on
abbrev pub HaveSameRecords : Table → Table → ℕ → ℕ → ℕ → ℕ → Type 0
HaveSameRecords t u first last first_item end_item =
    (i : ℕ) → i < item_count t → (i < first_item) ⊎ (end_item ≤ i) → HasSameRecord t u first last i

-- and these are its numbers
pub record IsSameRecord (t u : Table) (first last i : ℕ) (r : ItemRecord) : Type 0 where
  pub same : HasSameRecord t u first last i
  pub stored : item_of r ≡ item t i

-- item i has the same record, and is a value, or a list of the same bytes
pub record HasSameList (t u : Table) (i : ℕ) : Type 0 where
  pub head : HasSameHead t u
  pub numbers : item t i ≡ item u i
  pub bytes : HasLikeBytes (item t i).kind (bytes_of t i) (bytes_of u i)

-- and the same key
pub record HasSameShape (t u : Table) (i : ℕ) : Type 0 where
  pub step : AreStepsAlike t u i
  pub list : HasSameList t u i

-- by its bytes, or by its parts
abbrev pub IsShapeKept : Table → Table → ℕ → Type 0
IsShapeKept t u i = HasSameShape t u i ⊎ IsItemAlike t u i

abbrev pub AreBucketsKept : Table → Table → Type 0
AreBucketsKept t u = HasSameHead t u ⊎ HasBuckets t
