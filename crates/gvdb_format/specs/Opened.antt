-- The numbers of a table that opens.
use Rattle.std.specs.Prelude.{ℕ, ◌≡◌, ◌<◌}
use Rattle.dconf_model.specs.Table.{Table, Opens, bloom_words, bloom_shift, bucket_count, items_start, item_count}

-- the table opens, and has these numbers
pub record IsOpened (t : Table) (words shift buckets start items : ℕ) : Type 0 where
  pub opens : Opens t
  pub words_are : words ≡ bloom_words t
  pub shift_is : shift ≡ bloom_shift t
  pub shift_small : shift < 32
  pub buckets_are : buckets ≡ bucket_count t
  pub start_is : start ≡ items_start t
  pub items_are : items ≡ item_count t
