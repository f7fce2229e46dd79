-- A table of a file: the numbers that occur in its bytes, and where it opens.
-- GVDB, file version 0 (gvdb-format.h). A table is a head of two numbers, bloom words, buckets, and items.
use Rattle.std.specs.Prelude.{ℕ, ◌+◌, ◌*◌, ◌-◌, ◌/◌, ◌%◌, ◌^◌, ◌≤◌, ◌≡◌, List, length, Option, Some, None, if◌then◌else◌, ◌==◌, slice_range}
use Rattle.dconf_model.specs.Bytes.{u32_at, u16_at, u8_at}

-- a table lies in a file from start up to end
pub record Table : Type 0 where
  pub file : List ℕ
  pub start : ℕ
  pub end : ℕ

-- the low 27 bits of the first number, and its high 5 bits
abbrev pub bloom_words : Table → ℕ
bloom_words t = u32_at t.file t.start % 2 ^ 27

abbrev pub bloom_shift : Table → ℕ
bloom_shift t = u32_at t.file t.start / 2 ^ 27

abbrev pub bloom_word : Table → ℕ → ℕ
bloom_word t k = u32_at t.file (t.start + 8 + 4 * k)

abbrev pub bucket_count : Table → ℕ
bucket_count t = u32_at t.file (t.start + 4)

-- the number of the first item of a bucket
abbrev pub bucket : Table → ℕ → ℕ
bucket t k = u32_at t.file (t.start + 8 + 4 * bloom_words t + 4 * k)

-- the items are all the rest
abbrev pub items_start : Table → ℕ
items_start t = t.start + 8 + 4 * bloom_words t + 4 * bucket_count t

abbrev pub item_count : Table → ℕ
item_count t = (t.end - items_start t) / 24

-- what occurs in an item: its key and its content lie in the file from start up to end
pub record Item : Type 0 where
  pub hash : ℕ
  pub parent : Option ℕ
  pub key_start : ℕ
  pub key_end : ℕ
  pub kind : ℕ
  pub start : ℕ
  pub end : ℕ

-- the item whose 24 bytes start there
abbrev pub item_at : List ℕ → ℕ → Item
item_at file at = record {
  hash = u32_at file at;
  parent = if u32_at file (at + 4) == 4294967295 then None else Some (u32_at file (at + 4));
  key_start = u32_at file (at + 8);
  key_end = u32_at file (at + 8) + u16_at file (at + 12);
  kind = u8_at file (at + 14);
  start = u32_at file (at + 16);
  end = u32_at file (at + 20);
}

abbrev pub item : Table → ℕ → Item
item t i = item_at t.file (items_start t + 24 * i)

abbrev pub key : Table → ℕ → List ℕ
key t i = slice_range t.file (item t i).key_start (item t i).key_end

-- the kinds: a value (`v`), a list of items (`L`), a table (`H`)
abbrev pub value_kind : ℕ
value_kind = 118

abbrev pub list_kind : ℕ
list_kind = 76

abbrev pub table_kind : ℕ
table_kind = 72

abbrev pub alignment_of : ℕ → ℕ
alignment_of kind = if kind == value_kind then 8 else 4

pub record IsValidPointer (file : List ℕ) (align start end : ℕ) : Type 0 where
  pub ordered : start ≤ end
  pub inside : end ≤ length file
  pub aligned : start % align ≡ 0

-- the item's pointer is valid for its kind
abbrev pub HasBytes : Table → ℕ → Type 0
HasBytes t i = IsValidPointer t.file (alignment_of (item t i).kind) (item t i).start (item t i).end

abbrev pub bytes_of : Table → ℕ → List ℕ
bytes_of t i = slice_range t.file (item t i).start (item t i).end

-- a pointer to a table is valid and spans the table's two first numbers
pub record HasHead (t : Table) : Type 0 where
  pub inside : t.end ≤ length t.file
  pub aligned : t.start % 4 ≡ 0
  pub head : t.start + 8 ≤ t.end

-- the bloom words and the buckets fit, and whole items follow
pub record HasItems (t : Table) : Type 0 where
  pub fit : items_start t ≤ t.end
  pub whole : (t.end - items_start t) % 24 ≡ 0

-- a table opens there
pub record Opens (t : Table) : Type 0 where
  pub head : HasHead t
  pub items : HasItems t

-- the table to which an item points
abbrev pub table_of : Table → ℕ → Table
table_of t i = record { file = t.file; start = (item t i).start; end = (item t i).end }
