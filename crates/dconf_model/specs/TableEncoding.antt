-- What is written of a table: its bytes, with its keys, lists and values, each where its item says.
use Rattle.std.specs.Prelude.{ℕ, ◌+◌, ◌-◌, ◌/◌, ◌%◌, ◌^◌, ◌<◌, ◌≡◌, List, length, slice_index, slice_index_or, IsBitSet, None}
use Rattle.dconf_model.specs.Bytes.{hash_of}
use Rattle.dconf_model.specs.Table.{Table, IsValidPointer, alignment_of, list_kind}
use Rattle.dconf_model.specs.Entries.{Entry, Entries, EachEntry, AreFirsts, bucket_of}
use Rattle.dconf_model.specs.TableBytes.{OccursAt, ItemRecord, table_bytes, table_size}

-- the table's head, bloom words, buckets and items occur in the file
pub record EncodesTable (t : Table) (words buckets : List ℕ) (rows : List ItemRecord) : Type 0 where
  pub bytes : OccursAt t.file t.start (table_bytes words buckets rows)
  pub end_is : t.end ≡ t.start + table_size (length words) (length buckets) (length rows)
  pub few : length words < 2 ^ 27

-- an item's numbers are those of its entry, and its key and content are where they say
pub record EncodesItem (file : List ℕ) (x : Entry) (r : ItemRecord) : Type 0 where
  pub hash : r.hash ≡ hash_of x.name
  pub parent : r.parent ≡ x.parent
  pub key : OccursAt file r.key_start x.key
  pub size : r.key_size ≡ length x.key
  pub of_kind : r.kind ≡ x.kind
  pub valid : IsValidPointer file (alignment_of x.kind) r.start r.end
  pub whole : x.kind ≡ list_kind → (r.end - r.start) % 4 ≡ 0

-- the two bits of a hash are set in the word that speaks of it
pub record HasBits (words : List ℕ) (hash : ℕ) : Type 0 where
  pub first : IsBitSet (slice_index words (hash / 32 % length words)) (hash % 32)
  pub second : IsBitSet (slice_index words (hash / 32 % length words)) (hash / 32 % 32)

abbrev pub no_row : ItemRecord
no_row = record { hash = 0; parent = None; key_start = 0; key_size = 0; kind = 0; start = 0; end = 0 }

pub record IsWritten (t : Table) (e : Entries) (words buckets : List ℕ) (rows : List ItemRecord) : Type 0 where
  pub table : EncodesTable t words buckets rows
  pub bucketed : length buckets ≡ e.count
  pub counted : length rows ≡ e.count
  pub few : e.count < 4294967295
  pub firsts : AreFirsts e.count e.count (bucket_of e) (λ g. slice_index buckets g)
  pub items : EachEntry e (λ i. EncodesItem t.file (e.entry i) (slice_index_or rows i no_row))
  pub bits : EachEntry e (λ i. HasBits words (hash_of (e.entry i).name))
