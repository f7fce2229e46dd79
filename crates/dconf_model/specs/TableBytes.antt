-- Bytes that occur somewhere in a file, and the bytes of a header and of a table.
-- GVDB, file version 0 (gvdb-format.h).
use Rattle.std.specs.Prelude.{ℕ, ◌+◌, ◌*◌, ◌^◌, ◌≡◌, List, [], ◌∷◌, ◌++◌, length, Option, Some, None, codes}
use Rattle.std.specs.List.{flat_map}
use Rattle.gv_model.specs.Encode.{number_bytes}

-- these bytes occur in the file from that place on
pub record OccursAt (file : List ℕ) (at : ℕ) (bytes : List ℕ) : Type 0 where
  pub prefix : List ℕ
  pub back : List ℕ
  pub whole : file ≡ prefix ++ (bytes ++ back)
  pub place : length prefix ≡ at

-- numbers of four bytes
abbrev pub words_bytes : List ℕ → List ℕ
words_bytes words = flat_map (number_bytes 4) words

-- what stands for a parent
abbrev pub parent_number : Option ℕ → ℕ
parent_number None = 4294967295
parent_number (Some p) = p

-- the numbers of an item
pub record ItemRecord : Type 0 where
  pub hash : ℕ
  pub parent : Option ℕ
  pub key_start : ℕ
  pub key_size : ℕ
  pub kind : ℕ
  pub start : ℕ
  pub end : ℕ

abbrev pub record_bytes : ItemRecord → List ℕ
record_bytes r =
    number_bytes 4 r.hash ++ (number_bytes 4 (parent_number r.parent) ++ (number_bytes 4 r.key_start ++ (number_bytes 2 r.key_size ++
    (r.kind ∷ 0 ∷ [] ++ (number_bytes 4 r.start ++ number_bytes 4 r.end)))))

abbrev pub records_bytes : List ItemRecord → List ℕ
records_bytes rows = flat_map record_bytes rows

-- the shift of the bloom words is 5
abbrev pub head_bytes : ℕ → ℕ → List ℕ
head_bytes words buckets = number_bytes 4 (words + 5 * 2 ^ 27) ++ number_bytes 4 buckets

-- a table of these bloom words, buckets and items
abbrev pub table_bytes : List ℕ → List ℕ → List ItemRecord → List ℕ
table_bytes words buckets rows =
    head_bytes (length words) (length buckets) ++ (words_bytes words ++ (words_bytes buckets ++ records_bytes rows))

abbrev pub table_size : ℕ → ℕ → ℕ → ℕ
table_size words buckets rows = 8 + 4 * words + 4 * buckets + 24 * rows

-- a header, where the root table starts there and ends there
abbrev pub header_bytes : ℕ → ℕ → List ℕ
header_bytes start end =
    codes "GVariant" ++ (number_bytes 4 0 ++ (number_bytes 4 0 ++ (number_bytes 4 start ++ number_bytes 4 end)))
