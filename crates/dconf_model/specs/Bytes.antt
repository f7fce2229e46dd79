-- Numbers in the bytes of a file, and the hash of a name.
-- GVDB, file version 0 (gvdb-format.h): numbers are little-endian.
use Rattle.std.specs.Prelude.{ℕ, ◌+◌, ◌*◌, ◌-◌, ◌%◌, ◌^◌, List, fold, if◌then◌else◌, nat_lt, slice_range, slice_index, Option}
use Rattle.gv_model.specs.BasicValue.{number_in}
-- how many bytes a file has at most: its places are numbers of four bytes
pub use Rattle.gv_model.specs.Limits.{limit as longest_file}

-- what a file or a stream holds: None where there is no file, and where the stream doesn't say
abbrev pub MaybeBytes : Type 0
MaybeBytes = Option (List ℕ)

-- the numbers of four bytes, of two and of one that occur at a place
unfoldable pub u32_at : List ℕ → ℕ → ℕ
u32_at file at = number_in (slice_range file at (at + 4))

unfoldable pub u16_at : List ℕ → ℕ → ℕ
u16_at file at = number_in (slice_range file at (at + 2))

unfoldable pub u8_at : List ℕ → ℕ → ℕ
u8_at file at = slice_index file at

-- 33 times the hash so far, and the byte as a signed number, modulo 2^32
abbrev pub hash_step : ℕ → ℕ → ℕ
hash_step hash byte = (hash * 33 + (if nat_lt byte 128 then byte else byte + (2 ^ 32 - 256))) % 2 ^ 32

abbrev pub hash_of : List ℕ → ℕ
hash_of name = fold hash_step 5381 name
