-- How values are aligned, and how wide they and their framing offsets are.
-- GVariant Specification, "Alignment", "Fixed Size" and "Framing Offsets".
use Rattle.std.specs.Prelude.{ℕ, ◌+◌, ◌-◌, ◌*◌, ◌/◌, max, Option, Some, None, nat_le, ◌==◌, if◌then◌else◌, option_and_then, option_map}
use Rattle.gv_model.specs.Ty.{Ty, Basic, Types}
use Rattle.gv_model.specs.Ty.Ty.{basic, variant, array, maybe, tuple, entry}
use Rattle.gv_model.specs.Ty.Types.{end, member}
use Rattle.gv_model.specs.Ty.Basic.{boolean, byte, int16, uint16, int32, uint32, int64, uint64, handle, double, string, path, signature}

-- the bytes of a basic type; a text has no fixed size
abbrev pub basic_size : Basic → Option ℕ
basic_size boolean = Some 1
basic_size byte = Some 1
basic_size int16 = Some 2
basic_size uint16 = Some 2
basic_size int32 = Some 4
basic_size uint32 = Some 4
basic_size handle = Some 4
basic_size int64 = Some 8
basic_size uint64 = Some 8
basic_size double = Some 8
basic_size string = None
basic_size path = None
basic_size signature = None

-- a number is aligned to its size, a text not at all
abbrev pub or_one : Option ℕ → ℕ
or_one None = 1
or_one (Some n) = n

-- a container is aligned as the most aligned of its parts; a variant as any value may have to be
unfoldable mutual
  pub alignment : Ty → ℕ
  alignment (basic k) = or_one (basic_size k)
  alignment variant = 8
  alignment (array t) = alignment t
  alignment (maybe t) = alignment t
  alignment (tuple ts) = greatest_alignment ts
  alignment (entry k t) = max (or_one (basic_size k)) (alignment t)

  pub greatest_alignment : Types → ℕ
  greatest_alignment end = 1
  greatest_alignment (member t ts) = max (alignment t) (greatest_alignment ts)

-- the first multiple of a from p on
unfoldable pub round_up : ℕ → ℕ → ℕ
round_up a p = (p + (a - 1)) / a * a

-- the size of members that end there, padded at the end; a tuple of none takes one byte
abbrev pub padded : ℕ → Option ℕ → Option ℕ
padded a place = option_map (λ p. max 1 (round_up a p)) place

-- a tuple or an entry has a fixed size if all of its members have one
unfoldable mutual
  pub fixed_size : Ty → Option ℕ
  fixed_size (basic k) = basic_size k
  fixed_size variant = None
  fixed_size (array t) = None
  fixed_size (maybe t) = None
  fixed_size (tuple ts) = padded (greatest_alignment ts) (fixed_end ts 0)
  fixed_size (entry k t) = padded (max (or_one (basic_size k)) (alignment t))
      (option_and_then (λ p. option_map (λ s. round_up (alignment t) p + s) (fixed_size t)) (basic_size k))

  -- where members that begin at p end, if all are of fixed size
  pub fixed_end : Types → ℕ → Option ℕ
  fixed_end end p = Some p
  fixed_end (member t ts) p = option_and_then (λ s. fixed_end ts (round_up (alignment t) p + s)) (fixed_size t)

-- the width of the framing offsets of a container of n bytes
unfoldable pub offset_width : ℕ → ℕ
offset_width n =
    if n == 0 then 0 else if nat_le n 255 then 1 else if nat_le n 65535 then 2
    else if nat_le n 4294967295 then 4 else 8
