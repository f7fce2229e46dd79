-- Alignments, the next place at one, and where a child's bytes lie.
use Rattle.std.proofs.Common.{ℕ, ◌+◌, ◌-◌, ◌/◌, ◌<◌, ◌≤◌, ◌≡◌, Some, refl, arith, le-leb}
use Rattle.std.proofs.Math.Nat.{div-eq_of_lt}
use Rattle.gv_model.specs.Ty.{Ty, Basic, Types}
use Rattle.gv_model.specs.Ty.Ty.{basic, variant, array, maybe, tuple, entry}
use Rattle.gv_model.specs.Ty.Types.{end, member}
use Rattle.gv_model.specs.Ty.Basic.{boolean, byte, int16, uint16, int32, uint32, int64, uint64, handle, double}
use Rattle.gv_model.specs.Layout.{alignment, greatest_alignment, basic_size, or_one, round_up}
use Rattle.gv_model.specs.Children.{bounds}

pub basic_alignment_pos : (k : Basic) → 0 < or_one (basic_size k)
basic_alignment_pos boolean = omega arith
basic_alignment_pos byte = omega arith
basic_alignment_pos int16 = omega arith
basic_alignment_pos uint16 = omega arith
basic_alignment_pos int32 = omega arith
basic_alignment_pos uint32 = omega arith
basic_alignment_pos int64 = omega arith
basic_alignment_pos uint64 = omega arith
basic_alignment_pos handle = omega arith
basic_alignment_pos double = omega arith
basic_alignment_pos _ = omega arith

pub members_alignment_pos : (ts : Types) → 0 < greatest_alignment ts
unfolding alignment
members_alignment_pos end = omega arith
members_alignment_pos (member t ts) = omega (arith, members_alignment_pos ts)

pub alignment_pos : (t : Ty) → 0 < alignment t
unfolding alignment
alignment_pos (basic k) = basic_alignment_pos k
alignment_pos variant = omega arith
alignment_pos (array t) = alignment_pos t
alignment_pos (maybe t) = alignment_pos t
alignment_pos (tuple ts) = members_alignment_pos ts
alignment_pos (entry k t) = omega (arith, basic_alignment_pos k)

pub bounds_within : (n s e : ℕ) → s ≤ e → e ≤ n → bounds n (Some (s, e)) ≡ (s, e)
bounds_within n s e h g = let low = le-leb s e h in let high = le-leb e n g in rw (low, high) refl

pub round_up-zero : (a : ℕ) → 0 < a → round_up a 0 ≡ 0
unfolding round_up
round_up-zero a h = let less : (0 + (a - 1)) / a ≡ 0 = div-eq_of_lt (let k : 0 + (a - 1) < a = omega arith in k) in rw less (omega arith)
