use Rattle.std.proofs.Common.{◌%◌, ◌/◌, w32, arith, rules, ℕ, ◌≡◌}
use Rattle.std.proofs.lemmas.Nat.Bits.{bit_at_set_same, bit_at_or, bit_at-lt, and_pow}
use Rattle.std.proofs.lemmas.Grind.{common_steps}
use Rattle.std.specs.Int.{IsBitSet, bit_at}
use Rattle.std.specs.Int.RustNames.{bit_or}
use Rattle.std.proofs.lemmas.Bool.{cases_lt}
use Rattle.std.proofs.lemmas.Nat.{pow_pos}
use Rattle.gvdb_maps.proofs.database.with_bits.Goals as goal

-- a bit is set where it is 1
bit_is_set : (n k : ℕ) → bit_at n k ≡ 1 → IsBitSet n k
bit_is_set n k one zero = grind (arith, common_steps, and_pow, pow_pos)

set_bit_is : (n k : ℕ) → IsBitSet n k → bit_at n k ≡ 1
set_bit_is n k set = search (rules, arith, cases_lt, bit_at-lt, and_pow)

-- it stays where others are set
set_in_left : (a b k : ℕ) → IsBitSet a k → IsBitSet (bit_or a b) k
set_in_left a b k set =
    let one = set_bit_is a k set in
    let both = bit_at_or a b k in
    let less = bit_at-lt b k in
    bit_is_set (bit_or a b) k (omega (arith, one, both, less))

pub returns-clause-first : goal.returns-clause-first
returns-clause-first c =
    set_in_left _ _ (c.args.hash % 32) (bit_is_set _ (c.args.hash % 32) (bit_at_set_same w32 c.args.word (c.args.hash % 32) (omega arith)))

pub returns-clause-second : goal.returns-clause-second
returns-clause-second c =
    bit_is_set _ (c.args.hash / 32 % 32) (bit_at_set_same w32 _ (c.args.hash / 32 % 32) (omega arith))

pub returns-clause-others : goal.returns-clause-others
returns-clause-others c = λ k set. set_in_left _ _ k (set_in_left c.args.word _ k set)
