-- What status 0 says.
use Rattle.std.proofs.Common.{ℕ, ◌≡◌, Bool, true, false, not, refl, arith}
use Rattle.std.specs.Prelude.{◌||◌, nat_lt, if◌then◌else◌}
use Rattle.dconf_options.specs.Statuses.{NothingIsFoundByZero}

abbrev status : Bool → ℕ
status b = if b then 1 else 0

by_zero : (b : Bool) → status b ≡ 0 → b ≡ false
by_zero true e = absurd (omega (arith, e))
by_zero false e = refl

none : (a b : Bool) → (a || b) ≡ false → a ≡ false
none true b e = absurd (let bad : true ≡ false = e in cc)
none false b e = refl

whole : (a w : Bool) → (a || not w) ≡ false → w ≡ true
whole a true e = refl
whole true false e = absurd (let bad : true ≡ false = e in cc)
whole false false e = absurd (let bad : true ≡ false = e in cc)

pub nothing_is_found_by_zero : NothingIsFoundByZero
nothing_is_found_by_zero found is_written = record {
  none = λ e. none (nat_lt 0 found) (not is_written) (by_zero (nat_lt 0 found || not is_written) e);
  whole = λ e. whole (nat_lt 0 found) is_written (by_zero (nat_lt 0 found || not is_written) e);
}
