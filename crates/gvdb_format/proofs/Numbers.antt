-- Numbers that are read from a file, or written to one.
use Rattle.std.proofs.Common.{ℕ, ◌+◌, ◌++◌, ◌∙◌, ◌≤◌, ◌≡◌, List, Result, Ok, Err, length, ◌-◌, ap, drop, arith, is_ok, if◌then◌else◌}
use Rattle.std.specs.Prelude.{OnOk, slice_range}
use Rattle.std.proofs.lemmas.List.{length-take, length-drop}
use Rattle.byteorder.specs.Endian.{little_number}
use Rattle.gv_model.specs.BasicValue.{number_in}
use Rattle.gv_view.proofs.Numbers.{little_number-whole}

slice_length : (file : List ℕ) (at n : ℕ) → at + n ≤ length file → length (slice_range file at (at + n)) ≡ n
slice_length file at n h = omega (arith, length-take (at + n - at) (drop at file), length-drop at file)

pub number_there : (file : List ℕ) (at n : ℕ) → at + n ≤ length file → little_number n (slice_range file at (at + n)) ≡ number_in (slice_range file at (at + n))
number_there file at n h = little_number-whole n (slice_range file at (at + n)) (slice_length file at n h)

-- what was appended, where it was, by another name
pub appended : {T E : Type 0} (r : Result T E) (new old bytes number : List ℕ) → new ≡ (if is_ok r then old ++ bytes else old) → bytes ≡ number → OnOk r (new ≡ old ++ number)
appended (Ok x) new old bytes number items same = items ∙ ap (λ b. old ++ b) same
appended (Err e) new old bytes number items same = tt
