-- What was written is what was to be written, and what doesn't fit is no more than the whole.
use Rattle.std.proofs.Common.{ℕ, ◌+◌, ◌<◌, ◌≤◌, ◌≡◌, List, ◌++◌, length, Result, Ok, Err, OnOk, IfErr, IsErrAnd, sym, ap, subst, arith, length-append}
use Rattle.std.proofs.lemmas.Result.{err_from_is_err_and}
use Rattle.refused.specs.declared.Refused.{Refused}
use Rattle.refused.proofs.Faults.{OfFault-weaker}
use Rattle.gv_view.specs.declared.owned.TooLarge.{TooLarge}
use Rattle.gv_build.specs.Faults.{IsOverLimit, IsUnbuildable}
use Rattle.gv_model.specs.Limits.{limit}

pub wrote_as : {A : Type 0} (r : Result A (Refused TooLarge)) (out a b : List ℕ) → a ≡ b → OnOk r (out ≡ a) → OnOk r (out ≡ b)
wrote_as r out a b same h = subst (λ (x : List ℕ). OnOk r (out ≡ x)) same h

pub wrote_same : {A : Type 0} (r : Result A (Refused TooLarge)) (out before b e : List ℕ) → b ≡ e → OnOk r (out ≡ before ++ b) → OnOk r (out ≡ before ++ e)
wrote_same r out before b e same h = wrote_as r out (before ++ b) (before ++ e) (ap (λ x. before ++ x) same) h

pub over_same : {A : Type 0} (r : Result A (Refused TooLarge)) (n : ℕ) (b e : List ℕ) → b ≡ e → IfErr r (IsOverLimit (n + length b)) → IfErr r (IsOverLimit (n + length e))
over_same r n b e same h = subst (λ (x : List ℕ). IfErr r (IsOverLimit (n + length x))) same h

reason_for : (why other : Type 0) (e : Refused TooLarge) → (why → other) → IsUnbuildable why e → IsUnbuildable other e
reason_for why other e f h = OfFault-weaker (λ _. why) (λ _. other) (λ _. f) e h

-- the fault of a part, for another reason
pub stops_for : {A : Type 0} (r : Result A (Refused TooLarge)) (e : Refused TooLarge) (why other : Type 0) → (why → other) → IsUnbuildable why e → IsErrAnd r (λ y. y ≡ e) → IfErr r (IsUnbuildable other)
stops_for r e why other f over stop =
    let p = err_from_is_err_and r stop in
    rw p.1 (subst (IsUnbuildable other) (sym p.2) (reason_for why other e f over))

over_more : (m n : ℕ) (e : Refused TooLarge) → m ≤ n → IsOverLimit m e → IsOverLimit n e
over_more m n e h over = reason_for (limit < m) (limit < n) e (λ more. omega (arith, more)) over

-- the fault of a part is one of the whole
pub stops_over : {A : Type 0} (r : Result A (Refused TooLarge)) (e : Refused TooLarge) (m n : ℕ) → m ≤ n → IsOverLimit m e → IsErrAnd r (λ y. y ≡ e) → IfErr r (IsOverLimit n)
stops_over r e m n h over stop = stops_for r e (limit < m) (limit < n) (λ more. omega (arith, more)) over stop

pub over_in_whole : {A : Type 0} (r : Result A (Refused TooLarge)) (m n : ℕ) → m ≤ n → IfErr r (IsOverLimit m) → IfErr r (IsOverLimit n)
over_in_whole (Ok x) m n h over = tt
over_in_whole (Err e) m n h over = over_more m n e h over

-- a part with what comes before it is no longer than the whole
pub part_le_whole : (out x rest before all : List ℕ) → out ++ (x ++ rest) ≡ before ++ all → length out + length x ≤ length before + length all
part_le_whole out x rest before all e = omega (arith, ap length e, length-append out (x ++ rest), length-append x rest, length-append before all)

pub lengths_of : (a b c d : List ℕ) → a ++ b ≡ c ++ d → length a + length b ≤ length c + length d
lengths_of a b c d e = omega (arith, ap length e, length-append a b, length-append c d)
