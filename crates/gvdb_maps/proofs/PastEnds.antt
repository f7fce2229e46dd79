-- What is too long already is so with what is laid after it.
use Rattle.std.proofs.Common.{ℕ, ◌<◌, Result, IfErr}
use Rattle.std.proofs.lemmas.Result.{IfErr-weaker}
use Rattle.refused.specs.declared.Refused.{Refused}
use Rattle.refused.specs.declared.Refused.TheVariants.{Fault, Memory}
use Rattle.refused.proofs.Faults.{OfFault-weaker}
use Rattle.gvdb_maps.specs.declared.write_fault.TooBig.{TooBig}
use Rattle.gvdb_maps.specs.Limits.{IsPast, IsOver}
use Rattle.gv_model.specs.Limits.{limit}

over_of : (n m : ℕ) (e : Refused TooBig) → (limit < n → limit < m) → IsPast n e → IsOver m e
over_of n m (Fault f) more past = more past
over_of n m Memory more past = absurd past

pub past_is_over : {T : Type 0} (r : Result T (Refused TooBig)) (n m : ℕ) → (limit < n → limit < m) → IfErr r (IsPast n) → IfErr r (IsOver m)
past_is_over r n m more past = IfErr-weaker r (IsPast n) (IsOver m) (λ e p. over_of n m e more p) past

past_more : (n m : ℕ) (e : Refused TooBig) → (limit < n → limit < m) → IsPast n e → IsPast m e
past_more n m (Fault f) more past = more past
past_more n m Memory more past = past

pub still_past : {T : Type 0} (r : Result T (Refused TooBig)) (n m : ℕ) → (limit < n → limit < m) → IfErr r (IsPast n) → IfErr r (IsPast m)
still_past r n m more past = IfErr-weaker r (IsPast n) (IsPast m) (λ e p. past_more n m e more p) past

pub still_over : {T : Type 0} (r : Result T (Refused TooBig)) (n m : ℕ) → (limit < n → limit < m) → IfErr r (IsOver n) → IfErr r (IsOver m)
still_over r n m more over = IfErr-weaker r (IsOver n) (IsOver m) (OfFault-weaker _ _ (λ _. more)) over
