-- What holds of a result that is an error.
use Rattle.std.proofs.Common.{Result, Ok, Err, OnErr}

pub always_err : {T E : Type 0} (r : Result T E) (Q : Type 0) → Q → OnErr r Q
always_err (Ok x) Q q = tt
always_err (Err e) Q q = q
