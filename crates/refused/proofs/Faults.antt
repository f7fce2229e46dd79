-- What follows of a fault, whether it is one or an allocation failed.
use Rattle.std.proofs.Common.{◌≡◌, refl, Result, Ok, Err, IfErr, IsErrAnd, MatchResult}
use Rattle.refused.specs.declared.Refused.{Refused}
use Rattle.refused.specs.declared.Refused.TheVariants.{Fault, Memory}
use Rattle.refused.specs.Faults.{IsCarried, OfFault, OfFaultAlone}

pub OfFault-weaker : {F : Type 0} (P Q : F → Type 0) → ((f : F) → P f → Q f) → (e : Refused F) → OfFault P e → OfFault Q e
OfFault-weaker P Q g (Fault f) h = g f h
OfFault-weaker P Q g Memory h = tt

pub only_memory : {F : Type 0} (P : F → Type 0) → ((f : F) → P f → ⊥) → (e : Refused F) → OfFault P e → e ≡ Memory
only_memory P g (Fault f) h = absurd (g f h)
only_memory P g Memory h = refl

pub never_refused : {F : Type 0} (P : F → Type 0) → ((f : F) → P f → ⊥) → (e : Refused F) → OfFaultAlone P e → ⊥
never_refused P g (Fault f) h = g f h
never_refused P g Memory h = h

pub OfFault-carried : {F G : Type 0} (gives : F → G → Type 0) (P : F → Type 0) (Q : G → Type 0) → ((f : F) (g : G) → gives f g → P f → Q g) →
    (e : Refused F) (r : Refused G) → IsCarried gives e r → OfFault P e → OfFault Q r
OfFault-carried gives P Q h (Fault f) (Fault g) is p = h f g is p
OfFault-carried gives P Q h (Fault f) Memory is p = absurd is
OfFault-carried gives P Q h Memory (Fault g) is p = absurd is
OfFault-carried gives P Q h Memory Memory is p = tt

-- and where `map_err` carries the errors of a result
pub IfErr-carried : {T F G : Type 0} (gives : F → G → Type 0) (P : F → Type 0) (Q : G → Type 0) → ((f : F) (g : G) → gives f g → P f → Q g) →
    (r : Result T (Refused F)) (s : Result T (Refused G)) → MatchResult r (λ x. s ≡ Ok x) (λ e. IsErrAnd s (IsCarried gives e)) → IfErr r (OfFault P) → IfErr s (OfFault Q)
IfErr-carried gives P Q h r (Ok y) is p = tt
IfErr-carried gives P Q h (Ok x) (Err d) is p = absurd cc
IfErr-carried gives P Q h (Err e) (Err d) is p = OfFault-carried gives P Q h e d is p
