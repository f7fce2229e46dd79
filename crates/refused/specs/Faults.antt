-- A fault, or an allocation that failed.
use Rattle.std.specs.Prelude.{ℕ, List, Option, Some, None, codes}
use Rattle.refused.specs.declared.Refused.{Refused}
use Rattle.refused.specs.declared.Refused.TheVariants.{Fault, Memory}

-- what holds of a fault; that an allocation failed says nothing
abbrev pub OfFault : {F : Type 0} → (F → Type 0) → Refused F → Type 0
OfFault P (Fault f) = P f
OfFault P Memory = Unit {0}

-- what holds of a fault; no allocation fails
abbrev pub OfFaultAlone : {F : Type 0} → (F → Type 0) → Refused F → Type 0
OfFaultAlone P (Fault f) = P f
OfFaultAlone P Memory = ⊥

-- what a fault is, if it is one
abbrev pub fault_in : {F X : Type 0} → (F → X) → Refused F → Option X
fault_in is (Fault f) = Some (is f)
fault_in is Memory = None

-- what is printed
abbrev pub refused_text : {F : Type 0} → (F → Option (List ℕ)) → Refused F → Option (List ℕ)
refused_text text (Fault f) = text f
refused_text text Memory = Some (codes "Memory")

-- one comes of another
abbrev pub IsCarried : {F G : Type 0} → (F → G → Type 0) → Refused F → Refused G → Type 0
IsCarried gives (Fault f) (Fault g) = gives f g
IsCarried gives Memory Memory = Unit {0}
IsCarried gives _ _ = ⊥
