-- A type without the maybes around it, and what an entry's type is made of.
use Rattle.std.specs.Prelude.{◌≡◌, Option, Some, None}
use Rattle.gv_model.specs.Ty.{Ty}
use Rattle.gv_model.specs.Ty.Ty.{basic, maybe, entry}
use Rattle.gv_types.specs.TypeStr.{ty}
use Rattle.gv_types.specs.declared.type_str.TypeStr.{TypeStr}

abbrev pub bare_type : Ty → Ty
bare_type (maybe t) = bare_type t
bare_type t = t

-- the types of an entry's key and value, or None where the type is no entry
abbrev pub AreEntryTypes : Ty → Option (TypeStr × TypeStr) → Type 0
AreEntryTypes (entry k t) (Some types) = (ty types.0 ≡ basic k) × (ty types.1 ≡ t)
AreEntryTypes (entry k t) None = ⊥
AreEntryTypes _ (Some types) = ⊥
AreEntryTypes _ None = Unit {0}
