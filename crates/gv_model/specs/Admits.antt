-- Which types a syntax tree admits.
-- GLib, "GVariant Text Format", Type Annotations and Type Inference.
use Rattle.std.specs.Prelude.{◌≡◌}
use Rattle.gv_model.specs.Ty.{Ty, Types}
use Rattle.gv_model.specs.Ty.Ty.{basic, variant, array, maybe, tuple, entry}
use Rattle.gv_model.specs.Ty.Types.{end, member}
use Rattle.gv_model.specs.Ty.Basic.{boolean, byte, string, path, signature}
use Rattle.gv_model.specs.Syntax.{Syntax, Syntaxes, Pairs}
use Rattle.gv_model.specs.Syntax.Syntax.{truth, integer, quoted, bytes, list, tuple_of, dictionary, lone, boxed, just, nothing, at_type, keyword}
use Rattle.gv_model.specs.Syntax.Syntaxes.{none, first}
use Rattle.gv_model.specs.Syntax.Pairs.{no_pair, pair}

-- at such a type, or at maybes of it
abbrev pub AlsoMaybe : (Ty → Type 0) → Ty → Type 0
AlsoMaybe P (maybe t) = AlsoMaybe P t
AlsoMaybe P t = P t

abbrev pub IsNumberType : Ty → Type 0
IsNumberType (basic boolean) = ⊥
IsNumberType (basic string) = ⊥
IsNumberType (basic path) = ⊥
IsNumberType (basic signature) = ⊥
IsNumberType (basic k) = Unit {0}
IsNumberType t = ⊥

abbrev pub IsTextType : Ty → Type 0
IsTextType (basic string) = Unit {0}
IsTextType (basic path) = Unit {0}
IsTextType (basic signature) = Unit {0}
IsTextType t = ⊥

abbrev pub IsArrayOf : (Ty → Type 0) → Ty → Type 0
IsArrayOf P (array t) = P t
IsArrayOf P t = ⊥

abbrev pub IsMaybeOf : (Ty → Type 0) → Ty → Type 0
IsMaybeOf P (maybe t) = P t
IsMaybeOf P t = ⊥

abbrev pub IsTupleOf : (Types → Type 0) → Ty → Type 0
IsTupleOf P (tuple ts) = P ts
IsTupleOf P t = ⊥

abbrev pub IsEntryOf : (Ty → Type 0) → (Ty → Type 0) → Ty → Type 0
IsEntryOf P Q (entry k t) = P (basic k) × Q t
IsEntryOf P Q t = ⊥

abbrev mutual
  pub Admits : Syntax → Ty → Type 0
  Admits (truth b) t = AlsoMaybe (λ u. u ≡ basic boolean) t
  Admits (integer negative n) t = AlsoMaybe IsNumberType t
  Admits (quoted s) t = AlsoMaybe IsTextType t
  Admits (bytes s) t = AlsoMaybe (λ u. u ≡ array (basic byte)) t
  Admits (list xs) t = AlsoMaybe (IsArrayOf (AllAdmit xs)) t
  Admits (tuple_of xs) t = AlsoMaybe (IsTupleOf (Admit xs)) t
  Admits (dictionary ps) t = AlsoMaybe (IsArrayOf (IsEntryOf (KeysAdmit ps) (ValuesAdmit ps))) t
  Admits (lone k v) t = AlsoMaybe (IsEntryOf (Admits k) (Admits v)) t
  Admits (boxed x) t = AlsoMaybe (λ u. u ≡ variant) t
  Admits (just x) t = IsMaybeOf (Admits x) t
  Admits nothing t = IsMaybeOf (λ u. Unit {0}) t
  Admits (at_type u x) t = (t ≡ u) × Admits x t
  Admits (keyword k x) t = (t ≡ basic k) × Admits x t

  -- each admits the one type
  pub AllAdmit : Syntaxes → Ty → Type 0
  AllAdmit none t = Unit {0}
  AllAdmit (first x xs) t = Admits x t × AllAdmit xs t

  -- each admits its own type
  pub Admit : Syntaxes → Types → Type 0
  Admit none end = Unit {0}
  Admit (first x xs) (member t ts) = Admits x t × Admit xs ts
  Admit none (member t ts) = ⊥
  Admit (first x xs) end = ⊥

  pub KeysAdmit : Pairs → Ty → Type 0
  KeysAdmit no_pair t = Unit {0}
  KeysAdmit (pair k v ps) t = Admits k t × KeysAdmit ps t

  pub ValuesAdmit : Pairs → Ty → Type 0
  ValuesAdmit no_pair t = Unit {0}
  ValuesAdmit (pair k v ps) t = Admits v t × ValuesAdmit ps t
