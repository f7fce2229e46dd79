-- What C is told of a value's text.
use Rattle.std.specs.Prelude.{◌≡◌, ℕ, List, true}
use Rattle.refused.specs.declared.Refused.TheVariants.{Fault, Memory}
use Rattle.gv_model.specs.TypeText.{type_at}
use Rattle.gv_model.specs.Decode.{decode}
use Rattle.gv_model.specs.Printed.{printed}
use Rattle.gv_text.specs.declared.print_fault.PrintFlaw.TheVariants.{TooLarge, DoubleText}
use Rattle.gv_text.specs.Printing.{IsUnprintable}
use Rattle.dconfdb_calls.specs.declared.printed.Unprinted.{Unprinted}
use Rattle.dconfdb_calls.specs.declared.printed.Unprinted.TheVariants.{BadType, Value}
use Rattle.dconfdb_calls.specs.Given.{HandsOut, SpellsType}

-- the first three are numbers of faults
abbrev pub unprinted_number : Unprinted → ℕ
unprinted_number (Value Memory) = 1
unprinted_number BadType = 14
unprinted_number (Value (Fault TooLarge)) = 17
unprinted_number (Value (Fault DoubleText)) = 19

-- why bytes have no text at the type that a text spells
abbrev pub IsUnprinted : List ℕ → List ℕ → Unprinted → Type 0
IsUnprinted type_text bytes BadType = ¬ SpellsType type_text
IsUnprinted type_text bytes (Value fault) = IsUnprintable (decode (type_at type_text) bytes) fault

-- the text of the value that bytes have at that type is handed out
abbrev pub IsPrinted : List ℕ → List ℕ → List ℕ → List ℕ → ℕ → Type 0
IsPrinted type_text bytes old new n = HandsOut (printed (decode (type_at type_text) bytes) true) old new n

-- the number of why it has none is told
abbrev pub IsUnprintedTold : List ℕ → List ℕ → ℕ → Type 0
IsUnprintedTold type_text bytes number = (why : Unprinted) × (unprinted_number why ≡ number) × IsUnprinted type_text bytes why
