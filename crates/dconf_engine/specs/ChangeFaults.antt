-- Which refusal of the model a fault of a change is, and how it is printed.
use Rattle.std.specs.Prelude.{ℕ, List, codes, Option, Some, None, Result, Err, ◌≡◌, IfSome, if◌then◌else◌, Bool, option_map}
use Rattle.refused.specs.Faults.{fault_in}
use Rattle.refused.specs.declared.Refused.{Refused}
use Rattle.dconf_model.specs.Layers.{Layers, is_locked}
use Rattle.dconf_model.specs.Changes.{Refusal, first_locked, paths_of}
use Rattle.dconf_model.specs.Sources.{Assigned}
use Rattle.dconf_model.specs.Changes.Refusal.{not_writable, locked, too_large}
use Rattle.dconf_engine.specs.declared.change_fault.ChangeFlaw.{ChangeFlaw}
use Rattle.dconf_engine.specs.declared.change_fault.ChangeFlaw.TheVariants.{NotWritable, Locked, TooLarge}

abbrev pub refusal_of : ChangeFlaw → Refusal
refusal_of NotWritable = not_writable
refusal_of (Locked row) = locked row
refusal_of TooLarge = too_large

-- what a fault says of what a change gives: its refusal, or nothing where a growth was refused
abbrev pub Refuses : Result Layers Refusal → Refused ChangeFlaw → Type 0
Refuses given fault = IfSome (fault_in refusal_of fault) (λ r. given ≡ Err r)

abbrev pub change_fault_text : ChangeFlaw → List ℕ
change_fault_text NotWritable = codes "NotWritable"
change_fault_text (Locked row) = codes "Locked"
change_fault_text TooLarge = codes "TooLarge"

-- why a path may not be changed
abbrev pub path_refusal : Layers → List ℕ → Option Refusal
path_refusal l path = if l.writable then (if is_locked l path then Some (locked 0) else None) else Some not_writable

-- why rows may not be loaded, whatever their values
abbrev pub rows_refusal : Layers → List Assigned → Bool → Option Refusal
rows_refusal l rows force = if l.writable then (if force then None else option_map locked (first_locked l 0 (paths_of rows))) else Some not_writable
