-- Why a call of a folder failed, how that is printed, and what the count of failures says of it.
use Rattle.std.specs.Prelude.{ℕ, ◌+◌, ◌-◌, ◌^◌, ◌≡◌, ◌⊎◌, List, Result, Err, IsErrOf, codes}
use Rattle.dconf_folders.specs.declared.fault.FolderFault.{FolderFault}
use Rattle.dconf_folders.specs.declared.fault.FolderFault.TheVariants.{Device, TooBig, Memory}

-- its name
abbrev pub folder_fault_text : FolderFault → List ℕ
folder_fault_text Device = codes "Device"
folder_fault_text TooBig = codes "TooBig"
folder_fault_text Memory = codes "Memory"

-- one failure more, as far as a count can tell
abbrev pub IsOneMore : ℕ → ℕ → Type 0
IsOneMore before now = (now ≡ before + 1) ⊎ ((now ≡ before) × (now ≡ 2 ^ 64 - 1))

-- A fault of the device is one failure more, or the count is at its greatest number and stays there. Nothing else is.
pub record HasCause {T : Type 0} (before now : ℕ) (result : Result T FolderFault) : Type 0 where
  pub device : IsErrOf result Device → (now ≡ before + 1) ⊎ ((now ≡ before) × (now ≡ 2 ^ 64 - 1))
  pub others : (IsErrOf result Device → ⊥) → now ≡ before

-- a result that is this error
abbrev pub failed_by : FolderFault → Result (Unit {0}) FolderFault
failed_by fault = Err fault
