-- How a fault of a lock is printed: as its name.
use Rattle.std.specs.Prelude.{ℕ, List, codes}
use Rattle.dconf_disk.specs.declared.lock.LockFault.{LockFault}
use Rattle.dconf_disk.specs.declared.lock.LockFault.TheVariants.{Busy, Device, Memory}

abbrev pub lock_fault_text : LockFault → List ℕ
lock_fault_text Busy = codes "Busy"
lock_fault_text (Device _) = codes "Device"
lock_fault_text Memory = codes "Memory"
