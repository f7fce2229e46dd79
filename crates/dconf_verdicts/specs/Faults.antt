-- What a fault of the host means: whether it is the file's own, or passes.
use Rattle.std.specs.Prelude.{ℕ, ◌≡◌, ◌⊎◌, ◌↔◌, Bool, true, false, if◌then◌else◌, ◌==◌}
use Rattle.dconf_verdicts.specs.declared.faults.FaultKind.{FaultKind}
use Rattle.dconf_verdicts.specs.declared.faults.FaultKind.TheVariants.{Rights, ReadOnly, Name, Kind, Damage, Scarce, Moment, Full, Disk, Missing, Unsupported, Wait, Other}
use Rattle.dconf_verdicts.specs.declared.faults.FaultClass.{FaultClass}
use Rattle.dconf_verdicts.specs.declared.faults.FaultClass.TheVariants.{Own, Soon, Later}
use Rattle.dconf_verdicts.specs.declared.faults.ChangeFault.{ChangeFault}
use Rattle.dconf_verdicts.specs.declared.faults.ChangeFault.TheVariants.{Locked, Unfit, TooLarge, Host, Memory, Busy}
use Rattle.dconf_verdicts.specs.declared.faults.Verdict.{Verdict}
use Rattle.dconf_verdicts.specs.declared.faults.Verdict.TheVariants as verdict
use Rattle.dconf_verdicts.specs.Errnos.{kind_of}

-- Of who changes a file (true), or reads it (false). A file of another kind, or that is damaged, is put right by a change.
abbrev pub class_of : FaultKind → Bool → FaultClass
class_of Rights changes = Own
class_of ReadOnly true = Own
class_of ReadOnly false = Later
class_of Name changes = Own
class_of Kind true = Later
class_of Kind false = Own
class_of Damage true = Later
class_of Damage false = Own
class_of Scarce changes = Soon
class_of Moment changes = Soon
class_of Full changes = Later
class_of Disk changes = Later
class_of Missing changes = Later
class_of Unsupported changes = Later
class_of Wait changes = Soon
class_of Other changes = Later

-- ---- a change that was not made

abbrev pub by_class : FaultClass → Verdict
by_class Own = verdict.Closed
by_class Soon = verdict.Soon
by_class Later = verdict.Later

-- what becomes of it
abbrev pub verdict_of : ChangeFault → Verdict
verdict_of Locked = verdict.Locked
verdict_of Unfit = verdict.Unfit
verdict_of TooLarge = verdict.TooLarge
verdict_of (Host kind) = by_class (class_of kind true)
verdict_of Memory = verdict.Soon
verdict_of Busy = verdict.Later

abbrev pub verdict_number : Verdict → ℕ
verdict_number verdict.Locked = 1
verdict_number verdict.Unfit = 2
verdict_number verdict.Later = 3
verdict_number verdict.Closed = 4
verdict_number verdict.TooLarge = 5
verdict_number verdict.Soon = 6

-- by the header's code of what a change failed by, and its errno
abbrev pub fault_of : ℕ → ℕ → ChangeFault
fault_of code errno =
    if code == 1 then Memory else
    if code == 13 then Unfit else  -- BAD_PATH
    if code == 14 then Unfit else  -- BAD_TYPE
    if code == 15 then Locked else  -- NOT_WRITABLE
    if code == 16 then Locked else  -- LOCKED
    if code == 17 then Unfit else  -- VALUE_TOO_LARGE
    if code == 18 then TooLarge else  -- FILE_TOO_LARGE
    if code == 20 then Unfit else  -- BAD_VALUE
    if code == 64 then Host (kind_of errno) else  -- FILE
    Busy

abbrev pub is_own : FaultClass → Bool
is_own Own = true
is_own Soon = false
is_own Later = false

-- of who reads a file
abbrev pub is_files_own : FaultKind → Bool
is_files_own kind = is_own (class_of kind false)

-- ---- the laws

-- it is tried again
abbrev pub Passes : FaultClass → Type 0
Passes Own = ⊥
Passes Soon = Unit {0}
Passes Later = Unit {0}

-- each fault is the file's own or passes, and none is both
abbrev pub EachIsOne : Type 0
EachIsOne = (kind : FaultKind) (changes : Bool) →
    ((class_of kind changes ≡ Own) ⊎ Passes (class_of kind changes)) × (class_of kind changes ≡ Own → Passes (class_of kind changes) → ⊥)

-- it stays until somebody mends it
abbrev pub IsFinal : ChangeFault → Type 0
IsFinal Locked = Unit {0}
IsFinal Unfit = Unit {0}
IsFinal TooLarge = Unit {0}
IsFinal (Host kind) = class_of kind true ≡ Own
IsFinal Memory = ⊥
IsFinal Busy = ⊥

-- something that waits is refused, or left out
abbrev pub Drops : Verdict → Type 0
Drops verdict.Locked = Unit {0}
Drops verdict.Closed = Unit {0}
Drops verdict.Unfit = Unit {0}
Drops verdict.TooLarge = Unit {0}
Drops verdict.Soon = ⊥
Drops verdict.Later = ⊥

-- that is so for a fault exactly if it is final
abbrev pub OnlyFinalDrops : Type 0
OnlyFinalDrops = (fault : ChangeFault) → Drops (verdict_of fault) ↔ IsFinal fault
