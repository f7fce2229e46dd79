-- The numbers by which Linux says what failed (asm-generic/errno-base.h and errno.h), and which kind each is of.
use Rattle.std.specs.Prelude.{ℕ, Bool, true, false, if◌then◌else◌, ◌==◌}
use Rattle.dconf_verdicts.specs.declared.faults.FaultKind.{FaultKind}
use Rattle.dconf_verdicts.specs.declared.faults.FaultKind.TheVariants.{Rights, ReadOnly, Name, Kind, Damage, Scarce, Moment, Full, Disk, Missing, Unsupported, Wait, Other}
use Rattle.dconf_verdicts.specs.declared.told.Told.{Told}
use Rattle.dconf_verdicts.specs.declared.told.Told.TheVariants.{Memory, TooLarge, System, Busy}

abbrev pub kind_of : ℕ → FaultKind
kind_of n =
    if n == 1 then Rights else  -- EPERM
    if n == 2 then Missing else  -- ENOENT
    if n == 4 then Moment else  -- EINTR
    if n == 5 then Disk else  -- EIO
    if n == 6 then Kind else  -- ENXIO
    if n == 11 then Wait else  -- EAGAIN, EWOULDBLOCK
    if n == 12 then Scarce else  -- ENOMEM
    if n == 13 then Rights else  -- EACCES
    if n == 19 then Kind else  -- ENODEV
    if n == 20 then Name else  -- ENOTDIR
    if n == 21 then Kind else  -- EISDIR
    if n == 22 then Name else  -- EINVAL
    if n == 23 then Scarce else  -- ENFILE
    if n == 24 then Scarce else  -- EMFILE
    if n == 27 then Full else  -- EFBIG
    if n == 28 then Full else  -- ENOSPC
    if n == 30 then ReadOnly else  -- EROFS
    if n == 31 then Unsupported else  -- EMLINK
    if n == 36 then Name else  -- ENAMETOOLONG
    if n == 37 then Scarce else  -- ENOLCK
    if n == 38 then Unsupported else  -- ENOSYS
    if n == 40 then Name else  -- ELOOP
    if n == 74 then Damage else  -- EBADMSG
    if n == 75 then Kind else  -- EOVERFLOW
    if n == 95 then Unsupported else  -- EOPNOTSUPP
    if n == 116 then Moment else  -- ESTALE
    if n == 117 then Damage else  -- EUCLEAN
    if n == 122 then Full else  -- EDQUOT
    Other

-- ---- what a program is told, whose call failed

-- of a file
abbrev pub file_told : ℕ → Told
file_told n = if n == 12 then Memory else if n == 75 then TooLarge else System

-- of the lock by which programs take turns: others had it all the time
abbrev pub lock_told : ℕ → Told
lock_told n = if n == 11 then Busy else file_told n

abbrev pub told_of : Bool → ℕ → Told
told_of true n = lock_told n
told_of false n = file_told n

-- the header's codes: MEMORY, FILE_TOO_LARGE, FILE and BUSY
abbrev pub code_of : Told → ℕ
code_of Memory = 1
code_of TooLarge = 18
code_of System = 64
code_of Busy = 65

-- Of the files that a store has, all that are known are listed, though the profile can't be read, or names what can't be: who opens it is told. Where no memory is left
-- none are.
abbrev pub is_list_refused : ℕ → Bool
is_list_refused code = code == code_of Memory
