-- A try to take the lock of a folder: its tasks, and which one follows which answer. A try begins, and ends with 13 to 15; its caller carries
-- out each task, and answers what the system says of it.
use Rattle.std.specs.Prelude.{ℕ, ◌+◌, Bool, true, false, not, ◌&&◌, ◌||◌, if◌then◌else◌, ◌==◌, nat_lt}
use Rattle.dconf_files.specs.Locks.{lock_bits}
use Rattle.dconf_verdicts.specs.declared.standing.Seen.{Seen}
use Rattle.dconf_verdicts.specs.declared.standing.Standing.{Standing}
use Rattle.dconf_verdicts.specs.declared.standing.Standing.TheVariants as standing
use Rattle.dconf_verdicts.specs.declared.standing.Purpose.TheVariants.{Look, OpenLock, HoldLock}
use Rattle.dconf_verdicts.specs.Standings.{standing_of}
use Rattle.dconf_waits.specs.declared.taking.TakingRecord.{TakingRecord}

-- ---- where it goes

abbrev pub to : TakingRecord → ℕ → TakingRecord
to t task = record t { task = task }

-- it is over, by that call, as a wait has it (3 the lock's file was opened, 1 it was locked, 2 its names were looked at), and that errno
abbrev pub over : TakingRecord → ℕ → ℕ → ℕ → TakingRecord
over t task tried fault = record t { task = task; tried = tried; fault = fault }

-- 1: the folder is opened, and nothing of before counts
abbrev pub begun : TakingRecord → TakingRecord
begun t = record t { task = 1; openings = 0; forks = 0; has_made = false; is_again = false }

-- 2: a folder that is missing (ENOENT) is made, once
abbrev pub failed : TakingRecord → ℕ → TakingRecord
failed t fault = if fault == 2 && not t.has_made then to t 2 else over t 15 3 fault

-- The folder or the lock's file can't be opened: what is missing is made only by who may make it.
abbrev pub missing : TakingRecord → Bool → ℕ → TakingRecord
missing t may_make fault = if may_make then failed t fault else over t 15 3 fault

-- .. and no file that counts has the lock's name (ENOENT)
abbrev pub unmade : TakingRecord → Bool → TakingRecord
unmade t may_make = if may_make then to t 4 else over t 15 3 2

-- Where the names are others' by now, all is opened anew, once: in a wait of no time there is no other try.
abbrev pub moved : TakingRecord → TakingRecord
moved t = if t.is_again then over t 15 2 0 else record (begun t) { is_again = true }

-- ---- the tasks

-- Another thread forked meanwhile: all is opened anew after a pause (12), so often, and then it counts as taken by that (EAGAIN).
abbrev pub forked : TakingRecord → TakingRecord
forked t = if nat_lt t.forks 9 then record t { task = 12; forks = t.forks + 1 } else over t 15 1 11

-- 1: the folder is opened, or another thread is about to have forks heeded (EAGAIN), which is as if it forked
abbrev pub folder_opened : TakingRecord → Bool → ℕ → TakingRecord
folder_opened t may_make fault = if fault == 0 then record t { task = 3; openings = 0 } else if fault == 11 then forked t else missing t may_make fault

-- 2: it is made
abbrev pub folder_made : TakingRecord → ℕ → TakingRecord
folder_made t fault = if fault == 0 then record t { task = 1; has_made = true } else over t 15 3 fault

-- 3: what has the lock's name is opened, and 4: or one is to be made
abbrev pub by_old : TakingRecord → Bool → Standing → TakingRecord
by_old t may_make standing.Good = to t 8
by_old t may_make (standing.Fault fault) = missing t may_make fault
by_old t may_make standing = unmade t may_make

-- What others may take gets its name only once they may, so that who is killed before keeps nobody from it: the folder is another's than root's
-- that makes it, or others may write in it.
abbrev pub is_for_others : Seen → Bool
is_for_others s = (s.is_root && not (s.user == 0)) || not (lock_bits s.mode true == 384)

-- 4: The folder's own name is on the disk before anything is made in it: who made the folder may have been killed before that. 5: a file without a name
-- is made, and then 6: with another one, and then 7: by its own.
abbrev pub above_seen : TakingRecord → Seen → TakingRecord
above_seen t s = if not (s.fault == 0) then failed t s.fault else if is_for_others s then to t 5 else to t 7

-- What others made meanwhile (EEXIST) is opened: a hundred times. A host that can't make it so has it made in the next way.
abbrev pub opened_anew : TakingRecord → TakingRecord
opened_anew t = if nat_lt t.openings 99 then record t { task = 3; openings = t.openings + 1 } else over t 15 3 17

abbrev pub file_made : TakingRecord → ℕ → TakingRecord
file_made t fault =
    if fault == 0 then to t 8 else if fault == 17 then opened_anew t else
    if t.task == 5 then to t 6 else if t.task == 6 then to t 7 else failed t fault

-- 8: it is listed for who forks, or another thread forked meanwhile
abbrev pub listed : TakingRecord → ℕ → TakingRecord
listed t fault = if fault == 0 then to t 9 else forked t

-- 9: it is locked. Where others have it, it stays open for the next try.
abbrev pub locked : TakingRecord → ℕ → TakingRecord
locked t fault = if fault == 0 then to t 10 else over t 14 1 fault

-- 10: its names are looked at, and 11: its name is taken from it
abbrev pub by_names : TakingRecord → Standing → TakingRecord
by_names t standing.Good = over t 13 1 0
by_names t standing.Other = to t 11
by_names t standing = moved t

abbrev pub by_removal : TakingRecord → Standing → TakingRecord
by_removal t (standing.Fault fault) = over t 15 2 fault
by_removal t standing = moved t

-- A try that was over for others goes on with what is open; each other one begins.
abbrev pub taken : TakingRecord → Seen → TakingRecord
taken t s =
    if t.task == 1 then folder_opened t s.may_make s.fault else if t.task == 2 then folder_made t s.fault else
    if t.task == 3 then by_old t s.may_make (standing_of OpenLock s) else if t.task == 4 then above_seen t s else
    if t.task == 5 then file_made t s.fault else if t.task == 6 then file_made t s.fault else if t.task == 7 then file_made t s.fault else
    if t.task == 8 then listed t s.fault else if t.task == 9 then locked t s.fault else
    if t.task == 10 then by_names t (standing_of HoldLock s) else if t.task == 11 then by_removal t (standing_of Look s) else
    if t.task == 12 then to t 1 else if t.task == 14 then record (begun t) { task = 9 } else begun t
