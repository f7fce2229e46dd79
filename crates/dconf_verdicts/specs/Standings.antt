-- What becomes of what has a name, or is open, by what the system says of it. The numbers are those of Linux (errno-base.h, errno.h, inode(7)).
use Rattle.std.specs.Prelude.{ℕ, ◌≡◌, ◌/◌, ◌%◌, Bool, true, false, if◌then◌else◌, ◌==◌, ◌&&◌, ◌||◌, not, nat_lt}
use Rattle.dconf_verdicts.specs.declared.standing.Seen.{Seen}
use Rattle.dconf_verdicts.specs.declared.standing.Purpose.{Purpose}
use Rattle.dconf_verdicts.specs.declared.standing.Purpose.TheVariants.{Look, Open, Take, OpenLock, HoldLock, Follow, MakeRoom, Exchange, Make, GiveName, TakePlace, SetAside, MoveAside, MakeNamed, Enter, ReadLink, MakeIn, OpenFolder, SyncName}
use Rattle.dconf_verdicts.specs.declared.standing.Standing.{Standing}
use Rattle.dconf_verdicts.specs.declared.standing.Standing.TheVariants.{Good, Nothing, Map, Head, Other, Fault}

-- a regular file (S_IFREG), and a folder (S_IFDIR), by st_mode
abbrev pub is_regular : ℕ → Bool
is_regular mode = (mode / 4096) % 16 == 8

abbrev pub is_folder : ℕ → Bool
is_folder mode = (mode / 4096) % 16 == 4

-- of what is no regular file: EISDIR, or EINVAL
abbrev pub fault_of_mode : ℕ → ℕ
fault_of_mode mode = if is_folder mode then 21 else 22

-- ---- a file that is read

-- ENOENT alone says that nothing is there
abbrev pub looked : ℕ → Standing
looked errno = if errno == 0 then Good else if errno == 2 then Nothing else Fault errno

-- Only a regular file is opened. What can't be looked at is opened, too: that says why.
abbrev pub opened : Seen → Standing
opened s = if not (s.fault == 0) then Good else if is_regular s.mode then Good else Fault (fault_of_mode s.mode)

-- A large file, of over 64 KiB, is mapped, if it may be, or only its head is read at first; of one that has more bytes than it may (EOVERFLOW), none
-- is.
abbrev pub taken_sized : Seen → Standing
taken_sized s =
    if nat_lt s.most s.size then Fault 75 else if s.size == 0 then Nothing else
    if not (nat_lt 65536 s.size) then Good else if s.may_map then Map else if s.may_stop then Head else Good

abbrev pub taken : Seen → Standing
taken s =
    if not (s.fault == 0) then Fault s.fault else
    if is_regular s.mode then taken_sized s else Fault (fault_of_mode s.mode)

-- ---- a folder's lock

-- A link, a folder, and a pipe whose other end nobody has (ELOOP, EISDIR, ENXIO) are no regular files: EINVAL.
abbrev pub is_no_file : ℕ → Bool
is_no_file errno = errno == 40 || (errno == 21 || errno == 6)

abbrev pub lock_opened : Seen → Standing
lock_opened s =
    if s.fault == 0 then (if is_regular s.mode then Good else Fault 22) else
    if is_no_file s.fault then Fault 22 else looked s.fault

-- What is locked has both names still, the folder's and the lock's: else it is looked for anew. A file with another name loses the lock's.
abbrev pub lock_held : Seen → Standing
lock_held s = if not (s.fault == 0) || (s.is_moved || not s.is_named) then Nothing else if nat_lt 1 s.links then Other else Good

-- ---- folders on the way

-- Root follows a link only if nobody else can have put it there: the folder is root's, and neither its group nor all others may write in it.
abbrev pub is_roots_alone : Seen → Bool
is_roots_alone s = s.user == 0 && ((s.mode / 16) % 2 == 0 && (s.mode / 2) % 2 == 0)

-- else EACCES; and so many links, as the system itself does (path_resolution(7)): else ELOOP
abbrev pub followed : Seen → Standing
followed s =
    if s.is_root && not (s.fault == 0 && is_roots_alone s) then Fault 13 else if nat_lt s.tried 40 then Good else Fault 40

-- What is missing (ENOENT) is made, if that is wanted, but not where a link led. What is no folder (ENOTDIR) may be a link.
abbrev pub entered : Seen → Standing
entered s =
    if s.fault == 0 then Good else if s.fault == 2 && (s.may_make && s.tried == 0) then Nothing else
    if s.fault == 20 then Other else Fault s.fault

-- a link (S_IFLNK), or else ENOTDIR
abbrev pub is_link : ℕ → Bool
is_link mode = (mode / 4096) % 16 == 10

abbrev pub link_read : Seen → Standing
link_read s = if not (s.fault == 0) then Fault s.fault else if is_link s.mode then Good else Fault 20

-- What root makes in another's folder is that one's, before it has its name.
abbrev pub made_in : Seen → Standing
made_in s = if not (s.fault == 0) then Fault s.fault else if s.is_root && not (s.user == 0) then Other else Good

-- Root has a folder at once only where no link led to it: else it goes through the path.
abbrev pub folder_opened : Seen → Standing
folder_opened s =
    if s.is_root then (if s.fault == 0 && s.is_named then Good else Other) else if s.fault == 0 then Good else Fault s.fault

-- A folder's name is brought to the disk by the folder above it. Of one that this program may not read (EPERM, EACCES), or that isn't written at all (EINVAL,
-- EROFS, ENOSYS, EOPNOTSUPP), it can bring nothing there.
abbrev pub is_not_ours : ℕ → Bool
is_not_ours errno = errno == 1 || (errno == 13 || (errno == 22 || (errno == 30 || (errno == 38 || errno == 95))))

abbrev pub name_synced : ℕ → Standing
name_synced errno = if errno == 0 then Good else if is_not_ours errno then Nothing else Fault errno

-- what is there already (EEXIST) need not be made
abbrev pub made : ℕ → Standing
made errno = if errno == 0 then Good else if errno == 17 then Nothing else Fault errno

-- A file system that knows no such rename (EINVAL, ENOSYS) has another one, which takes the place of nothing but an empty folder.
abbrev pub name_given : ℕ → Standing
name_given errno =
    if errno == 0 then Good else if errno == 22 then Other else if errno == 38 then Other else Fault errno

-- what is no empty folder (ENOTEMPTY) has the name (EEXIST)
abbrev pub place_taken : ℕ → Standing
place_taken errno = if errno == 0 then Good else if errno == 39 then Fault 17 else Fault errno

-- ---- a new file

-- what has its name goes, but a folder (EISDIR), which gets another name
abbrev pub room_made : ℕ → Standing
room_made errno = if errno == 0 then Good else if errno == 2 then Good else if errno == 21 then Other else Fault errno

-- a file system that can't do it says EINVAL, too, as of a name that can't be one: EOPNOTSUPP
abbrev pub exchanged : ℕ → Standing
exchanged errno = if errno == 0 then Good else if errno == 22 then Fault 95 else Fault errno

-- where a name is taken (EEXIST), before which so many were, the next one is tried, but after the last
abbrev pub next_name : ℕ → ℕ → ℕ → Standing
next_name errno tried last =
    if errno == 0 then Good else if errno == 17 && nat_lt tried last then Other else Fault errno

-- NAME~1 to NAME~999; by such a name a turn that failed may have left the same file
abbrev pub set_aside : Seen → Standing
set_aside s = if s.fault == 17 && s.is_named then Good else next_name s.fault s.tried 998

abbrev pub moved_aside : Seen → Standing
moved_aside s = next_name s.fault s.tried 998

-- of what gets its own name later
abbrev pub named_anew : Seen → Standing
named_anew s = next_name s.fault s.tried 99

abbrev pub standing_of : Purpose → Seen → Standing
standing_of Look s = looked s.fault
standing_of Open s = opened s
standing_of Take s = taken s
standing_of OpenLock s = lock_opened s
standing_of HoldLock s = lock_held s
standing_of Follow s = followed s
standing_of MakeRoom s = room_made s.fault
standing_of Exchange s = exchanged s.fault
standing_of Make s = made s.fault
standing_of GiveName s = name_given s.fault
standing_of TakePlace s = place_taken s.fault
standing_of SetAside s = set_aside s
standing_of MoveAside s = moved_aside s
standing_of MakeNamed s = named_anew s
standing_of Enter s = entered s
standing_of ReadLink s = link_read s
standing_of MakeIn s = made_in s
standing_of OpenFolder s = folder_opened s
standing_of SyncName s = name_synced s.fault

-- ---- numbers

abbrev pub purpose_of : ℕ → Purpose
purpose_of n =
    if n == 0 then Look else if n == 1 then Open else if n == 2 then Take else if n == 3 then OpenLock else if n == 4 then HoldLock else
    if n == 5 then Follow else if n == 6 then MakeRoom else if n == 7 then Exchange else if n == 8 then Make else
    if n == 9 then GiveName else if n == 10 then TakePlace else if n == 11 then SetAside else if n == 12 then MoveAside else
    if n == 13 then MakeNamed else if n == 14 then Enter else if n == 15 then ReadLink else if n == 16 then MakeIn else
    if n == 17 then OpenFolder else SyncName

abbrev pub standing_number : Standing → ℕ
standing_number Good = 0
standing_number Nothing = 1
standing_number Map = 2
standing_number Head = 3
standing_number Other = 4
standing_number (Fault errno) = 5

abbrev pub standing_fault : Standing → ℕ
standing_fault (Fault errno) = errno
standing_fault standing = 0

-- ---- the law

abbrev pub IsFault : Standing → Type 0
IsFault (Fault errno) = Unit {0}
IsFault standing = ⊥

pub record IsSafe (s : Seen) : Type 0 where
  -- only a regular file is read, or is a lock; and no bytes are taken of one that has too many
  pub regular : (standing_of Take s ≡ Good) → (is_regular s.mode ≡ true) × (nat_lt s.most s.size ≡ false)
  pub mapped : (standing_of Take s ≡ Map) → (is_regular s.mode ≡ true) × (nat_lt s.most s.size ≡ false)
  pub lock : (standing_of OpenLock s ≡ Good) → is_regular s.mode ≡ true
  -- a lock that is had has its name, and no other, in the folder that has its own
  pub held : (standing_of HoldLock s ≡ Good) → (s.is_named ≡ true) × (s.is_moved ≡ false) × (nat_lt 1 s.links ≡ false)
  -- root follows only root's links; and nobody follows links without end
  pub followed : (s.is_root ≡ true) → (standing_of Follow s ≡ Good) → is_roots_alone s ≡ true
  pub ends : (standing_of Follow s ≡ Good) → nat_lt s.tried 40 ≡ true
  -- root has a folder only by a path without links, and makes one by its name only in root's
  pub opened : (s.is_root ≡ true) → (standing_of OpenFolder s ≡ Good) → s.is_named ≡ true
  pub made : (s.is_root ≡ true) → (standing_of MakeIn s ≡ Good) → (s.user == 0) ≡ true
  -- nothing is made where a link led
  pub entered : (standing_of Enter s ≡ Nothing) → (s.tried == 0) ≡ true
  -- a name is on the disk only where the system says so
  pub synced : (standing_of SyncName s ≡ Good) → (s.fault == 0) ≡ true

abbrev pub EachIsSafe : Type 0
EachIsSafe = (s : Seen) → IsSafe s
