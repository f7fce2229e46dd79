-- What was made of a file, beside what the file is now.
use Rattle.std.specs.Prelude.{ℕ, ◌≡◌, Bool, true, false, not, ◌&&◌, if◌then◌else◌, ◌==◌}
use Rattle.dconf_files.specs.declared.stamp.FileStamp.{FileStamp}
use Rattle.dconf_files.specs.declared.stamp.Sameness.{Sameness}
use Rattle.dconf_files.specs.declared.stamp.Sameness.TheVariants as sameness
use Rattle.dconf_files.specs.Stamps.{is_same_time, sameness_of}
use Rattle.dconf_parts.specs.declared.parts.Likeness.{Likeness}
use Rattle.dconf_parts.specs.declared.parts.Likeness.TheVariants.{Same, Other, IfReadable}
use Rattle.dconf_parts.specs.declared.parts.DconfdbPartSeen.{DconfdbPartSeen}
use Rattle.dconf_parts.specs.declared.parts.Purpose.{Purpose}
use Rattle.dconf_parts.specs.declared.parts.Purpose.TheVariants.{Keep, Take, Tell, Try}

abbrev pub same_if : Bool → Likeness
same_if is = if is then Same else Other

-- one file, whatever changed of it
abbrev pub is_one_file : FileStamp → FileStamp → Bool
is_one_file old now = old.is_there && (now.is_there && ((old.device == now.device) && (old.inode == now.inode)))

abbrev pub has_same_fault : DconfdbPartSeen → Bool
has_same_fault s = (s.code == s.read_code) && (s.errnum == s.read_errnum)

-- the same bytes were read, or the same fault was met
abbrev pub is_as_read : DconfdbPartSeen → Bool
is_as_read s = if s.read_code == 0 then (s.code == 0) && s.has_bytes else has_same_fault s

abbrev pub kept_by : Sameness → Bool → Likeness
kept_by sameness.Same is_untouched = if is_untouched then Same else IfReadable
kept_by sameness.Other is_untouched = Other
kept_by sameness.Unsure is_untouched = Other

abbrev pub taken_by : Sameness → Bool → Likeness
taken_by sameness.Other is = Other
taken_by sameness.Same is = same_if is
taken_by sameness.Unsure is = same_if is

-- by what the host said of it when it was read, and says now
abbrev pub said_of : FileStamp → FileStamp → DconfdbPartSeen → Sameness
said_of old now s = sameness_of old now s.opened s.is_held

abbrev pub by_stat : FileStamp → FileStamp → DconfdbPartSeen → Likeness
by_stat old now s = kept_by (said_of old now s) (is_same_time old.touched now.touched)

abbrev pub read : FileStamp → FileStamp → DconfdbPartSeen → Likeness
read old now s = taken_by (said_of old now s) (is_as_read s)

abbrev pub newest : FileStamp → FileStamp → DconfdbPartSeen → Likeness
newest old now s = taken_by (said_of old now s) true

abbrev pub as_tried : FileStamp → FileStamp → DconfdbPartSeen → Likeness
as_tried old now s = same_if (is_one_file old now && s.has_bytes)

abbrev pub seen_for : Purpose → FileStamp → FileStamp → DconfdbPartSeen → Likeness
seen_for Keep old now s = by_stat old now s
seen_for Take old now s = read old now s
seen_for Tell old now s = newest old now s
seen_for Try old now s = as_tried old now s

-- what can't be looked at may be another one
abbrev pub beside : Purpose → FileStamp → FileStamp → DconfdbPartSeen → Likeness
beside purpose old now s = if not (s.fault == 0) then Other else seen_for purpose old now s

abbrev pub beside_number : Likeness → ℕ
beside_number Same = 0
beside_number Other = 1
beside_number IfReadable = 2

-- what changed of a file that is held, and may be read, isn't asked of again until more does; all else is as it was read
abbrev pub known_as : FileStamp → FileStamp → FileStamp
known_as old now = record old { touched = now.touched }

abbrev pub known_after : FileStamp → FileStamp → Bool → FileStamp
known_after old now may = if may then known_as old now else old

-- once it was made and given its name, a file is as what has that name, if that is the file
abbrev pub placed : FileStamp → FileStamp → FileStamp
placed made named = if is_one_file made named then named else made

abbrev pub purpose_of : ℕ → Purpose
purpose_of n = if n == 0 then Keep else if n == 1 then Take else if n == 2 then Tell else Try

-- ---- the law

abbrev pub is_kept : Likeness → Bool
is_kept Same = true
is_kept Other = false
is_kept IfReadable = true

abbrev pub is_other : Sameness → Bool
is_other sameness.Other = true
is_other sameness.Same = false
is_other sameness.Unsure = false

pub record WhatIsKeptIsTheSame : Type 0 where
  -- what isn't read again is the file that was read
  pub unread : (old now : FileStamp) (s : DconfdbPartSeen) → is_kept (beside Keep old now s) ≡ true → said_of old now s ≡ sameness.Same
  -- what was read, and could be, is the same bytes
  pub bytes : (old now : FileStamp) (s : DconfdbPartSeen) → beside Take old now s ≡ Same → (s.read_code == 0) ≡ true → s.has_bytes ≡ true
  -- what couldn't be is kept where it couldn't be before, for the same reason
  pub fault : (old now : FileStamp) (s : DconfdbPartSeen) → beside Take old now s ≡ Same → (s.read_code == 0) ≡ false → has_same_fault s ≡ true
  -- a file that is known otherwise is the one that was read exactly if it was so before; and it is asked of no more
  pub known : (old now : FileStamp) (s : DconfdbPartSeen) → s.is_held ≡ true → said_of (known_as old now) now s ≡ said_of old now s
  pub settled : (old now : FileStamp) → is_same_time (known_as old now).touched now.touched ≡ true
  -- what is known of a new file is of that file, whatever has its name
  pub placed : (made named : FileStamp) → made.is_there ≡ true → is_one_file made (placed made named) ≡ true
  -- and no file is kept that is said to be another one
  pub one : (old now : FileStamp) (s : DconfdbPartSeen) → beside Take old now s ≡ Same → is_other (said_of old now s) ≡ false
