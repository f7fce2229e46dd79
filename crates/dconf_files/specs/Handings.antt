-- What is done with something that was just made, until it is whose it is to be.
use Rattle.std.specs.Prelude.{ℕ, ◌≡◌, ◌⊎◌, ◌≢◌, Bool, true, false, not, ◌&&◌, ◌||◌, if◌then◌else◌, ◌==◌}
use Rattle.dconf_files.specs.declared.handing.Handing.{Handing}
use Rattle.dconf_files.specs.declared.handing.Handing.TheVariants.{Make, User, Group, Both, Bits, Done, Failed}
use Rattle.dconf_files.specs.declared.handing.MadeWhat.{MadeWhat}
use Rattle.dconf_files.specs.declared.handing.MadeWhat.TheVariants.{Lock, File, Folder}
use Rattle.dconf_files.specs.declared.handing.MadeFile.{MadeFile}
use Rattle.dconf_files.specs.Owners.{bits_for}
use Rattle.dconf_files.specs.Locks.{lock_bits}

-- Whether it has its group as soon as it is made: that of the folder above, or of who makes it, as the system and the folder have it (mount(8),
-- grpid). Where either may be, both are to be the one.
abbrev pub has_group_first : MadeFile → Bool
has_group_first f = (f.above == f.wanted.group) && (f.gives_group || (f.made.group == f.wanted.group))

-- A lock is its owner's alone at first (600), and so is a folder (700). A file that has another group gives nobody more than it will.
abbrev pub first_of : MadeWhat → MadeFile → ℕ
first_of Lock f = 384
first_of File f = bits_for f.wanted.bits (has_group_first f)
first_of Folder f = 448

abbrev pub bits_of : MadeWhat → Bool → ℕ → ℕ
bits_of Lock has bits = lock_bits bits has
bits_of File has bits = bits_for bits has
bits_of Folder has bits = bits_for bits has

-- its bits come last, by the group that it has then
abbrev pub bits_given : MadeWhat → Bool → MadeFile → Handing
bits_given what has f = if f.made.bits == bits_of what has f.wanted.bits then Done else Bits (bits_of what has f.wanted.bits)

abbrev pub grouped : MadeWhat → MadeFile → Handing
grouped what f = if f.made.group == f.wanted.group then bits_given what true f else Group

abbrev pub is_theirs : MadeFile → Bool
is_theirs f = (f.made.user == f.wanted.user) && (f.made.group == f.wanted.group)

-- Root alone gives a file its user. What root made in another's folder is that one's only if it is as it was made, since he may have put another
-- one in its place: root's, there, and empty. Else EACCES.
abbrev pub made_of : MadeWhat → MadeFile → Handing
made_of Folder f = if (f.made.user == 0) && (f.is_beside && f.is_empty) then Both else Failed 13
made_of Lock f = if not f.is_root then grouped Lock f else if is_theirs f then bits_given Lock true f else Both
made_of File f = if not f.is_root then grouped File f else if is_theirs f then bits_given File true f else Both

-- of a lock what fails is passed over
abbrev pub once_made : MadeWhat → ℕ → MadeFile → Handing
once_made Lock errno f =
    if not (errno == 0) then Done else if f.is_root && not (f.made.user == f.wanted.user) then User else grouped Lock f
once_made File errno f = if not (errno == 0) then Failed errno else made_of File f
once_made Folder errno f = if not (errno == 0) then Failed errno else made_of Folder f

abbrev pub once_given : MadeWhat → ℕ → ℕ → MadeFile → Handing
once_given Lock done errno f = Done
once_given File done errno f = if not (errno == 0) then Failed errno else if done == 4 then bits_given File true f else Done
once_given Folder done errno f = if not (errno == 0) then Failed errno else Done

-- once that was done: 0 nothing, 1 it was made, 2 it got its user, 3 its group, 4 both, 5 its bits
abbrev pub handed_after : MadeWhat → ℕ → ℕ → MadeFile → Handing
handed_after what done errno f =
    if done == 0 then Make (first_of what f) else if done == 1 then once_made what errno f else
    if done == 2 then (if not (errno == 0) then Done else grouped what f) else
    if done == 3 then bits_given what (errno == 0) f else once_given what done errno f

-- ---- numbers

abbrev pub what_of : ℕ → MadeWhat
what_of n = if n == 0 then Lock else if n == 1 then File else Folder

abbrev pub handing_number : Handing → ℕ
handing_number (Make bits) = 1
handing_number User = 2
handing_number Group = 3
handing_number Both = 4
handing_number (Bits bits) = 5
handing_number Done = 6
handing_number (Failed errno) = 7

abbrev pub handing_value : Handing → ℕ
handing_value (Make bits) = bits
handing_value (Bits bits) = bits
handing_value (Failed errno) = errno
handing_value step = 0

-- ---- the law

-- the groups that a file may have when it is made
abbrev pub MayHaveFirst : MadeFile → ℕ → Type 0
MayHaveFirst f group = (group ≡ f.above) ⊎ ((f.gives_group ≡ false) × (group ≡ f.made.group))

-- in a group that isn't its own it has the bits of such a one: nobody is given more, not for a moment
abbrev pub NobodyGainsFirst : Type 0
NobodyGainsFirst = (f : MadeFile) (group : ℕ) → MayHaveFirst f group → group ≢ f.wanted.group
    → first_of File f ≡ bits_for f.wanted.bits false
