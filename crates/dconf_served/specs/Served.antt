-- What the D-Bus service answers to a call that changes settings, and when it ends.
use Rattle.std.specs.Prelude.{ℕ, ◌≡◌, ◌≢◌, ◌⊎◌, Bool, true, false, not, ◌&&◌, ◌||◌, if◌then◌else◌, ◌==◌, nat_lt, nat_le}
use Rattle.dconf_served.specs.declared.served.Served.{Served}
use Rattle.dconf_served.specs.declared.served.Served.TheVariants.{GoesOn, Acknowledged, Failed, Closed, Odd, TooLarge, TooMuch, TooManyNames, Late, Later, Profiles, Alone, Ends, Taken, PassedOver, LeftOut, Replaces, Unsupported}
use Rattle.dconf_served.specs.declared.served.ServedKnown.{ServedKnown}

-- ---- when it came

-- 10,000 changes wait at most; and one more only while those that wait have fewer than 256 MiB
abbrev pub has_room : ServedKnown → Bool
has_room k = nat_lt k.waiting 10000 && nat_lt k.waiting_size 268435456

-- of 64 MiB at most, and of 64 databases; of none that a profile names by `service-db`, which ours can't
abbrev pub came : ServedKnown → Served
came k =
    if k.is_service_db then Unsupported else if nat_lt 67108864 k.size then TooLarge else
    if not k.is_used && nat_le 64 k.names then TooManyNames else if has_room k then GoesOn else TooMuch

-- beside the main thread, which alone opens a database, ends the service, and notes calls: behind all that came before
abbrev pub passed : ServedKnown → Served
passed k = if not k.is_used || (k.is_behind || (k.ends || k.is_noted)) then Later else came k

-- ---- when it is read

-- too many bytes to be brought into normal form
abbrev pub is_odd : ServedKnown → Bool
is_odd k = not k.is_normal && nat_lt 32768 k.size

abbrev pub read : ServedKnown → Served
read k = if is_odd k then Odd else GoesOn

-- in the thread in which it came, where what comes behind it waits meanwhile: if it has at most 4 KiB
abbrev pub read_where_it_came : ServedKnown → Served
read_where_it_came k = if nat_lt 4096 k.size then Later else GoesOn

-- its bytes, as the library takes them: as they were sent, if they are in its order and in normal form, or made anew
abbrev pub formed : ServedKnown → Served
formed k = if k.is_normal && not k.is_turned then GoesOn else Replaces

-- ---- what it says: each path that was sent, in the order of their bytes, and of those of one path as they were sent

-- a key's; or a directory's, whose keys are reset
abbrev pub is_path : ServedKnown → Bool
is_path k = (k.kind == 0) || ((k.kind == 1) && not k.sets)

-- as dconf has it, what is no path is passed over; a path that is too long to be a key's is left out, which is told
abbrev pub entered : ServedKnown → Served
entered k = if not (is_path k) then PassedOver else if k.is_short then GoesOn else LeftOut

-- of one path the last counts; the reset of what a directory's takes away says nothing more
abbrev pub ordered : ServedKnown → Served
ordered k = if k.is_again then Replaces else if k.is_covered && not k.sets then PassedOver else GoesOn

-- ---- when it was tried to write it

abbrev pub lasts : ServedKnown → Bool
lasts k = (k.said == 1) || (k.said == 2)

-- it is written, or isn't tried again
abbrev pub is_settled : ServedKnown → Bool
is_settled k = k.is_written || (lasts k || k.ends)

abbrev pub tried : ServedKnown → Served
tried k =
    if not (is_settled k) then GoesOn else if is_odd k then Odd else if not k.has_edits then Acknowledged else
    if not k.is_written then Failed else if k.is_closed then Closed else Acknowledged

-- an edit of it is refused by itself, whatever becomes of those beside it
abbrev pub beside : ServedKnown → Served
beside k = Alone

-- ---- when it is told

-- an edit: it is made, or isn't, which is told as well; of what isn't on the disk nothing is
abbrev pub made : ServedKnown → Served
made k = if not k.is_written then PassedOver else if k.is_unmade then LeftOut else GoesOn

-- 16 MiB of paths are named at most
abbrev pub told : ServedKnown → Served
told k = if nat_lt 16777216 k.size then TooLarge else GoesOn

-- a database: programs in a sandbox see the user's own alone, which is the first
abbrev pub shown : ServedKnown → Served
shown k = if k.is_users && k.is_first then GoesOn else PassedOver

-- in the turn to write, for which others wait meanwhile: at most 16 edits, and no reset of a directory, of which any number of paths may be told
abbrev pub told_in_turn : ServedKnown → Served
told_in_turn k = if nat_lt 0 k.resets || nat_lt 16 k.edits then Later else GoesOn

-- who calls is answered, unless no answer is wanted
abbrev pub answered : ServedKnown → Served
answered k = if k.wants_none then PassedOver else GoesOn

-- and the call is noted, where the environment asks for it
abbrev pub noted : ServedKnown → Served
noted k = if k.is_noted then GoesOn else PassedOver

-- ---- when the service ends

-- a change that isn't answered: who is amid a try alone knows what becomes of it
abbrev pub ended : ServedKnown → Served
ended k = if k.is_amid then GoesOn else Late

-- the thread rests if nothing waited; else it is left, and that somebody isn't answered by it is said
abbrev pub left : ServedKnown → Served
left k = if k.waiting == 0 then GoesOn else if nat_lt k.answered k.waiting then Late else Ends

-- it hasn't its name: it had it, or the bus is gone; or another service has it
abbrev pub named : ServedKnown → Served
named k = if k.had_name || k.is_bus_closed then Ends else Taken

-- ---- which changes are written together, and where

abbrev pub joined : ServedKnown → Served
joined k = if k.is_same then GoesOn else Later

-- by the profile's store, and so with its locks, if that has the database as its user's; a profile that can't be opened might lock what is asked
abbrev pub placed : ServedKnown → Served
placed k = if not k.is_open || not k.is_profile_open then Failed else if k.has_same_file then Profiles else Alone

-- the file that is to be the profile of one by itself: it is watched, and written unless it is that already
abbrev pub profiled : ServedKnown → Served
profiled k = if k.has_profile then PassedOver else GoesOn

-- a database that can't be opened isn't changed
abbrev pub used : ServedKnown → Served
used k = if k.is_open then GoesOn else Failed

abbrev pub served_after : ℕ → ServedKnown → Served
served_after done k = if done == 0 then came k else if done == 1 then read k else if done == 3 then told k else
    if done == 4 then ended k else if done == 5 then joined k else if done == 6 then placed k else if done == 7 then left k else
    if done == 8 then named k else if done == 9 then entered k else if done == 10 then ordered k else if done == 11 then shown k else
    if done == 12 then made k else if done == 13 then beside k else if done == 14 then passed k else
    if done == 15 then profiled k else if done == 16 then read_where_it_came k else if done == 17 then formed k else if done == 18 then used k else
    if done == 19 then answered k else if done == 20 then noted k else if done == 21 then told_in_turn k else tried k

abbrev pub served_number : Served → ℕ
served_number GoesOn = 0
served_number Acknowledged = 1
served_number Failed = 2
served_number Closed = 3
served_number Odd = 4
served_number TooLarge = 5
served_number TooMuch = 6
served_number TooManyNames = 7
served_number Late = 8
served_number Later = 9
served_number Profiles = 10
served_number Alone = 11
served_number Ends = 12
served_number Taken = 13
served_number PassedOver = 14
served_number LeftOut = 15
served_number Replaces = 16
served_number Unsupported = 17

-- ---- the laws

pub record IsGoodAnswer (k : ServedKnown) : Type 0 where
  -- what is acknowledged is on the disk, or there was nothing to be made
  pub acknowledged : tried k ≡ Acknowledged → (is_odd k ≡ false) × ((k.has_edits ≡ false) ⊎ ((k.is_written ≡ true) × (k.is_closed ≡ false)))
  -- it goes on waiting exactly as long as nothing is written, the fault passes, and the service doesn't end
  pub waits : tried k ≡ GoesOn → (k.is_written ≡ false) × (lasts k ≡ false) × (k.ends ≡ false)
  pub written : k.is_written ≡ true → tried k ≢ GoesOn
  pub lasting : lasts k ≡ true → tried k ≢ GoesOn
  -- nothing is acknowledged before
  pub before : (came k ≢ Acknowledged) × (read k ≢ Acknowledged)

abbrev pub NothingIsAnsweredUnwritten : Type 0
NothingIsAnsweredUnwritten = (k : ServedKnown) → IsGoodAnswer k

pub record IsBounded (k : ServedKnown) : Type 0 where
  pub size : came k ≡ GoesOn → nat_lt 67108864 k.size ≡ false
  pub waiting : came k ≡ GoesOn → (nat_lt k.waiting 10000 ≡ true) × (nat_lt k.waiting_size 268435456 ≡ true)
  pub names : came k ≡ GoesOn → k.is_used ≡ false → nat_le 64 k.names ≡ false
  pub told : served_after 3 k ≡ GoesOn → nat_lt 16777216 k.size ≡ false
  pub kind : came k ≡ GoesOn → k.is_service_db ≡ false
  -- nobody waits for long: not what comes behind one that is read where it came, nor other programs for what is told in the turn
  pub reads : served_after 16 k ≡ GoesOn → nat_lt 4096 k.size ≡ false
  pub turn : served_after 21 k ≡ GoesOn → (nat_lt 0 k.resets ≡ false) × (nat_lt 16 k.edits ≡ false)

abbrev pub WhatWaitsIsBounded : Type 0
WhatWaitsIsBounded = (k : ServedKnown) → IsBounded k

-- what was accepted, and is known to be so at the end, and at the end of the try that was under way
pub record IsToldAtTheEnd (k last : ServedKnown) : Type 0 where
  -- it was answered by a try, or is told now; or a try is under way, and that one answers it
  pub told : (served_after 4 k ≡ Late) ⊎ ((k.is_amid ≡ true) × (last.ends ≡ true → served_after 2 last ≢ GoesOn))
  -- what isn't under way isn't written any more
  pub unwritten : k.is_amid ≡ false → served_after 4 k ≡ Late
  -- the thread is waited for only if nobody is left to be told
  pub rests : served_after 7 k ≡ GoesOn → k.waiting ≡ 0
  -- it is left in silence only if all are answered, and the last word is said only if somebody isn't
  pub silent : served_after 7 k ≡ Ends → nat_lt k.answered k.waiting ≡ false
  pub said : served_after 7 k ≡ Late → nat_lt k.answered k.waiting ≡ true

abbrev pub WhoWaitsIsToldAtTheEnd : Type 0
WhoWaitsIsToldAtTheEnd = (k last : ServedKnown) → IsToldAtTheEnd k last

-- the locks of the profile count for its own database, and nothing is written while they can't be known
pub record IsPlacedSafely (k : ServedKnown) : Type 0 where
  pub locked : k.has_same_file ≡ true → served_after 6 k ≢ Alone
  pub unknown : k.is_profile_open ≡ false → served_after 6 k ≡ Failed
  pub others : served_after 6 k ≡ Profiles → k.has_same_file ≡ true
  -- one by itself has a profile that says so: what is there stays only if it does
  pub profile : served_after 15 k ≡ PassedOver → k.has_profile ≡ true
  -- nothing is written to what can't be opened
  pub opened : served_after 18 k ≡ GoesOn → k.is_open ≡ true

abbrev pub LocksCountWhereTheyAreKnown : Type 0
LocksCountWhereTheyAreKnown = (k : ServedKnown) → IsPlacedSafely k

-- each set that was sent is made, or what keeps it from that is known
pub record CountsAsSent (k : ServedKnown) : Type 0 where
  -- a path's is made, or left out, which is told
  pub path : is_path k ≡ true → served_after 9 k ≢ PassedOver
  pub made : served_after 9 k ≡ GoesOn → (is_path k ≡ true) × (k.is_short ≡ true)
  -- no value is set at a directory
  pub key : served_after 9 k ≡ GoesOn → k.sets ≡ true → k.kind ≡ 0
  -- it is read as it was sent only if the library reads it so
  pub form : served_after 17 k ≡ GoesOn → (k.is_normal ≡ true) × (k.is_turned ≡ false)
  -- a set stays unless a later one has its path
  pub set : k.sets ≡ true → k.is_again ≡ false → served_after 10 k ≡ GoesOn
  -- what is passed over is a reset that a directory's stands for
  pub covered : served_after 10 k ≡ PassedOver → (k.is_covered ≡ true) × (k.sets ≡ false)
  -- of each path there is one
  pub once : k.is_again ≡ true → served_after 10 k ≡ Replaces
  -- no site's database is told of
  pub own : served_after 11 k ≡ GoesOn → (k.is_users ≡ true) × (k.is_first ≡ true)

abbrev pub WhatIsSentCounts : Type 0
WhatIsSentCounts = (k : ServedKnown) → CountsAsSent k

-- what is written is told, edit by edit
pub record IsToldAsMade (k : ServedKnown) : Type 0 where
  pub made : served_after 12 k ≡ GoesOn → (k.is_written ≡ true) × (k.is_unmade ≡ false)
  pub left_out : k.is_written ≡ true → k.is_unmade ≡ true → served_after 12 k ≡ LeftOut
  pub unwritten : k.is_written ≡ false → served_after 12 k ≡ PassedOver
  -- what can't be made takes nothing with it
  pub alone : served_after 13 k ≡ Alone

abbrev pub WhatIsMadeIsTold : Type 0
WhatIsMadeIsTold = (k : ServedKnown) → IsToldAsMade k

-- whoever takes it, it is made behind what came before it, and is refused for the same
pub record KeepsItsPlace (k : ServedKnown) : Type 0 where
  pub behind : k.is_behind ≡ true → served_after 14 k ≡ Later
  pub ends : k.ends ≡ true → served_after 14 k ≡ Later
  pub noted : k.is_noted ≡ true → served_after 14 k ≡ Later
  pub used : k.is_used ≡ false → served_after 14 k ≡ Later
  pub fits : served_after 14 k ≡ GoesOn → came k ≡ GoesOn

abbrev pub WhatCameFirstIsFirst : Type 0
WhatCameFirstIsFirst = (k : ServedKnown) → KeepsItsPlace k

-- what nobody asked for isn't said
pub record IsAsked (k : ServedKnown) : Type 0 where
  -- an answer is kept back only from who wants none
  pub answer : served_after 19 k ≡ PassedOver → k.wants_none ≡ true
  pub wanted : k.wants_none ≡ true → served_after 19 k ≡ PassedOver
  -- calls are noted only if the environment asks for it
  pub noted : served_after 20 k ≡ GoesOn → k.is_noted ≡ true

abbrev pub WhatIsAskedIsSaid : Type 0
WhatIsAskedIsSaid = (k : ServedKnown) → IsAsked k
