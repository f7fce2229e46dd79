-- What becomes of a change whose caller waits for it. dconf's "dconf_client_change_sync".
use Rattle.std.specs.Prelude.{ℕ, zero, suc, ◌≡◌, Bool, true, false, not, ◌&&◌, ◌||◌, if◌then◌else◌, ◌==◌, ◌<◌, nat_lt}
use Rattle.dconf_changesets.specs.declared.making.ChangeKnown.{ChangeKnown}
use Rattle.dconf_changesets.specs.declared.making.Tried.{Tried}
use Rattle.dconf_changesets.specs.declared.making.TriedAsk.{TriedAsk}
use Rattle.dconf_changesets.specs.declared.making.TriedAsk.TheVariants as asking
use Rattle.dconf_changesets.specs.declared.making.ChangeTask.{ChangeTask}
use Rattle.dconf_changesets.specs.declared.making.ChangeTask.TheVariants.{Before, Settle, Put, Others, Tell, GiveUp, Made, Refused, Failed}

-- there is a user's database that it could be put into
abbrev pub has_place : ChangeKnown → Bool
has_place k = k.has_store && k.has_user

-- a store without one takes no change, not even a reset
abbrev pub closed_by : ChangeKnown → ChangeTask
closed_by k = if k.has_store then Refused else Failed

-- without a store nobody knows what may be written, and it fails by why there is none
abbrev pub refuses : ChangeKnown → Bool
refuses k = k.has_store && k.is_refused

abbrev pub begins_with : ChangeKnown → ChangeTask
begins_with k = if k.is_empty then Made else if refuses k then Refused else Before

-- what dconf says of the fault by which it was not made
abbrev pub fails_by : ChangeKnown → ChangeTask
fails_by k = if k.is_barred then Refused else Failed

-- What was asked for before is not written: a key of that may be locked, which is nothing that is said of this one.
abbrev pub stopped_by : ChangeKnown → ChangeTask
stopped_by k = if has_place k then Failed else closed_by k

-- there is no place for it, or it failed
abbrev pub given_up : ChangeKnown → ChangeTask
given_up k = if has_place k then fails_by k else closed_by k

-- unless all is there, and on the disk
abbrev pub puts : ℕ → Bool → ChangeKnown → Bool
puts done is_so k = k.is_left && not (done == 2 && is_so)

abbrev pub tells : ChangeKnown → Bool
tells k = k.is_news && k.is_watched

-- once the first tasks were done, or were not due; and by the answer to the last one
abbrev pub change_after : ℕ → Bool → ChangeKnown → ChangeTask
change_after done is_so k =
    if nat_lt done 1 then begins_with k else if done == 1 && not is_so then stopped_by k else if done == 6 then given_up k else
    if (done == 3 && not is_so) || (nat_lt done 2 && not (has_place k)) then GiveUp else
    if nat_lt done 2 && k.is_there then Settle else if nat_lt done 3 && puts done is_so k then Put else
    if nat_lt done 4 then Others else if nat_lt done 5 && tells k then Tell else Made

abbrev pub change_number : ChangeTask → ℕ
change_number Before = 1
change_number Settle = 2
change_number Put = 3
change_number Others = 4
change_number Tell = 5
change_number GiveUp = 6
change_number Made = 7
change_number Refused = 8
change_number Failed = 9

-- ---- the laws

-- what each task answers
pub record Answers : Type 0 where
  pub before : Bool
  pub settled : Bool
  pub put : Bool

abbrev pub answer_to : Answers → ChangeTask → Bool
answer_to a Before = a.before
answer_to a Settle = a.settled
answer_to a Put = a.put
answer_to a Others = true
answer_to a Tell = true
answer_to a GiveUp = true
answer_to a Made = true
answer_to a Refused = true
answer_to a Failed = true

abbrev pub is_said : ChangeTask → Bool
is_said Made = true
is_said Refused = true
is_said Failed = true
is_said _ = false

-- one after another, each with its answer
abbrev pub goes_on : ℕ → Answers → ChangeKnown → ChangeTask → ChangeTask
goes_on zero a k task = task
goes_on (suc n) a k task = if is_said task then task else goes_on n a k (change_after (change_number task) (answer_to a task) k)

-- what is said at last: there are five tasks at most
abbrev pub said_at_last : Answers → ChangeKnown → ChangeTask
said_at_last a k = goes_on 5 a k (change_after 0 true k)

-- what it asks for is on the disk
abbrev pub is_made : Answers → ChangeKnown → Bool
is_made a k = has_place k && ((k.is_there && a.settled) || (not k.is_left || a.put))

-- It is made exactly if all of it is on the disk, after what was asked for before it; and else dconf says why: it is refused where a key of it
-- may not be written, or nothing may.
abbrev pub MadeMeansOnTheDisk : Type 0
MadeMeansOnTheDisk =
    (a : Answers) (k : ChangeKnown) →
    said_at_last a k ≡ (if k.is_empty then Made else if refuses k then Refused else if not a.before then stopped_by k else
    if not (has_place k) then closed_by k else if is_made a k then Made else fails_by k)

-- what the change says is there, or was never put
abbrev pub is_put : ChangeTask → Bool → Bool
is_put Put is_so = is_so
is_put _ is_so = true

-- by then what others changed is told, or nothing was begun
abbrev pub has_told : ChangeTask → Bool → Bool
has_told Before is_so = not is_so
has_told Settle is_so = false
has_told Put is_so = false
has_told _ is_so = true

-- What others changed is told before what is new, and before it is over; and what the change says is left out of that only where it is put.
pub record IsToldInOrder (task : ChangeTask) (is_so : Bool) (k : ChangeKnown) : Type 0 where
  pub new : change_after (change_number task) is_so k ≡ Tell → task ≡ Others
  pub own : change_after (change_number task) is_so k ≡ Others → is_put task is_so ≡ true
  pub over : is_said (change_after (change_number task) is_so k) ≡ true → has_told task is_so ≡ true

abbrev pub OthersAreToldFirst : Type 0
OthersAreToldFirst = (task : ChangeTask) (is_so : Bool) (k : ChangeKnown) → IsToldInOrder task is_so k

-- ---- what is told again

-- it is refused or left out, or others have set its path since
abbrev pub is_unmade : Tried → Bool
is_unmade t = t.is_refused || (t.is_left_out || (t.is_written && not (t.is_now || (t.is_again || t.is_there))))

-- Of an edit that was tried, and isn't told again, all is so, or a later one that was tried with it is told of instead, or it goes on waiting.
pub record IsSo (t : Tried) : Type 0 where
  pub refused : t.is_refused ≡ false
  pub left : t.is_left_out ≡ false
  pub made : t.is_written ≡ true → (t.is_now || (t.is_again || t.is_there)) ≡ true

abbrev pub WhatIsLostIsToldAgain : Type 0
WhatIsLostIsToldAgain = (t : Tried) → is_unmade t ≡ false → IsSo t

-- what is asked of it: the first question that counts, once so many were asked or passed over. None counts of what is not written, or refused, or left
-- out, or made now, or said again
abbrev pub is_enough : Tried → Bool
is_enough t = not t.is_written || (t.is_refused || (t.is_left_out || (t.is_now || t.is_again)))

abbrev pub tried_asks : ℕ → Tried → TriedAsk
tried_asks done t =
    if is_enough t then asking.Nothing else if done == 0 then asking.Again else if done == 1 then asking.Above else
    if done == 2 then asking.There else asking.Nothing

abbrev pub tried_number : TriedAsk → ℕ
tried_number asking.Nothing = 0
tried_number asking.Again = 1
tried_number asking.Above = 2
tried_number asking.There = 3

-- What isn't asked doesn't count: whatever the answers were, it is made or not as without them. And as long as one counts it is asked.
pub record IsAskedEnough (t : Tried) : Type 0 where
  pub spared : (done : ℕ) → done < 3 → tried_asks done t ≡ asking.Nothing → (again there : Bool) →
      is_unmade (record t { is_again = t.is_again || again; is_there = t.is_there || there }) ≡ is_unmade t
  pub again : is_enough t ≡ false → tried_asks 0 t ≡ asking.Again
  pub above : is_enough t ≡ false → tried_asks 1 t ≡ asking.Above
  pub there : is_enough t ≡ false → tried_asks 2 t ≡ asking.There
  pub over : tried_asks 3 t ≡ asking.Nothing

abbrev pub WhatIsNotAskedDoesNotCount : Type 0
WhatIsNotAskedDoesNotCount = (t : Tried) → IsAskedEnough t

-- ---- what goes on waiting

-- What was tried of a path, and isn't unmade, waits again, unless something newer is asked for there.
abbrev pub waits_again : Bool → Bool → Bool
waits_again is_unmade is_newer = not (is_unmade || is_newer)
