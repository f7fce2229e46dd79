-- Which step a turn is at, in which order the steps come, and when the turn to change files is held.
use Rattle.std.specs.Prelude.{ℕ, ◌≡◌, ◌⊎◌, ◌+◌, ◌-◌, ◌<◌, ◌≤◌, Bool, true, false, Option, Some, None, bit_or}
use Rattle.dconf_turn.specs.declared.turn.Turn.{Turn}
use Rattle.dconf_turn.specs.declared.turn.State.{State}
use Rattle.dconf_turn.specs.declared.turn.State.TheVariants.{Locking, Reading, Making, Creating, Writing, Syncing, SettingAside, Exchanging, Renaming, SyncingFolder, Removing, Settling, Noting, Unlocking, Over}
use Rattle.dconf_turn.specs.declared.step.Step.{Step}
use Rattle.dconf_turn.specs.declared.step.Step.TheVariants.{Lock, Read, Make, Create, Append, Sync, SetAside, Exchange, Rename, SyncFolder, Remove, Settle, Note, Unlock, Done}
use Rattle.dconf_turn.specs.declared.step.Outcome.{Outcome}
use Rattle.dconf_turn.specs.declared.step.Outcome.TheVariants.{Made, Kept, Either, Unsettled, Same, Unsynced}
use Rattle.dconf_turn.specs.declared.step.Answer.{Answer}
use Rattle.dconf_turn.specs.declared.step.Answer.TheVariants.{Yes, No}

-- A new file that is to take another's place is open to nobody but its owner and whom that one is open to.
abbrev pub open_mode : Option ℕ → ℕ
open_mode None = 438
open_mode (Some bits) = bit_or bits 384

-- What the answer to a read says: the permission bits, and whether the old file is to be set aside. Any greater number is that of
-- no file.
pub record IsRead (n : ℕ) (bits : Option ℕ) (keeps : Bool) : Type 0 where
  pub file : n < 512 → (bits ≡ Some n) × (keeps ≡ false)
  pub aside : 511 < n → n < 1024 → (bits ≡ Some (n - 512)) × (keeps ≡ true)
  pub absent : 1023 < n → (bits ≡ None) × (keeps ≡ false)

-- what a turn knows of the old file after an answer
abbrev pub KnowsAfter : Step → Answer → Turn → Turn → Type 0
KnowsAfter Read (Yes n) t u = IsRead n u.bits u.keeps
KnowsAfter step answer t u = (u.bits ≡ t.bits) × (u.keeps ≡ t.keeps)

-- the host could not remove the new file
abbrev pub IsRefusal : Step → Answer → Type 0
IsRefusal Remove (No fault) = Unit {0}
IsRefusal step answer = ⊥

-- the host asked for the old file to be set aside
abbrev pub IsAsked : Step → Answer → Type 0
IsAsked Read (Yes n) = (511 < n) × (n < 1024)
IsAsked step answer = ⊥

-- What is said after an answer: the first fault, and how far it came then.
abbrev pub IsSaid : Step → Answer → Outcome → Outcome → Type 0
IsSaid (Append at) (Yes n) before said = (said ≡ before) ⊎ (said ≡ Kept 0)
IsSaid SyncFolder (Yes n) before said = said ≡ Made
IsSaid SyncFolder (No fault) before said = said ≡ Unsettled fault
IsSaid Exchange (No fault) before said = said ≡ Either fault
IsSaid Rename (No fault) before said = said ≡ Either fault
IsSaid Remove answer before said = said ≡ before
IsSaid Settle (Yes n) before said = said ≡ Same
IsSaid Settle (No fault) before said = said ≡ Unsynced fault
IsSaid Note answer before said = said ≡ before
IsSaid Unlock answer before said = said ≡ before
IsSaid (Done outcome) answer before said = said ≡ before
IsSaid step (Yes n) before said = said ≡ before
IsSaid step (No fault) before said = said ≡ Kept fault

abbrev pub step_at : State → Turn → Step
step_at Locking t = Lock
step_at Reading t = Read
step_at Making t = Make
step_at Creating t = Create (open_mode t.bits)
step_at Writing t = Append t.at
step_at Syncing t = Sync t.bits
step_at SettingAside t = SetAside
step_at Exchanging t = Exchange
step_at Renaming t = Rename
step_at SyncingFolder t = SyncFolder
step_at Removing t = Remove
step_at Settling t = Settle
step_at Noting t = Note
step_at Unlocking t = Unlock
step_at Over t = Done t.outcome

abbrev pub step_of : Turn → Step
step_of t = step_at t.state t

-- ---- in which order

abbrev pub place : Step → ℕ
place Lock = 0
place Read = 1
place Make = 2
place (Create mode) = 3
place (Append at) = 4
place (Sync bits) = 5
place SetAside = 6
place Exchange = 7
place Rename = 8
place SyncFolder = 9
place Remove = 10
place Settle = 11
place Note = 12
place Unlock = 13
place (Done outcome) = 14

-- A later step follows, or an append of a later byte; the end stays.
abbrev pub Follows : Step → Step → Type 0
Follows (Append at) (Append next) = at < next
Follows (Done outcome) next = next ≡ Done outcome
Follows step next = place step < place next

-- After an append of n bytes from one on, of so many: the sync where that was all, the next byte where it was some, and else what
-- ends the turn.
pub record GoesOnWriting (len at n : ℕ) (next : Step) : Type 0 where
  pub whole : at + n ≡ len → place next ≡ 5
  pub part : 0 < n → at + n < len → place next ≡ 4
  pub any : (place next ≡ 4) ⊎ ((place next ≡ 5) ⊎ (10 ≤ place next))

-- the number of the fault that says that the file is to stay as it is
abbrev pub nothing_to_make : ℕ
nothing_to_make = 4294967295

-- Where a step was done, its own next one follows. Where it failed, only what ends the turn follows; and where the file is to stay as
-- it is, that is brought to the disk.
abbrev pub GoesOn : Turn → Step → Answer → Step → Type 0
GoesOn t Lock (Yes n) next = next ≡ Read
GoesOn t Read (Yes n) next = next ≡ Make
GoesOn t Make (Yes n) next = place next ≡ 3
GoesOn t Make (No fault) next = (10 ≤ place next) × (fault ≡ nothing_to_make → next ≡ Settle)
GoesOn t (Create mode) (Yes n) next = next ≡ Append 0
GoesOn t (Append at) (Yes n) next = GoesOnWriting t.len at n next
GoesOn t (Sync bits) (Yes n) next = (t.keeps ≡ false → next ≡ Rename) × (t.keeps ≡ true → next ≡ SetAside)
GoesOn t SetAside (Yes n) next = (n ≡ 0 → next ≡ Rename) × (0 < n → next ≡ Exchange)
GoesOn t Exchange (Yes n) next = next ≡ SyncFolder
GoesOn t Rename (Yes n) next = next ≡ SyncFolder
GoesOn t SyncFolder answer next = next ≡ Note
GoesOn t Settle answer next = next ≡ Note
GoesOn t step answer next = 10 ≤ place next

abbrev pub IsYes : Answer → Type 0
IsYes (Yes n) = Unit {0}
IsYes (No fault) = ⊥

-- A fault for which a turn gives up, of a file of so many bytes. A note or a removal that failed is none.
abbrev pub IsFault : ℕ → Step → Answer → Type 0
IsFault size (Append at) (Yes n) = ((n ≡ 0) × (at < size)) ⊎ (size < at + n)
IsFault size step (Yes n) = ⊥
IsFault size Remove (No fault) = ⊥
IsFault size Note (No fault) = ⊥
IsFault size Unlock (No fault) = ⊥
IsFault size (Done outcome) (No fault) = ⊥
IsFault size step (No fault) = Unit {0}

-- ---- while the lock is held

abbrev pub IsDone : Step → Type 0
IsDone (Done outcome) = Unit {0}
IsDone _ = ⊥

-- It ends where the lock was not had, or was given back, and nowhere else.
abbrev pub EndsWell : Step → Answer → Step → Type 0
EndsWell Lock (No fault) next = IsDone next
EndsWell Unlock answer next = IsDone next
EndsWell (Done outcome) answer next = IsDone next
EndsWell step answer next = ¬ IsDone next

-- ---- how many are left, of a file of so many bytes

abbrev pub left_at : State → Turn → ℕ → ℕ
left_at Locking t size = 11 + size
left_at Reading t size = 10 + size
left_at Making t size = 9 + size
left_at Creating t size = 8 + size
left_at Writing t size = 7 + (size - t.at)
left_at Syncing t size = 6
left_at SettingAside t size = 5
left_at Exchanging t size = 4
left_at Renaming t size = 4
left_at SyncingFolder t size = 3
left_at Removing t size = 2
left_at Settling t size = 3
left_at Noting t size = 2
left_at Unlocking t size = 1
left_at Over t size = 0

abbrev pub steps_left : Turn → ℕ → ℕ
steps_left t size = left_at t.state t size
