-- What holds of changes that wait, whatever comes.
use Rattle.std.specs.Prelude.{ℕ, ◌≡◌, ◌≢◌, ◌↔◌, ◌+◌, ◌≤◌, ◌<◌, Bool, true, false, ◌&&◌, filter, map, List, [], ◌∷◌, ◌++◌, length, replicate, if◌then◌else◌, ◌==◌}
use Rattle.std.specs.List.{AllByRecursion}
use Rattle.dconf_waiting.specs.declared.fate.Fate.TheVariants.{Waits, Written, Refused, Overtaken}
use Rattle.dconf_waiting.specs.declared.fate.Waiter.{Waiter}
use Rattle.dconf_files.specs.declared.stamp.FileTime.{FileTime}
use Rattle.dconf_waiting.specs.declared.patience.Patience.{Patience}
use Rattle.dconf_waiting.specs.Newest.{found, IsPut}
use Rattle.dconf_waiting.specs.declared.line.Tally.{Tally}
use Rattle.dconf_waiting.specs.Fates.{IsInTurn, IsStillWaiting, fate_of, is_made, is_overtaken, marked, tallied, waits}
use Rattle.dconf_waiting.specs.Patiences.{renewed_by, unbegun}

-- ---- the newest edit of a key

-- an edit that was put, and which one was said to be before it
pub record Put : Type 0 where
  pub key : ℕ
  pub number : ℕ
  pub before : ℕ

-- one after another, the oldest first
abbrev pub RanPuts : List Put → List ℕ → List ℕ → Type 0
RanPuts [] newest after = after ≡ newest
RanPuts (p ∷ more) newest after = (next : List ℕ) × IsPut newest p.key p.number next p.before × RanPuts more next after

-- the number of the last edit of a key; of none the one that is given
abbrev pub last_of : ℕ → List Put → ℕ → ℕ
last_of key [] none = none
last_of key (p ∷ more) none = last_of key more (if p.key == key then p.number else none)

pub record IsGoodTable (puts : List Put) (after : List ℕ) : Type 0 where
  -- what is found of a key is the last edit of it
  pub newest : (key : ℕ) → key < length after → found after key ≡ last_of key puts 0
  -- and each edit says which one is found if it goes: the last one before it
  pub uncovers : (first rest : List Put) (p : Put) → puts ≡ first ++ p ∷ rest → p.key < length after → AllByRecursion (λ later. later.key ≢ p.key) rest
      → p.before ≡ last_of p.key (first ++ rest) 0

abbrev pub TheNewestIsFound : Type 0
TheNewestIsFound = (count : ℕ) (puts : List Put) (after : List ℕ) → RanPuts puts (replicate count 0) after → IsGoodTable puts after

-- ---- what becomes of a change

pub record IsGoodFate (is_written : Bool) (w : Waiter) : Type 0 where
  -- it is written with all that was tried and isn't refused, or it is there
  pub written : (fate_of is_written w ≡ Written) ↔ ((is_made is_written w ≡ true) × (w.is_refused ≡ false))
  pub refused : (fate_of is_written w ≡ Refused) ↔ (w.is_refused ≡ true)
  -- it goes unwritten only where a later one is there, which is alone, too: that one sets its key, and is not overtaken itself
  pub overtaken : fate_of is_written w ≡ Overtaken
      → (w.edit.number < w.newest.number) × (w.edit.is_alone ≡ true) × (w.newest.is_alone ≡ true) × (is_overtaken w.newest w.newest ≡ false)
  -- whether it is there counts only where nobody knew that when it was set
  pub there : (is_there : Bool) → w.asks ≡ false → fate_of is_written (record w { is_there = is_there }) ≡ fate_of is_written w
  -- nothing is overtaken that nobody tried to write
  pub untried : w.is_tried ≡ false → w.is_refused ≡ false → (w.asks && w.is_there) ≡ false → fate_of is_written w ≡ Waits
  -- the newest of a key waits until it is written or refused
  pub stays : is_made is_written w ≡ false → w.is_refused ≡ false → w.newest.number ≤ w.edit.number → fate_of is_written w ≡ Waits

abbrev pub NothingIsLost : Type 0
NothingIsLost = (is_written : Bool) (w : Waiter) → IsGoodFate is_written w

-- ---- in which order they wait

-- Wherever they stood, those that go on waiting are in the order in which they were set.
abbrev pub WhatWaitsIsInOrder : Type 0
WhatWaitsIsInOrder = (is_written : Bool) (line now : List Waiter) → IsStillWaiting is_written line now → IsInTurn now

-- ---- how many are settled

-- so many were in line once
abbrev pub all_of : Tally → ℕ → ℕ
all_of t waiting = t.settled + (t.overtaken + waiting)

-- Each change of a line waits, or is counted, once: a count of 64 bits is enough.
abbrev pub EachIsCountedOnce : Type 0
EachIsCountedOnce =
    (is_written : Bool) (line : List Waiter) (t : Tally) → all_of t (length line) < 18446744073709551616 →
    let marked_line : List Waiter = map (marked is_written) line in
    all_of (tallied is_written marked_line t) (length (filter waits marked_line)) ≡ all_of t (length line)

-- ---- how long somebody waits

-- what was seen of the folder, and when
pub record Sight : Type 0 where
  pub changed : FileTime
  pub now : ℕ

-- it began with the first of these, and others may have had turns before the others
abbrev pub patience_after : List Sight → Patience → Patience
patience_after [] p = p
patience_after (s ∷ more) p = patience_after more (renewed_by p s.changed s.now)

abbrev pub EveryWaitEnds : Type 0
EveryWaitEnds = (began : Sight) (each : ℕ) (sights : List Sight) → (patience_after (began ∷ sights) (unbegun each)).end ≤ began.now + 60000000
