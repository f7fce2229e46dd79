-- What becomes of a change that waits.
use Rattle.std.specs.Prelude.{ℕ, ◌+◌, ◌≡◌, Bool, ◌&&◌, ◌||◌, if◌then◌else◌, ◌==◌, nat_lt, min, List, filter, map}
use Rattle.dconf_waiting.specs.declared.fate.Fate.{Fate}
use Rattle.dconf_waiting.specs.declared.fate.Fate.TheVariants.{Waits, Written, Refused, Overtaken}
use Rattle.dconf_waiting.specs.declared.fate.WaitingEdit.{WaitingEdit}
use Rattle.dconf_waiting.specs.declared.fate.Waiter.{Waiter}
use Rattle.dconf_waiting.specs.declared.line.Tally.{Tally}
use Rattle.std.specs.List.{count_by}
use Rattle.std.specs.List.Sorted.{IsNonDecreasingBy, IsPermutation}

-- both are alone in their changes, and the newest edit of the key is another one
abbrev pub is_overtaken : WaitingEdit → WaitingEdit → Bool
is_overtaken edit newest = edit.is_alone && (newest.is_alone && nat_lt edit.number newest.number)

-- it was written with all that was tried; or it was there already, which nobody knew when it was set
abbrev pub is_made : Bool → Waiter → Bool
is_made is_written w = (w.is_tried && is_written) || (w.asks && w.is_there)

abbrev pub fate_of : Bool → Waiter → Fate
fate_of is_written w =
    if w.is_refused then Refused else if is_made is_written w then Written else
    if w.is_tried && is_overtaken w.edit w.newest then Overtaken else Waits

abbrev pub fate_number : Fate → ℕ
fate_number Waits = 0
fate_number Written = 1
fate_number Refused = 2
fate_number Overtaken = 3

-- ---- the line

-- what became of it is written to it
abbrev pub marked : Bool → Waiter → Waiter
marked is_written w = record w { fate = fate_number (fate_of is_written w) }

-- it goes on waiting
abbrev pub waits : Waiter → Bool
waits w = w.fate == 0

-- each was set no later than those behind it
abbrev pub IsInTurn : List Waiter → Type 0
IsInTurn = IsNonDecreasingBy (λ w. w.set)

-- Those of a line that go on waiting, in the order in which they were set.
pub record IsStillWaiting (is_written : Bool) (line now : List Waiter) : Type 0 where
  pub turns : List Waiter
  pub all : IsPermutation line turns
  pub in_turn : IsInTurn turns
  pub still : now ≡ filter waits (map (marked is_written) turns)

-- ---- how many are settled

-- a count of 64 bits, and so many more
abbrev pub more : ℕ → ℕ → ℕ
more count by = min (count + by) 18446744073709551615

abbrev pub has_fate : ℕ → Waiter → Bool
has_fate fate w = w.fate == fate

abbrev pub so_many : ℕ → List Waiter → ℕ
so_many fate line = count_by (has_fate fate) line

-- What is written, refused or there already is settled; what is overtaken, once what was tried is written: then no older one of its key waits.
abbrev pub tallied : Bool → List Waiter → Tally → Tally
tallied is_written line t =
    if is_written then record { settled = more (more (more (more t.settled (so_many 1 line)) (so_many 2 line)) t.overtaken) (so_many 3 line); overtaken = 0 } else
    record { settled = more (more t.settled (so_many 1 line)) (so_many 2 line); overtaken = more t.overtaken (so_many 3 line) }
