-- What is said of a fault while it lasts.
use Rattle.std.specs.Prelude.{ℕ, ◌≡◌, Bool, true, false, not, ◌&&◌, ◌||◌, if◌then◌else◌, nat_le}
use Rattle.dconf_waiting.specs.declared.failing.Failing.{Failing}
use Rattle.dconf_waiting.specs.declared.failing.FaultSeen.{FaultSeen}
use Rattle.dconf_waiting.specs.declared.failing.Word.{Word}
use Rattle.dconf_waiting.specs.declared.failing.Word.TheVariants.{Nothing, Say, Said, Over}
use Rattle.dconf_waiting.specs.Dues.{next_pause}
use Rattle.dconf_waiting.specs.Patiences.{later_by}

-- from when on a fault lasts: ten seconds, if it is mostly so for a moment; and else a second and a half
abbrev pub longest : Bool → ℕ
longest true = 10000000
longest false = 1500000

-- after so many tries
abbrev pub no_fault : ℕ → Failing
no_fault tries = record { since = 0; pause = 0; again = 0; due = 0; tries = tries; failed = 0; is_there = false; is_said = false }

abbrev pub since_of : Failing → ℕ → ℕ
since_of f now = if f.is_there then f.since else now

-- nobody tries again of themselves, or it is there for so long
abbrev pub lasts : Failing → Bool → Bool → ℕ → Bool
lasts f is_momentary tries_again now = not tries_again || nat_le (later_by (since_of f now) (longest is_momentary)) now

abbrev pub word_of : Failing → Bool → Bool → Bool → ℕ → Word
word_of f is_there is_momentary tries_again now =
    if not is_there then (if f.is_there then Over else Nothing) else
    if not (lasts f is_momentary tries_again now) then Nothing else if f.is_said then Said else Say

abbrev pub is_said_after : Failing → Bool → Bool → ℕ → Bool
is_said_after f is_momentary tries_again now = f.is_said || lasts f is_momentary tries_again now

-- when it will be said, if it is there then; of what was said, 0
abbrev pub due_after : Failing → Bool → Bool → ℕ → ℕ
due_after f is_momentary tries_again now =
    if is_said_after f is_momentary tries_again now then 0 else later_by (since_of f now) (longest is_momentary)

-- this try has failed by a fault that lasts, or an older one has
abbrev pub failed_after : Failing → Bool → Bool → ℕ → ℕ
failed_after f is_momentary tries_again now = if lasts f is_momentary tries_again now then f.tries else f.failed

abbrev pub failing_after : Failing → Bool → Bool → Bool → ℕ → Failing
failing_after f is_there is_momentary tries_again now =
    if not is_there then no_fault f.tries else
    record {
      since = since_of f now;
      pause = next_pause f.pause;
      again = later_by now (next_pause f.pause);
      due = due_after f is_momentary tries_again now;
      tries = f.tries;
      failed = failed_after f is_momentary tries_again now;
      is_there = true;
      is_said = is_said_after f is_momentary tries_again now;
    }

-- it was met; or a look failed by it, and none was made since, whatever was written
abbrev pub is_still_there : FaultSeen → Bool
is_still_there s = s.is_met || (s.is_of_look && not s.has_looked)

-- a look that fails by what mostly is so for a moment may succeed when it is repeated; any other fault of one is said at once
abbrev pub is_awaited : Bool → Bool → Bool
is_awaited is_momentary is_repeated = is_momentary && is_repeated

-- for the next try; or, who is woken for that, when it will be said
abbrev pub wakes : Failing → Bool → ℕ
wakes f is_woken = if is_woken then f.due else f.again

abbrev pub word_number : Word → ℕ
word_number Nothing = 0
word_number Say = 1
word_number Said = 2
word_number Over = 3

-- ---- the law

abbrev pub is_word : Word → Bool
is_word Say = true
is_word Said = true
is_word _ = false

pub record IsSaidOnce (f : Failing) (is_there is_momentary tries_again : Bool) (now : ℕ) : Type 0 where
  -- what lasts is said now, or was
  pub minded : is_word (word_of f is_there is_momentary tries_again now) ≡ (is_there && lasts f is_momentary tries_again now)
  -- what is said now was not said before, and is remembered
  pub once : word_of f is_there is_momentary tries_again now ≡ Say
      → (f.is_said ≡ false) × ((failing_after f is_there is_momentary tries_again now).is_said ≡ true)
  -- as long as it is there
  pub kept : f.is_said ≡ true → is_there ≡ true → (failing_after f is_there is_momentary tries_again now).is_said ≡ true
  -- and no longer
  pub over : is_there ≡ false → failing_after f is_there is_momentary tries_again now ≡ no_fault f.tries
  -- a try that fails by what lasts is known as such
  pub failed : is_there ≡ true → lasts f is_momentary tries_again now ≡ true → (failing_after f is_there is_momentary tries_again now).failed ≡ f.tries
  -- until it is said whoever is woken for the next try wakes in time to say it, too
  pub woken : is_there ≡ true → is_said_after f is_momentary tries_again now ≡ false
      → lasts (failing_after f is_there is_momentary tries_again now) is_momentary tries_again (wakes (failing_after f is_there is_momentary tries_again now) true) ≡ true
  -- as when it will last is known until then
  pub due : is_there ≡ true → is_said_after f is_momentary tries_again now ≡ false
      → lasts (failing_after f is_there is_momentary tries_again now) is_momentary tries_again (failing_after f is_there is_momentary tries_again now).due ≡ true

abbrev pub EachFaultIsSaidOnce : Type 0
EachFaultIsSaidOnce = (f : Failing) (is_there is_momentary tries_again : Bool) (now : ℕ) → IsSaidOnce f is_there is_momentary tries_again now
