-- A folder may come between the look at its name and the watch there. So the names are gone through in rounds, until one finds nothing more to watch, or there
-- were 64.
use Rattle.std.specs.Prelude.{◌≡◌, ◌≤◌, ℕ, ◌+◌, Bool, true, false, ◌&&◌, ◌||◌, nat_lt, if◌then◌else◌}
use Rattle.dconf_watches.specs.declared.rounds.AfterRound.{AfterRound}
use Rattle.dconf_watches.specs.declared.rounds.AfterRound.TheVariants.{Again, Whole, Partly}
use Rattle.dconf_watches.specs.declared.rounds.Sight.{Sight}
use Rattle.dconf_watches.specs.declared.rounds.Sight.TheVariants.{Known, New, Missed, Spared}
use Rattle.dconf_watches.specs.declared.rounds.WatchRounds.{WatchRounds}

-- how many rounds there were, and of the last one whether it missed something that is needed, and whether it found more to watch
pub record Rounds : Type 0 where
  pub count : ℕ
  pub missed : Bool
  pub more : Bool

abbrev pub rounds_of : WatchRounds → Rounds
rounds_of it = record { count = it.count; missed = it.missed; more = it.more }

-- before the first
abbrev pub no_rounds : Rounds
no_rounds = record { count = 0; missed = false; more = false }

abbrev pub most_rounds : ℕ
most_rounds = 64

-- a new one begins
abbrev pub begun : Rounds → Rounds
begun r = record { count = if nat_lt r.count most_rounds then r.count + 1 else r.count; missed = false; more = false }

-- a name was gone through
abbrev pub gone_through : Rounds → Sight → Rounds
gone_through r Known = r
gone_through r New = record { count = r.count; missed = r.missed; more = true }
gone_through r Missed = record { count = r.count; missed = true; more = r.more }
gone_through r Spared = r

-- Where that never ends, not all is watched.
abbrev pub after_round : Rounds → AfterRound
after_round r = if r.more && nat_lt r.count most_rounds then Again else if r.more || r.missed then Partly else Whole

-- what became of a name, by whether it is watched as before, whether it could be watched, and whether something would be missed without it
abbrev pub sight_of : Bool → Bool → Bool → Sight
sight_of is_known is_had is_needed = if is_known then Known else if is_had then New else if is_needed then Missed else Spared

-- ---- the law

-- all is watched only where the last round missed nothing that is needed, and found nothing more; and 64 rounds are enough
pub record RoundsTell (r : Rounds) : Type 0 where
  pub whole : after_round r ≡ Whole → (r.missed ≡ false) × (r.more ≡ false)
  pub ends : most_rounds ≤ r.count → after_round r ≡ Again → ⊥

abbrev pub RoundsEnd : Type 0
RoundsEnd = (r : Rounds) → RoundsTell r

-- ---- numbers

abbrev pub after_number : AfterRound → ℕ
after_number Again = 0
after_number Whole = 1
after_number Partly = 2
