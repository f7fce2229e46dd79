use Rattle.std.proofs.Common.{◌≡◌, ◌⊎◌, ◌-◌, ◌<◌, ◌≤◌, ℕ, true, false}
use Rattle.dconf_times.specs.Room.{has_room_since}
use Rattle.dconf_times.proofs.room.least.Given as goal

-- there is no room for those since before `low`, and there is for those since `high`
abbrev pub invariant-loop-low : goal.invariant-loop-low
invariant-loop-low l = record {
  order : l.low ≤ l.high;
  least : (sooner : ℕ) → sooner < l.low → has_room_since l.most l.most_bytes l.notes sooner ≡ false;
  room : (has_room_since l.most l.most_bytes l.notes l.high ≡ true) ⊎ (l.high ≡ 0xffff_ffff_ffff_ffff);
}

abbrev pub decreases-loop-low : goal.decreases-loop-low
decreases-loop-low l = l.high - l.low
