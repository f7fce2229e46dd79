-- Every wait ends: no turn of another program moves its end beyond the minute.
use Rattle.std.proofs.Common.{ℕ, ◌≡◌, ◌+◌, ◌≤◌, ◌<◌, Bool, true, false, not, cond, min, List, [], ◌∷◌, refl, arith, eqb}
use Rattle.std.proofs.lemmas.Bool.{eqb-true}
use Rattle.std.proofs.Math.Nat.{min-le_left, min-le_right}
use Rattle.std.specs.Prelude.{◌&&◌}
use Rattle.dconf_files.specs.Stamps.{is_same_time}
use Rattle.dconf_files.specs.declared.stamp.FileTime.{FileTime}
use Rattle.dconf_waiting.specs.declared.patience.Patience.{Patience}
use Rattle.dconf_waiting.specs.Patiences.{later_by, latest_of, renewed, renewed_by, unbegun}
use Rattle.dconf_waiting.specs.WaitingLaws.{Sight, patience_after, EveryWaitEnds}

-- it has begun, and neither is beyond that moment
record IsWithin (most : ℕ) (p : Patience) : Type 0 where
  end : p.end ≤ most
  latest : p.latest ≤ most
  has_begun : 0 < p.latest

latest_is : (p : Patience) (now : ℕ) → 0 < p.latest → latest_of p now ≡ p.latest
latest_is p now begun = by (eqb p.latest 0) refl
  where
    by : (b : Bool) → eqb p.latest 0 ≡ b → cond b (later_by now 60000000) p.latest ≡ p.latest
    by true e =
        let none : p.latest ≡ 0 = eqb-true p.latest 0 e in
        absurd (omega arith)
    by false e = refl

renewed_within : (most now : ℕ) (c : FileTime) (p : Patience) → IsWithin most p → IsWithin most (renewed p c now)
renewed_within most now c p w =
    let same : latest_of p now ≡ p.latest = latest_is p now w.has_begun in
    let below : min (later_by now p.each) (latest_of p now) ≤ latest_of p now = min-le_right (later_by now p.each) (latest_of p now) in
    let latest : p.latest ≤ most = w.latest in
    let begun : 0 < p.latest = w.has_begun in
    record { end = omega arith; latest = omega arith; has_begun = omega arith }

either_within : (most : ℕ) (b : Bool) (p q : Patience) → IsWithin most p → IsWithin most q → IsWithin most (cond b p q)
either_within most true p q v w = v
either_within most false p q v w = w

within : (most : ℕ) (sights : List Sight) (p : Patience) → IsWithin most p → (patience_after sights p).end ≤ most
within most [] p w = w.end
within most (s ∷ more) p w =
    within most more (renewed_by p s.changed s.now)
    (either_within most (not (eqb p.latest 0) && is_same_time p.changed s.changed) p (renewed p s.changed s.now) w (renewed_within most s.now s.changed p w))

pub every_wait_ends : EveryWaitEnds
every_wait_ends began each sights =
    let latest : min (began.now + 60000000) 18446744073709551615 ≤ began.now + 60000000 = min-le_left (began.now + 60000000) 18446744073709551615 in
    let end : min (later_by began.now each) (later_by began.now 60000000) ≤ later_by began.now 60000000 = min-le_right (later_by began.now each) (later_by began.now 60000000) in
    let begun : 0 < later_by began.now 60000000 = omega arith in
    within (began.now + 60000000) sights (renewed (unbegun each) began.changed began.now) (record { end = omega arith; latest = latest; has_begun = begun })
