-- What is said to who doesn't wait until a change is made.
use Rattle.std.proofs.Common.{ℕ, ◌≡◌, Bool, true, false, refl}
use Rattle.std.specs.Prelude.{◌&&◌, if◌then◌else◌, nat_lt}
use Rattle.dconf_changesets.specs.declared.fast.FastTask.{FastTask}
use Rattle.dconf_changesets.specs.declared.fast.FastTask.TheVariants.{Add, Write, Tell, Made, Refused}
use Rattle.dconf_changesets.specs.Fast.{WhatIsToldWaits}

-- by whether it is refused, and empty, and what comes else
abbrev by : Bool → Bool → FastTask → FastTask
by refused empty other = if refused then Refused else if empty then Made else other

refused_by : (r e : Bool) (x : FastTask) → r ≡ true → by r e x ≡ Refused
refused_by true e x p = refl
refused_by false e x p = absurd (let bad : false ≡ true = p in cc)

empty_by : (r e : Bool) (x : FastTask) → r ≡ false → e ≡ true → by r e x ≡ Made
empty_by false true x p q = refl
empty_by false false x p q = absurd (let bad : false ≡ true = q in cc)
empty_by true e x p q = absurd (let bad : true ≡ false = p in cc)

left_by : (r e : Bool) (x : FastTask) → r ≡ false → e ≡ false → by r e x ≡ x
left_by false false x p q = refl
left_by false true x p q = absurd (let bad : true ≡ false = q in cc)
left_by true e x p q = absurd (let bad : true ≡ false = p in cc)

over_by : (r e : Bool) → r ≡ false → by r e Made ≡ Made
over_by false true p = refl
over_by false false p = refl
over_by true e p = absurd (let bad : true ≡ false = p in cc)

-- what comes else
abbrev other : ℕ → Bool → FastTask
other done news = if nat_lt done 1 then Add else if nat_lt done 2 then Write else if nat_lt done 3 && news then Tell else Made

pub what_is_told_waits : WhatIsToldWaits
what_is_told_waits k = record {
  refused = λ done p. refused_by k.is_refused k.is_empty (other done k.is_news) p;
  empty = λ done p q. empty_by k.is_refused k.is_empty (other done k.is_news) p q;
  waits = λ p q. left_by k.is_refused k.is_empty Add p q;
  written = λ p q. left_by k.is_refused k.is_empty Write p q;
  told = λ p q. left_by k.is_refused k.is_empty (if k.is_news then Tell else Made) p q;
  over = λ p. over_by k.is_refused k.is_empty p;
}
