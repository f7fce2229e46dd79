-- What becomes of a change whose caller doesn't wait for it. dconf's "dconf_client_change_fast".
use Rattle.std.specs.Prelude.{ℕ, ◌≡◌, true, false, ◌&&◌, if◌then◌else◌, nat_lt}
use Rattle.dconf_changesets.specs.declared.fast.FastKnown.{FastKnown}
use Rattle.dconf_changesets.specs.declared.fast.FastTask.{FastTask}
use Rattle.dconf_changesets.specs.declared.fast.FastTask.TheVariants.{Add, Write, Tell, Made, Refused}

-- once the first tasks were done, or were not due
abbrev pub fast_after : ℕ → FastKnown → FastTask
fast_after done k =
    if k.is_refused then Refused else if k.is_empty then Made else
    if nat_lt done 1 then Add else if nat_lt done 2 then Write else if nat_lt done 3 && k.is_news then Tell else Made

abbrev pub fast_number : FastTask → ℕ
fast_number Add = 1
fast_number Write = 2
fast_number Tell = 3
fast_number Made = 4
fast_number Refused = 5

-- ---- the law

pub record IsGoodFast (k : FastKnown) : Type 0 where
  -- what is refused is refused as a whole, and what is left of nothing is made: of either nothing waits, and nobody is told
  pub refused : (done : ℕ) → k.is_refused ≡ true → fast_after done k ≡ Refused
  pub empty : (done : ℕ) → k.is_refused ≡ false → k.is_empty ≡ true → fast_after done k ≡ Made
  -- all else waits, is to be written, and is told exactly if it is new
  pub waits : k.is_refused ≡ false → k.is_empty ≡ false → fast_after 0 k ≡ Add
  pub written : k.is_refused ≡ false → k.is_empty ≡ false → fast_after (fast_number Add) k ≡ Write
  pub told : k.is_refused ≡ false → k.is_empty ≡ false → fast_after (fast_number Write) k ≡ (if k.is_news then Tell else Made)
  pub over : k.is_refused ≡ false → fast_after (fast_number Tell) k ≡ Made

abbrev pub WhatIsToldWaits : Type 0
WhatIsToldWaits = (k : FastKnown) → IsGoodFast k
