-- What doesn't count of a key that is read: who reads needn't ask for it.
use Rattle.std.specs.Prelude.{◌≡◌, Bool, true, false, not, ◌&&◌, ◌||◌}
use Rattle.dconf_seen.specs.declared.reading.Known.{Known}
use Rattle.dconf_seen.specs.declared.reading.Found.{Found}
use Rattle.dconf_seen.specs.Reading.{found_by, known_word}
use Rattle.dconf_rounds.specs.Telling.{passes_over}

abbrev pub found_of : Bool → Bool → Known → Found
found_of user default k = found_by user default (known_word k) k.writable k.may_write k.edit_fits k.stored_fits

abbrev pub is_odd : Bool → Bool → Known → Bool
is_odd user default k = passes_over user default (known_word k) k.writable k.may_write k.edit_fits k.stored_fits

-- Whatever the answer were, what is read is found there, and it is as odd: whether there is a user's database counts for who reads the user's own value
-- alone; of which type the values are, for who reads the setting; and whether the key may be written, for who does where an edit waits.
pub record IsReadEnough (user default : Bool) (k : Known) (answer : Bool) : Type 0 where
  pub writable : user ≡ false → found_of user default (record k { writable = answer }) ≡ found_of user default k
  pub edit : (user || default) ≡ true → found_of user default (record k { edit_fits = answer }) ≡ found_of user default k
  pub may_write : (k.waits && not (user || default)) ≡ false → found_of user default (record k { may_write = answer }) ≡ found_of user default k
  pub stored : (user || default) ≡ true → found_of user default (record k { stored_fits = answer }) ≡ found_of user default k
  pub odd_writable : is_odd user default (record k { writable = answer }) ≡ is_odd user default k
  pub odd_edit : (user || default) ≡ true → is_odd user default (record k { edit_fits = answer }) ≡ is_odd user default k
  pub odd_may_write : (k.waits && not (user || default)) ≡ false → is_odd user default (record k { may_write = answer }) ≡ is_odd user default k
  pub odd_stored : (user || default) ≡ true → is_odd user default (record k { stored_fits = answer }) ≡ is_odd user default k

abbrev pub WhatIsNotAskedIsNotRead : Type 0
WhatIsNotAskedIsNotRead = (user default : Bool) (k : Known) (answer : Bool) → IsReadEnough user default k answer
