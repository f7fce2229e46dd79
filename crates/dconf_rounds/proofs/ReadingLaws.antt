-- What isn't asked of a key that is read doesn't count.
use Rattle.std.proofs.Common.{◌≡◌, Bool, true, false, not, refl}
use Rattle.std.specs.Prelude.{◌&&◌, ◌||◌}
use Rattle.dconf_seen.specs.Reading.{found_by}
use Rattle.dconf_seen.specs.Waiting.{word_numbered}
use Rattle.dconf_rounds.specs.Reading.{WhatIsNotAskedIsNotRead}
use Rattle.dconf_rounds.specs.Telling.{passes_over}

-- by what waits, and what it does
writable_by : (u d w s m e t x y : Bool) → u ≡ false → found_by u d (word_numbered w s) x m e t ≡ found_by u d (word_numbered w s) y m e t
writable_by false false w s m e t x y h = refl
writable_by false true w s m e t x y h = refl
writable_by true d w s m e t x y h = absurd (let bad : true ≡ false = h in cc)

may_write_by : (u d w s r e t x y : Bool) → (w && not (u || d)) ≡ false → found_by u d (word_numbered w s) r x e t ≡ found_by u d (word_numbered w s) r y e t
may_write_by true false w s r e t x y h = refl
may_write_by true true w s r e t x y h = refl
may_write_by false true w s r e t x y h = refl
may_write_by false false true s r e t x y h = absurd (let bad : true ≡ false = h in cc)
may_write_by false false false s r e t true true h = refl
may_write_by false false false s r e t true false h = refl
may_write_by false false false s r e t false true h = refl
may_write_by false false false s r e t false false h = refl

edit_by : (u d w s r m t x y : Bool) → (u || d) ≡ true → found_by u d (word_numbered w s) r m x t ≡ found_by u d (word_numbered w s) r m y t
edit_by true false w s r m t x y h = refl
edit_by true true w s r m t x y h = refl
edit_by false true w s r m t x y h = refl
edit_by false false w s r m t x y h = absurd (let bad : false ≡ true = h in cc)

stored_by : (u d w s r m e x y : Bool) → (u || d) ≡ true → found_by u d (word_numbered w s) r m e x ≡ found_by u d (word_numbered w s) r m e y
stored_by true false w s r m e x y h = refl
stored_by true true w s r m e x y h = refl
stored_by false true w s r m e x y h = refl
stored_by false false w s r m e x y h = absurd (let bad : false ≡ true = h in cc)

-- ---- whether a value is passed over

odd_writable : (u d w s m e t x y : Bool) → passes_over u d (word_numbered w s) x m e t ≡ passes_over u d (word_numbered w s) y m e t
odd_writable u d w s m e t x y = refl

odd_may_write : (u d w s r e t x y : Bool) → (w && not (u || d)) ≡ false → passes_over u d (word_numbered w s) r x e t ≡ passes_over u d (word_numbered w s) r y e t
odd_may_write true d w s r e t x y h = refl
odd_may_write false true w s r e t x y h = refl
odd_may_write false false true s r e t x y h = absurd (let bad : true ≡ false = h in cc)
odd_may_write false false false s r e t true true h = refl
odd_may_write false false false s r e t true false h = refl
odd_may_write false false false s r e t false true h = refl
odd_may_write false false false s r e t false false h = refl

odd_edit : (u d w s r m t x y : Bool) → (u || d) ≡ true → passes_over u d (word_numbered w s) r m x t ≡ passes_over u d (word_numbered w s) r m y t
odd_edit true d w s r m t x y h = refl
odd_edit false true w s r m t x y h = refl
odd_edit false false w s r m t x y h = absurd (let bad : false ≡ true = h in cc)

odd_stored : (u d w s r m e x y : Bool) → (u || d) ≡ true → passes_over u d (word_numbered w s) r m e x ≡ passes_over u d (word_numbered w s) r m e y
odd_stored true d w s r m e x y h = refl
odd_stored false true w s r m e x y h = refl
odd_stored false false w s r m e x y h = absurd (let bad : false ≡ true = h in cc)

pub what_is_not_asked_is_not_read : WhatIsNotAskedIsNotRead
what_is_not_asked_is_not_read user default k answer = record {
  writable = writable_by user default k.waits k.sets k.may_write k.edit_fits k.stored_fits answer k.writable;
  may_write = may_write_by user default k.waits k.sets k.writable k.edit_fits k.stored_fits answer k.may_write;
  edit = edit_by user default k.waits k.sets k.writable k.may_write k.stored_fits answer k.edit_fits;
  stored = stored_by user default k.waits k.sets k.writable k.may_write k.edit_fits answer k.stored_fits;
  odd_writable = odd_writable user default k.waits k.sets k.may_write k.edit_fits k.stored_fits answer k.writable;
  odd_may_write = odd_may_write user default k.waits k.sets k.writable k.edit_fits k.stored_fits answer k.may_write;
  odd_edit = odd_edit user default k.waits k.sets k.writable k.may_write k.stored_fits answer k.edit_fits;
  odd_stored = odd_stored user default k.waits k.sets k.writable k.may_write k.edit_fits answer k.stored_fits;
}
