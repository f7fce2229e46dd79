-- Wrong tables of what waits: of what each would answer it is proved that the law alone excludes it.
use Rattle.std.proofs.Common.{ℕ, ◌≡◌, [], ◌∷◌, refl, arith}
use Rattle.dconf_waiting.specs.WaitingLaws.{Put, IsGoodTable}

abbrev put : ℕ → ℕ → ℕ → Put
put key number before = record { key = key; number = number; before = before }

abbrev numbers_differ : ℕ → ℕ → Type 0
numbers_differ a b = a ≡ b → ⊥

none_is_not_one : numbers_differ 0 1
none_is_not_one e = omega arith

one_is_not_two : numbers_differ 1 2
one_is_not_two e = omega arith

-- the oldest edit of a key is found
pub oldest_found : IsGoodTable (put 0 1 0 ∷ put 0 2 1 ∷ []) (1 ∷ []) → ⊥
oldest_found good = one_is_not_two (good.newest 0 (omega arith))

-- it is forgotten which one is covered
pub forgets_the_covered : IsGoodTable (put 0 1 0 ∷ put 0 2 0 ∷ []) (2 ∷ []) → ⊥
forgets_the_covered good = none_is_not_one (good.uncovers (put 0 1 0 ∷ []) [] (put 0 2 0) refl (omega arith) tt)

-- another key's newest edit is lost
pub loses_another : IsGoodTable (put 0 1 0 ∷ put 1 2 0 ∷ []) (0 ∷ 2 ∷ []) → ⊥
loses_another good = none_is_not_one (good.newest 0 (omega arith))
