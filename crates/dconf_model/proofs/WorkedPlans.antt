-- Worked lengths: of the empty database, and of the format's second vector.
use Rattle.std.proofs.Common.{◌≡◌, ℕ, zero, suc, [], ◌∷◌, List, Some, None, codes, refl}
use Rattle.gv_model.specs.Layout.{round_up}
use Rattle.dconf_model.specs.Entries.{Entry, Entries}
use Rattle.dconf_model.specs.Plans.{Plan, length_of}

top : Entry
top = record { name = codes "/"; key = codes "/"; parent = None; kind = 76 }

under_top : Entry
under_top = record { name = codes "/k"; key = codes "k"; parent = Some 0; kind = 118 }

no_entries : Entries
no_entries = record { count = 0; entry = λ _. top }

empty_plan : Plan
empty_plan = record {
  root = record { count = 1; entry = λ _. top };
  children = record { count = 0; child = λ _. 0; directory = λ _. 0; first = λ _. 0 };
  value = λ _. [];
  locks = no_entries;
}

empty_length : length_of empty_plan ≡ 68
unfolding round_up top no_entries empty_plan
empty_length = refl

entry_of_two : ℕ → Entry
entry_of_two zero = top
entry_of_two (suc i) = under_top

first_of_two : ℕ → ℕ
first_of_two zero = 0
first_of_two (suc i) = 1

five : List ℕ
five = 5 ∷ 0 ∷ 0 ∷ 0 ∷ 0 ∷ 105 ∷ []

key_plan : Plan
key_plan = record {
  root = record { count = 2; entry = entry_of_two };
  children = record { count = 1; child = λ _. 1; directory = λ _. 0; first = first_of_two };
  value = λ _. five;
  locks = no_entries;
}

key_length : length_of key_plan ≡ 110
unfolding round_up top under_top no_entries entry_of_two first_of_two five key_plan
key_length = refl

-- with a lock whose value is stored after that of the key
lock_plan : Plan
lock_plan = record {
  root = record { count = 2; entry = entry_of_two };
  children = record { count = 1; child = λ _. 1; directory = λ _. 0; first = first_of_two };
  value = λ _. five;
  locks = record { count = 1; entry = λ _. under_top };
}

-- the lists end at 100, the table of locks at 140, its one key at 141; the values occur at 144 and 152
lock_length : length_of lock_plan ≡ 155
unfolding round_up top under_top no_entries entry_of_two first_of_two five lock_plan
lock_length = refl
