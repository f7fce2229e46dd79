-- What the law of all stores says of worked ones: rows and words alone, no map and no layer.
use Rattle.std.specs.Prelude.{◌≡◌, ℕ, List, [], ◌∷◌, Option, Some, None, codes, refl, false}
use Rattle.gv_model.specs.Tree.{Tree}
use Rattle.gv_model.specs.Tree.Tree.{number}
use Rattle.gv_model.specs.Ty.Basic.{int32}
use Rattle.dconf_model.specs.Locks.{LockLine}
use Rattle.dconf_model.specs.Sources.{Assigned, Given, given}
use Rattle.dconf_model.specs.Changes.Change.{set_value, reset_value, reset_below_directory, load_values}
use Rattle.dconf_model.specs.Changes.{Change}
use Rattle.dconf_model.specs.Stores.{own_after, value_given, number_given}
use Rattle.dconf_model.proofs.WorkedSources.{meaning, a, b, given_of}
use Rattle.dconf_model.proofs.WorkedStore.{k}

abbrev five : ℕ → Tree
five n = number int32 n

abbrev at : List ℕ → ℕ → Assigned
at p n = record { path = p; value = five n }

abbrev lock : List ℕ → LockLine
lock p = record { path = p; line = 1 }

-- a database of these values and locks
abbrev database : List Assigned → List LockLine → Given
database values locks = record { values = values; locks = locks }

-- what is seen at a path, and what the first database keeps there, where it had this at first
abbrev keeps : List ℕ → Option Tree → List Change → List Given → Option Tree
keeps path start changes databases = own_after databases (λ p. start) changes path

abbrev seen : List ℕ → Option Tree → List Change → List Given → Option Tree
seen path start changes databases = value_given path (keeps path start changes databases) databases

locked_site : seen k (Some (five 1)) [] (database (at k 2 ∷ []) (lock k ∷ []) ∷ []) ≡ Some (five 2)
locked_site = refl

locked_after : seen k None [] (database (at k 5 ∷ []) [] ∷ database [] (lock k ∷ []) ∷ []) ≡ None
locked_after = refl

not_locked : seen k (Some (five 1)) [] (database (at k 2 ∷ []) [] ∷ []) ≡ Some (five 1)
not_locked = refl

reset_shows_default : seen k (Some (five 1)) (reset_value k ∷ []) (database (at k 2 ∷ []) [] ∷ []) ≡ Some (five 2)
reset_shows_default = refl

last_word : seen k None (set_value k (five 3) ∷ reset_below_directory (codes "/a/") ∷ load_values (at k 7 ∷ at (codes "/a/j") 8 ∷ at k 9 ∷ []) false ∷ []) [] ≡ Some (five 9)
last_word = refl

directory_lock : seen (codes "/a/j") (Some (five 1)) [] (database (at k 2 ∷ []) (lock (codes "/a/") ∷ []) ∷ []) ≡ None
directory_lock = refl

kept_under_lock : keeps (codes "/a/j") (Some (five 1)) (reset_below_directory (codes "/a/") ∷ []) (database (at k 2 ∷ []) (lock (codes "/a/") ∷ []) ∷ []) ≡ Some (five 1)
kept_under_lock = refl

beside_lock : seen (codes "/ab") None (set_value (codes "/ab") (five 3) ∷ []) (database (at k 2 ∷ []) (lock (codes "/a/") ∷ []) ∷ []) ≡ Some (five 3)
beside_lock = refl

-- two keyfiles as a system's database
two_files : seen k None [] (given_of (given (b ∷ a ∷ []) []) ∷ []) ≡ Some (five 2)
unfolding meaning given_of a b
two_files = refl

-- the number of the database whose value is seen
locked_number : number_given k (Some (five 1)) (database (at k 2 ∷ []) (lock k ∷ []) ∷ []) ≡ Some 1
locked_number = refl

own_number : number_given k (Some (five 1)) (database (at k 2 ∷ []) [] ∷ []) ≡ Some 0
own_number = refl

no_number : number_given k None (database [] [] ∷ []) ≡ None
no_number = refl
