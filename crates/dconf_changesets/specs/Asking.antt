-- Where who reads finds the newest word of a key.
use Rattle.std.specs.Prelude.{◌≡◌, ◌↔◌, ℕ, zero, suc, ◌-◌, ◌==◌, Bool, true, false, not, ◌&&◌, ◌||◌, if◌then◌else◌, List, [], ◌∷◌, ◌++◌, length}
use Rattle.dconf_model.specs.Stores.{Saying}
use Rattle.dconf_model.specs.Stores.Saying.{silent}
use Rattle.dconf_changesets.specs.Rows.{Row, later_word, said}
use Rattle.dconf_changesets.specs.declared.asking.LookKnown.{LookKnown}
use Rattle.dconf_changesets.specs.declared.asking.LookDue.{LookDue}
use Rattle.dconf_changesets.specs.declared.asking.LookDue.TheVariants.{Nothing, Opens, Looks, Later}

-- The sets that may say it, in the order in which they go over each other: what is being written, what waits, and what is read through, the
-- first of those first. They are numbered from 1 on, and 0 is the store. The last is asked first.
abbrev pub asked_after : ℕ → ℕ → ℕ
asked_after sets asked = sets - asked

-- ---- the law

-- the rows of all sets
abbrev pub all_rows : List (List Row) → List Row
all_rows [] = []
all_rows (rows ∷ more) = rows ++ all_rows more

-- what the set of that number says
abbrev pub said_in : List ℕ → List (List Row) → ℕ → Saying
said_in key [] n = silent
said_in key (rows ∷ more) zero = silent
said_in key (rows ∷ more) (suc zero) = said key rows
said_in key (rows ∷ more) (suc (suc n)) = said_in key more (suc n)

-- what is said by the first that says something, from that number down
abbrev pub newest : List ℕ → List (List Row) → ℕ → Saying
newest key sets zero = silent
newest key sets (suc n) = later_word (newest key sets n) (said_in key sets (suc n))

-- It is the newest word of all.
abbrev pub TheNewestIsAsked : Type 0
TheNewestIsAsked =
    (key : List ℕ) (sets : List (List Row)) → newest key sets (asked_after (length sets) 0) ≡ said key (all_rows sets)

-- ---- whether the files are looked at

-- what was seen of them is what they are: all that happens to them is told to this process, nothing has been, and nobody waits for a time
abbrev pub is_heard : LookKnown → Bool
is_heard k = k.is_whole && ((k.until == 0) && (not k.is_told && k.is_own))

-- who changes a setting needs no look where they are watched, and who reads one where nothing has been told besides; who only wants the store
-- needs none
abbrev pub is_spared : ℕ → LookKnown → Bool
is_spared looker k = (looker == 3) || (k.is_watched && ((looker == 1) || ((looker == 2) && is_heard k)))

abbrev pub look_due : ℕ → LookKnown → LookDue
look_due looker k = if not k.is_open then Opens else if is_spared looker k then Nothing else if k.is_busy then Later else Looks

-- it counts what may have been told: for who reads, where all that happens to the files is told
abbrev pub asks_told : ℕ → LookKnown → Bool
asks_told looker k = (looker == 2) && (k.is_watched && (k.is_whole && ((k.until == 0) && k.is_own)))

abbrev pub look_number : LookDue → ℕ
look_number Nothing = 0
look_number Opens = 1
look_number Looks = 2
look_number Later = 3

-- ---- the law

pub record IsGoodLook (looker : ℕ) (k : LookKnown) : Type 0 where
  -- a store is opened exactly where none is open
  pub opens : (look_due looker k ≡ Opens) ↔ (k.is_open ≡ false)
  -- who sees the files goes without a look only while one of them is replaced, and that look is owed
  pub seen : looker ≡ 0 → k.is_open ≡ true → look_due looker k ≡ (if k.is_busy then Later else Looks)
  -- who reads goes without one only where what was seen is what they are
  pub read : looker ≡ 2 → look_due looker k ≡ Nothing → (k.is_watched ≡ true) × (is_heard k ≡ true)

abbrev pub NoLookIsMissed : Type 0
NoLookIsMissed = (looker : ℕ) (k : LookKnown) → IsGoodLook looker k

-- What may have been told doesn't count for anybody else.
abbrev pub ToldCountsForWhoReads : Type 0
ToldCountsForWhoReads =
    (looker : ℕ) (k : LookKnown) (told : Bool) → asks_told looker k ≡ false → look_due looker (record k { is_told = told }) ≡ look_due looker k
