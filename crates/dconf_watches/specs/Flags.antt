-- The flag of dconf's readers of a database: a file whose first byte each has mapped. Who finds it set opens the database again, and maps the file that has
-- the name then, or makes one.
use Rattle.std.specs.Prelude.{ℕ, ◌≡◌, Bool, true, false, not, ◌&&◌, ◌||◌, if◌then◌else◌, ◌==◌}
use Rattle.dconf_watches.specs.declared.flag.Flagging.{Flagging}
use Rattle.dconf_watches.specs.declared.flag.Flagging.TheVariants.{Look, Lock, Open, Lengthen, Set, Remove, Over}

-- It is looked for, and who hasn't the turn asks for the lock; had or not, it is opened, has a byte, and that is set; and in a turn its name goes. What else
-- can't be done ends it.
abbrev pub flag_after : ℕ → Bool → Bool → Flagging
flag_after done could_be is_in_turn =
    if done == 0 then Look else
    if done == 2 then Open else
    if not could_be then Over else
    if done == 1 then (if is_in_turn then Open else Lock) else
    if done == 3 then Lengthen else
    if done == 4 then Set else
    if (done == 5) && is_in_turn then Remove else Over

abbrev pub flag_number : Flagging → ℕ
flag_number Look = 1
flag_number Lock = 2
flag_number Open = 3
flag_number Lengthen = 4
flag_number Set = 5
flag_number Remove = 6
flag_number Over = 7

-- ---- the law: in which order the tasks come. No reader is part of it.

pub record ReadersStayTold (done : ℕ) (could_be is_in_turn : Bool) : Type 0 where
  -- the name of what isn't set stays: it goes once that is, and only in a turn, in which nobody else takes it
  pub removed : flag_after done could_be is_in_turn ≡ Remove → (could_be ≡ true) × (((done == 5) && is_in_turn) ≡ true)
  -- what is set has its byte by then
  pub set : flag_after done could_be is_in_turn ≡ Set → (could_be ≡ true) × ((done == 4) ≡ true)
  -- outside a turn it is opened only once the lock was asked for,
  pub opened : flag_after done could_be is_in_turn ≡ Open → ((done == 2) || is_in_turn) ≡ true
  -- and also if that isn't had
  pub unlocked : flag_after 2 could_be is_in_turn ≡ Open
  -- and whatever else can't be done, nothing else is tried then
  pub failed : (done == 0) ≡ false → (done == 2) ≡ false → could_be ≡ false → flag_after done could_be is_in_turn ≡ Over

abbrev pub NoReaderIsLost : Type 0
NoReaderIsLost = (done : ℕ) (could_be is_in_turn : Bool) → ReadersStayTold done could_be is_in_turn
