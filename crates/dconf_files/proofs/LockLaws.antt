-- Who may take the lock of a folder.
use Rattle.std.proofs.Common.{ℕ, ◌≡◌, ◌+◌, ◌*◌, ◌/◌, ◌%◌, ◌<◌, Bool, true, false, refl, arith}
use Rattle.std.specs.Prelude.{if◌then◌else◌}
use Rattle.dconf_files.specs.Owners.{groups, others}
use Rattle.dconf_files.specs.Locks.{writers, lock_bits, WhoWritesLocks}

groups_of : (g o : ℕ) → g < 2 → o < 2 → groups (384 + g * 48 + o * 6) ≡ 6 * g
groups_of g o gl ol = omega arith

others_of : (g o : ℕ) → g < 2 → o < 2 → others (384 + g * 48 + o * 6) ≡ 6 * o
others_of g o gl ol = omega arith

writers_few : (rights : ℕ) → writers rights < 2
writers_few rights = omega arith

own_by : (m : Bool) (folder : ℕ) → (if m then groups (lock_bits folder true) else others (lock_bits folder true)) ≡ 6 * writers (if m then groups folder else others folder)
own_by true folder = groups_of (writers (groups folder)) (writers (others folder)) (writers_few (groups folder)) (writers_few (others folder))
own_by false folder = others_of (writers (groups folder)) (writers (others folder)) (writers_few (groups folder)) (writers_few (others folder))

foreign_by : (m : Bool) (folder : ℕ) → (if m then groups (lock_bits folder false) else others (lock_bits folder false)) ≡ 6 * writers (others folder)
foreign_by true folder = groups_of (writers (others folder)) (writers (others folder)) (writers_few (others folder)) (writers_few (others folder))
foreign_by false folder = others_of (writers (others folder)) (writers (others folder)) (writers_few (others folder)) (writers_few (others folder))

pub who_writes_locks : WhoWritesLocks
who_writes_locks folder group other is_in = record { own = own_by (is_in group) folder; foreign = foreign_by (is_in other) folder }
