-- Who may take the lock of a folder.
use Rattle.std.specs.Prelude.{ℕ, ◌≡◌, ◌+◌, ◌*◌, ◌/◌, ◌%◌, Bool, true, false, if◌then◌else◌}
use Rattle.dconf_files.specs.Owners.{groups, others, rights_of}

-- whether one of these rights is that to write
abbrev pub writers : ℕ → ℕ
writers rights = rights / 2 % 2

abbrev pub lock_bits : ℕ → Bool → ℕ
lock_bits folder has_group = 384 + (if has_group then writers (groups folder) else writers (others folder)) * 48 + writers (others folder) * 6

-- ---- the law

-- Of somebody who is not its owner, by the groups that he is in: he may read and write the lock's file exactly if he may write in the folder;
-- and where it has another group, exactly if all may.
pub record IsOpenToWriters (folder group other : ℕ) (is_in : ℕ → Bool) : Type 0 where
  pub own : rights_of is_in group (lock_bits folder true) ≡ 6 * writers (rights_of is_in group folder)
  pub foreign : rights_of is_in other (lock_bits folder false) ≡ 6 * writers (others folder)

abbrev pub WhoWritesLocks : Type 0
WhoWritesLocks = (folder group other : ℕ) (is_in : ℕ → Bool) → IsOpenToWriters folder group other is_in
