-- What is brought to the disk, one after the other: 0 nothing was yet, 1 the name of a folder is, 2 a folder was made in it, 3 the bytes of a file are,
-- 4 the names in the folder are. A name is there only once the folder that has it was synced (fsync(2)).
use Rattle.std.specs.Prelude.{ℕ, ◌≡◌, ◌≢◌, ◌&&◌, Bool, true, false, not, if◌then◌else◌, ◌==◌}
use Rattle.dconf_verdicts.specs.declared.brought.Bring.{Bring}
use Rattle.dconf_verdicts.specs.declared.brought.Bring.TheVariants.{Name, Make, File, Folder, Over}

-- of a folder that is to be made (0) the name of the one that it is in; of a file (1, or 2 with its folder) the bytes, if there are any that can be read
abbrev pub begins_with : ℕ → Bool → Bring
begins_with what has_file = if what == 0 then Name else if has_file then File else Folder

abbrev pub bring_after : ℕ → ℕ → ℕ → Bool → Bring
bring_after what done errno has_file =
    if not (errno == 0) then Over else if done == 0 then begins_with what has_file else
    if done == 1 && what == 0 then Make else if done == 2 then Folder else if done == 3 then Folder else
    if done == 4 && what == 2 then Name else Over

abbrev pub bring_number : Bring → ℕ
bring_number Name = 1
bring_number Make = 2
bring_number File = 3
bring_number Folder = 4
bring_number Over = 5

-- ---- the law

pub record IsInOrder (what done errno : ℕ) (has_file : Bool) : Type 0 where
  -- after a fault nothing is done
  pub stops : (errno == 0) ≡ false → bring_after what done errno has_file ≡ Over
  -- nothing is made in a folder before its own name is on the disk
  pub made : bring_after what done errno has_file ≡ Make → ((what == 0) ≡ true) × ((done == 1) ≡ true) × ((errno == 0) ≡ true)
  -- the bytes are there before the name, and the name before it is over
  pub bytes : (what == 0) ≡ false → has_file ≡ true → bring_after what 0 0 has_file ≡ File
  pub begins : bring_after what 0 0 has_file ≢ Over
  pub named : (bring_after what 2 0 has_file ≡ Folder) × (bring_after what 3 0 has_file ≡ Folder)
  -- and the folder's own name, where that is asked for
  pub folder : (what == 2) ≡ true → bring_after what 4 0 has_file ≡ Name

abbrev pub NamesFollowBytes : Type 0
NamesFollowBytes = (what done errno : ℕ) (has_file : Bool) → IsInOrder what done errno has_file
