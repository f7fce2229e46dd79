-- Laws: what was put in front is found, and nothing else changes but what goes.
use Rattle.std.specs.Prelude.{◌≡◌, ◌≢◌, ◌≤◌, ◌<◌, ◌⊎◌, ℕ, Bool, true, List, length, if◌then◌else◌}
use Rattle.dconf_files.specs.declared.stamp.FileStamp.{FileStamp}
use Rattle.dconf_left.specs.declared.states.LeftState.TheVariants.{Unknown, Left, Synced}
use Rattle.dconf_left.specs.Records.{left_file}
use Rattle.dconf_left.specs.Left.{left_state, records, with_left}

abbrev pub LeftIsFound : Type 0
LeftIsFound = (left name : List ℕ) (file : FileStamp) (synced : Bool) (most : ℕ) → file.is_there ≡ true → 0 < most
    → left_state (with_left left name file synced most) name file ≡ (if synced then Synced else Left)

-- of any other file the same is known, or nothing more, if there were so many records already
abbrev pub OthersStay : Type 0
OthersStay = (left name other : List ℕ) (file seen : FileStamp) (synced : Bool) (most : ℕ) → left_file other seen ≢ left_file name file
    → (left_state (with_left left name file synced most) other seen ≡ left_state left other seen)
    ⊎ ((left_state (with_left left name file synced most) other seen ≡ Unknown) × (most ≤ length (records left)))
