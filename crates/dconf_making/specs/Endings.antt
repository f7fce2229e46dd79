-- What a program has of a change that is over: which settings are the newest, and what it says.
use Rattle.std.specs.Prelude.{ℕ, ◌≡◌, ◌⊎◌, Bool, true, false, List, Some, if◌then◌else◌, ◌==◌}
use Rattle.dconf_model.specs.Folders.{Event, IsSettled, read_content}
use Rattle.dconf_turn.specs.declared.step.Outcome.{Outcome}
use Rattle.dconf_turn.specs.declared.step.Outcome.TheVariants.{Made, Kept, Either, Unsettled, Same, Unsynced}
use Rattle.dconf_turn.specs.Jobs.{Job, IsOwn}
use Rattle.dconf_turn.specs.Sayings.{Says}
use Rattle.dconf_making.specs.declared.ending.Newest.{Newest}
use Rattle.dconf_making.specs.declared.ending.Newest.TheVariants.{Old, Newer, Tried}
use Rattle.dconf_making.specs.declared.ending.Told.{Told}
use Rattle.dconf_making.specs.declared.ending.Told.TheVariants as told
use Rattle.dconf_making.specs.declared.ending.Ending.{Ending}
use Rattle.dconf_making.specs.declared.ending.DconfdbEnding.{DconfdbEnding}

-- A write that wrote nothing, or more than there was, is told by itself: no call of the host failed. Of the caller's own fault all is told.
abbrev pub told_of_kept : ℕ → Told
told_of_kept fault = if fault == 0 then told.BadWrite else if fault == 4294967294 then told.Already else told.First

-- `before`: a change before this one may not be on the disk. `aside`: the old file has another name.
abbrev pub ending_of : Outcome → Bool → Bool → Ending
ending_of Made before aside = record { newest = Newer; told = told.Nothing; is_unsettled = false; is_there = true; keeps_fault = aside }
ending_of (Kept fault) before aside = record { newest = Old; told = told_of_kept fault; is_unsettled = before; is_there = false; keeps_fault = false }
ending_of (Either fault) before aside = record { newest = Tried; told = told.Either; is_unsettled = true; is_there = false; keeps_fault = false }
ending_of (Unsettled fault) before aside = record { newest = Newer; told = told.Unsettled; is_unsettled = true; is_there = true; keeps_fault = aside }
ending_of Same before aside = record { newest = Old; told = told.Nothing; is_unsettled = false; is_there = true; keeps_fault = false }
ending_of (Unsynced fault) before aside = record { newest = Old; told = told.Unsynced; is_unsettled = true; is_there = true; keeps_fault = false }

abbrev pub newest_number : Newest → ℕ
newest_number Old = 0
newest_number Newer = 1
newest_number Tried = 2

abbrev pub told_number : Told → ℕ
told_number told.Nothing = 0
told_number told.First = 1
told_number told.BadWrite = 2
told_number told.Either = 3
told_number told.Unsettled = 4
told_number told.Unsynced = 5
told_number told.Already = 6

abbrev pub told_by : ℕ → Told
told_by n = if n == 0 then told.Nothing else if n == 1 then told.First else if n == 2 then told.BadWrite else if n == 3 then told.Either else
    if n == 4 then told.Unsettled else if n == 5 then told.Unsynced else told.Already

-- what has become of the file, as a program is told: made, kept, either, unsettled
abbrev pub outcome_number : Outcome → ℕ
outcome_number Made = 0
outcome_number (Kept fault) = 1
outcome_number (Either fault) = 2
outcome_number (Unsettled fault) = 3
outcome_number Same = 0
outcome_number (Unsynced fault) = 3

-- the same in numbers
pub record IsEndingTold (ending : Ending) (outcome : Outcome) (r : DconfdbEnding) : Type 0 where
  pub newest : r.newest ≡ newest_number ending.newest
  pub told : r.told ≡ told_number ending.told
  pub outcome_is : r.outcome ≡ outcome_number outcome
  pub fault : r.keeps_fault ≡ ending.keeps_fault
  pub unsettled : r.is_unsettled ≡ ending.is_unsettled
  pub there : r.is_there ≡ ending.is_there

-- ---- the law

-- what the file holds, and which settings are the newest
abbrev pub IsNewestOf : Newest → Job → List Event → List Event → Type 0
IsNewestOf Old job old now = read_content now job.name ≡ read_content old job.name
IsNewestOf Newer job old now = read_content now job.name ≡ Some job.bytes
IsNewestOf Tried job old now = (read_content now job.name ≡ read_content old job.name) ⊎ (read_content now job.name ≡ Some job.bytes)

-- what a turn says is so, in a folder in which the file's name is not one of the turn's own
pub record IsGoodEnding (keeps before aside : Bool) (outcome : Outcome) (job : Job) (old now : List Event) : Type 0 where
  -- the newest settings are those that the file holds
  pub newest : IsNewestOf (ending_of outcome before aside).newest job old now
  -- no fault is told only where what the file holds is on the disk
  pub done : (ending_of outcome before aside).told ≡ told.Nothing → IsSettled now job.name (read_content now job.name)
  -- and then nothing is owed
  pub settled : (ending_of outcome before aside).told ≡ told.Nothing → (ending_of outcome before aside).is_unsettled ≡ false
  -- what may not be on the disk is owed until a change is
  pub owed : before ≡ true → (ending_of outcome before aside).is_unsettled ≡ false → (ending_of outcome before aside).told ≡ told.Nothing
  -- what was wrong with a file that no longer has the name is told as long as it has another one
  pub kept : (ending_of outcome before aside).newest ≡ Newer → (ending_of outcome before aside).keeps_fault ≡ aside

abbrev pub EndingsAreSo : Type 0
EndingsAreSo = (keeps before aside : Bool) (outcome : Outcome) (job : Job) (old now : List Event) → ¬ IsOwn keeps job old job.name → Says keeps outcome job old now →
    IsGoodEnding keeps before aside outcome job old now
