-- What a turn says at its end, and what that means.
use Rattle.std.specs.Prelude.{ℕ, ◌≡◌, ◌≢◌, ◌⊎◌, Bool, List, length, Option, Some, IsTrue}
use Rattle.dconf_model.specs.Folders.{Event, MayLeave, MayHaveLeft, IsSettled, Grows, read_content}
use Rattle.dconf_turn.specs.declared.step.Outcome.{Outcome}
use Rattle.dconf_turn.specs.declared.step.Outcome.TheVariants.{Made, Kept, Either, Unsettled, Same, Unsynced}
use Rattle.dconf_turn.specs.Jobs.{Job, IsFreeFor, IsOwn}

-- Each name but the turn's own is as it was, whatever a crash at any moment does.
pub record IsKept (keeps : Bool) (job : Job) (old now : List Event) : Type 0 where
  pub grown : Grows old now
  pub crash : (other : List ℕ) (c : Option (List ℕ)) → ¬ IsOwn keeps job old other → MayHaveLeft now (length old) other c → MayLeave old other c
  pub read : (other : List ℕ) → ¬ IsOwn keeps job old other → read_content now other ≡ read_content old other

-- A crash at any moment leaves the old bytes or the new ones under the name, and a read gives them; each other name but the
-- turn's own is as it was.
pub record IsWhole (keeps : Bool) (job : Job) (old now : List Event) : Type 0 where
  pub grown : Grows old now
  pub crash : (c : Option (List ℕ)) → MayHaveLeft now (length old) job.name c → MayLeave old job.name c ⊎ (c ≡ Some job.bytes)
  pub read : (read_content now job.name ≡ read_content old job.name) ⊎ (read_content now job.name ≡ Some job.bytes)
  pub others_crash : (other : List ℕ) (c : Option (List ℕ)) → other ≢ job.name → ¬ IsOwn keeps job old other →
      MayHaveLeft now (length old) other c → MayLeave old other c
  pub others_read : (other : List ℕ) → other ≢ job.name → ¬ IsOwn keeps job old other → read_content now other ≡ read_content old other

-- what the name was is under a name that no other file had
pub record HasAside (job : Job) (old now : List Event) : Type 0 where
  pub aside : List ℕ
  pub free : IsFreeFor job old aside
  pub read : read_content now aside ≡ read_content old job.name

-- It holds the new bytes, also after a crash. What was set aside stays.
pub record IsMade (keeps : Bool) (job : Job) (old now : List Event) : Type 0 where
  pub whole : IsWhole keeps job old now
  pub settled : IsSettled now job.name (Some job.bytes)
  pub read : read_content now job.name ≡ Some job.bytes
  pub aside : IsTrue keeps → (has : HasAside job old now) × ((c : Option (List ℕ)) → MayLeave now has.aside c → MayLeave old job.name c)

-- It holds the new bytes, but a crash may leave the old ones.
pub record IsUnsettled (keeps : Bool) (job : Job) (old now : List Event) : Type 0 where
  pub whole : IsWhole keeps job old now
  pub read : read_content now job.name ≡ Some job.bytes
  pub aside : IsTrue keeps → HasAside job old now

-- It is as it was, and no crash leaves anything else.
pub record IsSame (keeps : Bool) (job : Job) (old now : List Event) : Type 0 where
  pub kept : IsKept keeps job old now
  pub settled : IsSettled now job.name (read_content old job.name)

abbrev pub Says : Bool → Outcome → Job → List Event → List Event → Type 0
Says keeps Made job old now = IsMade keeps job old now
Says keeps (Kept fault) job old now = IsKept keeps job old now
Says keeps (Either fault) job old now = IsWhole keeps job old now
Says keeps (Unsettled fault) job old now = IsUnsettled keeps job old now
Says keeps Same job old now = IsSame keeps job old now
Says keeps (Unsynced fault) job old now = IsKept keeps job old now
