-- What is left of a file by turns of any programs, one after another: each whole, or cut off at any step because its program is
-- killed or the system crashes; and crashes between them.
use Rattle.std.specs.Prelude.{ℕ, ◌≡◌, ◌⊎◌, ◌<◌, List, [], ◌∷◌, Option, Some}
use Rattle.dconf_model.specs.Bytes.{MaybeBytes}
use Rattle.dconf_model.specs.Folders.{Event, MayLeave, IsSettled, IsLeft, read_content}
use Rattle.dconf_model.specs.Survivals.{CrashedSince}
use Rattle.dconf_model.proofs.Histories.{MayRun, KeepsFirst}
use Rattle.dconf_turn.specs.declared.turn.Turn.{Turn}
use Rattle.dconf_turn.specs.declared.step.Outcome.{Outcome}
use Rattle.dconf_turn.specs.declared.step.Outcome.TheVariants.{Made, Kept, Either, Unsettled, Same, Unsynced}
use Rattle.dconf_turn.specs.declared.step.Step.TheVariants.{Done}
use Rattle.dconf_turn.specs.Jobs.{Job, IsLockApart}
use Rattle.dconf_turn.specs.Steps.{place, step_of}
use Rattle.dconf_turn.specs.Progress.{IsBegun, IsEarly}
use Rattle.dconf_turn.specs.Histories.{Taken, RanSteps, IsUnwritten}

-- it said this at its end, or its program was killed, or a crash stopped it
pub data TurnEnd : Type 0 where
  said : Outcome → TurnEnd
  killed : TurnEnd
  crashed : TurnEnd

-- a program's turn for a command, or a crash while none had its turn
pub data Happening (Command : Type 0) : Type 0 where
  turn : Command → TurnEnd → Happening Command
  crash : Happening Command

-- A host drove a turn so far. The last answer may be one that nobody heard: a no admits whatever a call may have done that was
-- cut off.
pub record Drove (u : Turn) (job : Job) (old now : List Event) : Type 0 where
  pub taken : List Taken
  pub begun : Turn
  pub is_begun : IsBegun begun
  pub ran : RanSteps taken begun u job old now

-- `may c command d` says that a command which reads c may make d
module _ {Command : Type 0} (may : MaybeBytes → Command → MaybeBytes → Type 0) (name : List ℕ) (lock : Option (List ℕ)) where
  abbrev pub job_of : List ℕ → Job
  job_of bytes = record { name = name; bytes = bytes; lock = lock }

  -- for the bytes that the command makes of what the file holds
  abbrev pub DroveFor : Command → Turn → List Event → List Event → Type 0
  DroveFor command u old now = (bytes : List ℕ) × may (read_content old name) command (Some bytes) × Drove u (job_of bytes) old now

  -- What was refused need have made no bytes.
  abbrev pub SaidSo : Command → Outcome → List Event → List Event → Type 0
  SaidSo command (Kept fault) old new = (u : Turn) × (bytes : List ℕ) × Drove u (job_of bytes) old new × (step_of u ≡ Done (Kept fault))
  SaidSo command Made old new = (u : Turn) × DroveFor command u old new × (step_of u ≡ Done Made)
  SaidSo command (Either fault) old new = (u : Turn) × DroveFor command u old new × (step_of u ≡ Done (Either fault))
  -- The command leaves what it read as it is.
  SaidSo command Same old new =
      (u : Turn) × (bytes : List ℕ) × Drove u (job_of bytes) old new × (step_of u ≡ Done Same) × may (read_content old name) command (read_content old name)
  SaidSo command (Unsynced fault) old new = (u : Turn) × (bytes : List ℕ) × Drove u (job_of bytes) old new × (step_of u ≡ Done (Unsynced fault))
  SaidSo command (Unsettled fault) old new = (u : Turn) × DroveFor command u old new × (step_of u ≡ Done (Unsettled fault))

  -- it was cut off after it was clear that it writes nothing
  abbrev pub WasUnwritten : List Event → List Event → Type 0
  WasUnwritten old cut = (u : Turn) × (bytes : List ℕ) × Drove u (job_of bytes) old cut × (10 < place (step_of u)) × IsUnwritten u.outcome

  -- It was cut off before it had bytes to write, or when it had none, or at any step after that.
  abbrev pub WasCut : Command → List Event → List Event → Type 0
  WasCut command old cut = IsEarly (job_of []) old cut ⊎ (WasUnwritten old cut ⊎ ((u : Turn) × DroveFor command u old cut))

  -- A kill leaves the folder as it is, and nothing synced that was not. A crash leaves under each name what it might have left at
  -- some moment.
  abbrev pub CameTo : Command → TurnEnd → List Event → List Event → Type 0
  CameTo command (said outcome) old new = SaidSo command outcome old new
  CameTo command killed old new = WasCut command old new
  CameTo command crashed old new = (cut : List Event) × WasCut command old cut × CrashedSince old cut new

  abbrev pub Happened : Happening Command → List Event → List Event → Type 0
  Happened (turn command end) old new = CameTo command end old new
  Happened crash old new = IsLeft old new

  -- one after another, in a folder in which nothing else changes the file
  abbrev pub CameInTurn : List Event → List (Happening Command) → List Event → Type 0
  CameInTurn old [] new = new ≡ old
  CameInTurn old (h ∷ more) new = (mid : List Event) × Happened h old mid × CameInTurn mid more new

-- Made is kept, and same, and kept is not, nor is unsynced; of the others some are.
abbrev pub IsKeptBy : {Command : Type 0} → TurnEnd → Command → (List Command → Type 0) → List Command → Type 0
IsKeptBy (said Made) command Later all = KeepsFirst command Later all
IsKeptBy (said (Kept fault)) command Later all = Later all
IsKeptBy (said (Either fault)) command Later all = Later all ⊎ KeepsFirst command Later all
IsKeptBy (said Same) command Later all = KeepsFirst command Later all
IsKeptBy (said (Unsynced fault)) command Later all = Later all
IsKeptBy (said (Unsettled fault)) command Later all = Later all ⊎ KeepsFirst command Later all
IsKeptBy killed command Later all = Later all ⊎ KeepsFirst command Later all
IsKeptBy crashed command Later all = Later all ⊎ KeepsFirst command Later all

abbrev pub AreTurnsKept : {Command : Type 0} → List (Happening Command) → List Command → Type 0
AreTurnsKept [] all = all ≡ []
AreTurnsKept (turn command end ∷ more) all = IsKeptBy end command (AreTurnsKept more) all
AreTurnsKept (crash ∷ more) all = AreTurnsKept more all

-- Whatever a crash may leave in the end is what those commands make that were made or said same, and some that were not said to be kept, in
-- their order.
abbrev pub NoTurnIsLost : {Command : Type 0} → (MaybeBytes → Command → MaybeBytes → Type 0) → Type 0
NoTurnIsLost {Command} may =
    (name : List ℕ) (lock : Option (List ℕ)) (old new : List Event) (happened : List (Happening Command)) (c : MaybeBytes) →
    IsLockApart (record { name = name; bytes = []; lock = lock }) → IsSettled old name (read_content old name) → CameInTurn may name lock old happened new → MayLeave new name c →
    (kept : List Command) × AreTurnsKept happened kept × MayRun may (read_content old name) kept c

-- ---- law

-- a change that makes such a content of another
abbrev pub Makes : MaybeBytes → (MaybeBytes → MaybeBytes) → MaybeBytes → Type 0
Makes c make d = d ≡ make c

-- So it is for whatever programs make of what they read.
abbrev pub NoChangeIsLost : Type 0
NoChangeIsLost = NoTurnIsLost Makes
