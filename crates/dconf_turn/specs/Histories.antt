-- Turns that are driven by a host, whatever it answers.
use Rattle.std.specs.Prelude.{ℕ, ◌≡◌, ◌⊎◌, ◌+◌, ◌≤◌, ◌<◌, List, [], ◌∷◌, length, None, IsTrue}
use Rattle.dconf_model.specs.Folders.{Event, file_of}
use Rattle.dconf_model.specs.Replacing.{new_name}
use Rattle.dconf_turn.specs.declared.turn.Turn.{Turn}
use Rattle.dconf_turn.specs.declared.step.Outcome.{Outcome}
use Rattle.dconf_turn.specs.declared.step.Outcome.TheVariants.{Made, Kept, Same, Unsynced}
use Rattle.dconf_turn.specs.declared.step.Step.{Step}
use Rattle.dconf_turn.specs.declared.step.Step.TheVariants.{Lock, Done}
use Rattle.dconf_turn.specs.declared.step.Answer.{Answer}
use Rattle.dconf_turn.specs.Jobs.{Job, IsLockApart}
use Rattle.dconf_turn.specs.Steps.{place, step_of, IsYes, IsFault, Follows, EndsWell, IsDone, IsRefusal, IsAsked}
use Rattle.dconf_turn.specs.Hosts.{DidStep}
use Rattle.dconf_turn.specs.Sayings.{IsKept, IsWhole, Says}
use Rattle.dconf_turn.specs.Progress.{IsBegun, IsAnswered}

-- a step that was carried out, its answer, and the folder after it
pub record Taken : Type 0 where
  pub step : Step
  pub answer : Answer
  pub now : List Event

-- Each step was the one that the turn said, and did to the folder what its answer admits; the turn took the answer.
abbrev pub RanSteps : List Taken → Turn → Turn → Job → List Event → List Event → Type 0
RanSteps [] t u job es now = (u ≡ t) × (now ≡ es)
RanSteps (s ∷ more) t u job es now =
    (s.step ≡ step_of t) × (¬ IsDone s.step) × DidStep s.step s.answer job es s.now × ((next : Turn) × IsAnswered t s.answer next × RanSteps more next u job s.now now)

-- the first of these steps, or the one that the turn is at
abbrev pub first_of : List Taken → Turn → Step
first_of [] u = step_of u
first_of (s ∷ more) u = s.step

-- The steps came in their order, and the end came after the lock was given back, or was not had.
abbrev pub AreInOrder : List Taken → Turn → Type 0
AreInOrder [] u = Unit {0}
AreInOrder (s ∷ more) u = Follows s.step (first_of more u) × EndsWell s.step s.answer (first_of more u) × AreInOrder more u

-- the host could not remove the new file
abbrev pub HasRefusal : List Taken → Type 0
HasRefusal [] = ⊥
HasRefusal (s ∷ more) = IsRefusal s.step s.answer ⊎ HasRefusal more

-- it asked for the old file to be set aside
abbrev pub HasAsked : List Taken → Type 0
HasAsked [] = ⊥
HasAsked (s ∷ more) = IsAsked s.step s.answer ⊎ HasAsked more

-- a step failed, of a file of so many bytes
abbrev pub HasFault : ℕ → List Taken → Type 0
HasFault size [] = ⊥
HasFault size (s ∷ more) = IsFault size s.step s.answer ⊎ HasFault size more

-- the step of that place was answered by yes
abbrev pub HasDone : ℕ → List Taken → Type 0
HasDone k [] = ⊥
HasDone k (s ∷ more) = ((place s.step ≡ k) × IsYes s.answer) ⊎ HasDone k more

-- nothing was to be written, or nothing could be
abbrev pub IsUnwritten : Outcome → Type 0
IsUnwritten (Kept fault) = Unit {0}
IsUnwritten Same = Unit {0}
IsUnwritten (Unsynced fault) = Unit {0}
IsUnwritten outcome = ⊥

pub record IsGoodTurn (taken : List Taken) (u : Turn) (job : Job) (old now : List Event) : Type 0 where
  -- a crash at any moment leaves the old bytes or the new ones, and so does a read; each name but the turn's own is as it was
  pub safe : IsWhole u.keeps job old now
  -- what is said at the end is so
  pub said : (outcome : Outcome) → step_of u ≡ Done outcome → Says u.keeps outcome job old now
  -- and so it is before the end, once no new file is written: nothing but the turn's own names is touched
  pub unwritten : 10 < place (step_of u) → IsUnwritten u.outcome → IsKept u.keeps job old now
  -- made is said only where the rename, or the exchange, and the sync of the folder were answered by yes
  pub asked : step_of u ≡ Done Made → (HasDone 8 taken ⊎ HasDone 7 taken) × HasDone 9 taken
  -- same is said only where what stands was brought to the disk
  pub settles : step_of u ≡ Done Same → HasDone 11 taken
  -- and anything else only where a step failed
  pub persists : (outcome : Outcome) → step_of u ≡ Done outcome → (outcome ≡ Made) ⊎ HasFault (length job.bytes) taken
  -- the new name stands for what it stood for, or for no file, unless the host could not remove it
  pub cleared : (outcome : Outcome) → step_of u ≡ Done outcome →
      (file_of now (new_name job.name) ≡ file_of old (new_name job.name)) ⊎ ((file_of now (new_name job.name) ≡ None) ⊎ HasRefusal taken)
  -- the old file is set aside only where that was asked for
  pub aside : IsTrue u.keeps → HasAsked taken
  pub first : first_of taken u ≡ Lock
  pub order : AreInOrder taken u
  pub count : length taken ≤ 11 + length job.bytes

abbrev pub WhateverIsAnswered : Type 0
WhateverIsAnswered = (taken : List Taken) (t u : Turn) (job : Job) (old now : List Event) → IsLockApart job → IsBegun t → RanSteps taken t u job old now →
    IsGoodTurn taken u job old now
