-- A look at the files of a store, whatever is answered; and what the newer snapshot holds where the answers are true.
use Rattle.std.specs.Prelude.{ℕ, zero, suc, ◌≡◌, ◌⊎◌, ◌*◌, ◌≤◌, ◌<◌, List, [], ◌∷◌, length, Option, Some, None, Bool, true, false, IsTrue}
use Rattle.dconf_files.specs.declared.stamp.Sameness.TheVariants as sameness
use Rattle.dconf_files.specs.Stamps.{sameness_of}
use Rattle.dconf_files.specs.Courses.{Course, NotesChanges, Reading}
use Rattle.dconf_verdicts.specs.declared.faults.FaultKind.{FaultKind}
use Rattle.dconf_verdicts.specs.Faults.{is_files_own}
use Rattle.dconf_steps.specs.declared.refresh.Refresh.{Refresh}
use Rattle.dconf_steps.specs.declared.refresh.LookEnd.TheVariants.{Failed, Same, Newer}
use Rattle.dconf_steps.specs.declared.refresh.LookStep.{LookStep}
use Rattle.dconf_steps.specs.declared.refresh.LookStep.TheVariants.{Stat, Read, Compare, Keep, Open, Done}
use Rattle.dconf_steps.specs.Looks.{look_step, is_had, IsLookDone, IsRefreshBegun, IsLookAnswered}

-- a step that was carried out, its answer, and the fault of the host for which that was given, if there was one
pub record Looked : Type 0 where
  pub step : LookStep
  pub said : Bool
  pub fault : Option FaultKind

-- Each step was the one that the look said, and the look took the answer.
abbrev pub RanLook : List Looked → Refresh → Refresh → Type 0
RanLook [] r u = u ≡ r
RanLook (s ∷ more) r u = (s.step ≡ look_step r) × (¬ IsLookDone s.step) × ((next : Refresh) × IsLookAnswered r s.said next × RanLook more next u)

abbrev pub HasLooked : LookStep → Bool → List Looked → Type 0
HasLooked step said [] = ⊥
HasLooked step said (s ∷ more) = ((s.step ≡ step) × (s.said ≡ said)) ⊎ HasLooked step said more

-- ---- what is kept

-- it was said that the file is as it was, or that what was read is what it held
abbrev pub SaysSame : Option Looked → ℕ → Type 0
SaysSame None at = ⊥
SaysSame (Some s) at = ((s.step ≡ Stat at) ⊎ (s.step ≡ Compare at)) × (s.said ≡ true)

abbrev pub IsKeptWell : Option Looked → LookStep → Type 0
IsKeptWell before (Keep at) = SaysSame before at
IsKeptWell before step = Unit {0}

-- each part that is kept was just said to be the same
abbrev pub AreKeptWell : Option Looked → List Looked → Type 0
AreKeptWell before [] = Unit {0}
AreKeptWell before (s ∷ more) = IsKeptWell before s.step × AreKeptWell (Some s) more

-- ---- which parts are had

abbrev pub had_by : LookStep → Bool → List ℕ → List ℕ
had_by (Keep at) said more = at ∷ more
had_by (Open at) true more = at ∷ more
had_by step said more = more

-- the files whose parts are had, in order
abbrev pub had_of : List Looked → List ℕ
had_of [] = []
had_of (s ∷ more) = had_by s.step s.said (had_of more)

-- so many numbers from this one on
abbrev pub numbers_from : ℕ → ℕ → List ℕ
numbers_from at zero = []
numbers_from at (suc n) = at ∷ numbers_from (suc at) n

abbrev pub IsOpening : LookStep → Bool → Type 0
IsOpening (Open at) true = Unit {0}
IsOpening step said = ⊥

-- a part is another one
abbrev pub HasOpened : List Looked → Type 0
HasOpened [] = ⊥
HasOpened (s ∷ more) = IsOpening s.step s.said ⊎ HasOpened more

abbrev pub IsRefusal : LookStep → Bool → Type 0
IsRefusal (Read at) false = Unit {0}
IsRefusal (Open at) false = Unit {0}
IsRefusal step said = ⊥

-- a file could not be read or opened
abbrev pub HasRefused : List Looked → Type 0
HasRefused [] = ⊥
HasRefused (s ∷ more) = IsRefusal s.step s.said ⊎ HasRefused more

-- ---- faults of the host

abbrev pub IsJudged : Bool → LookStep → Bool → Option FaultKind → Type 0
IsJudged lenient step said None = Unit {0}
IsJudged lenient step said (Some kind) = said ≡ is_had step lenient kind

-- each fault was judged by the look
abbrev pub AreJudged : Bool → List Looked → Type 0
AreJudged lenient [] = Unit {0}
AreJudged lenient (s ∷ more) = IsJudged lenient s.step s.said s.fault × AreJudged lenient more

-- it is no reading, or by no fault of the file's own
abbrev pub IsNotOwn : LookStep → Option FaultKind → Type 0
IsNotOwn (Read at) (Some kind) = is_files_own kind ≡ false
IsNotOwn step fault = Unit {0}

-- a file could not be read or opened, and not by a fault of its own that its reading met
abbrev pub HasRefusedOtherwise : List Looked → Type 0
HasRefusedOtherwise [] = ⊥
HasRefusedOtherwise (s ∷ more) = (IsRefusal s.step s.said × IsNotOwn s.step s.fault) ⊎ HasRefusedOtherwise more

abbrev pub IsUnread : LookStep → Option FaultKind → Type 0
IsUnread (Read at) (Some it) = Unit {0}
IsUnread step fault = ⊥

-- a reading met a fault
abbrev pub HasUnread : List Looked → Type 0
HasUnread [] = ⊥
HasUnread (s ∷ more) = IsUnread s.step s.fault ⊎ HasUnread more

-- ---- what the parts are of

-- The files in the course of time: how each was read of which an old part was made, and when it was looked at last.
pub record Files : Type 0 where
  pub course : ℕ → Course
  pub reading : (at : ℕ) → Reading (course at)
  pub now : ℕ → ℕ
  pub later : (at : ℕ) → (reading at).read ≤ now at

-- what was read of a file: none if it was missing
abbrev pub was : Files → ℕ → Option (List ℕ)
was f at = (f.course at).content (f.reading at).read

-- what it held when it was looked at last
abbrev pub is : Files → ℕ → Option (List ℕ)
is f at = (f.course at).content (f.now at)

-- Supposed of a host: it notes when a file changes.
abbrev pub NoteChanges : Files → Type 0
NoteChanges f = (at : ℕ) → NotesChanges (f.course at)

-- it is said to be the file that was read
abbrev pub IsSaidSame : Files → ℕ → Type 0
IsSaidSame f at =
    sameness_of ((f.course at).stamp (f.reading at).stamped) ((f.course at).stamp (f.now at)) ((f.course at).clock (f.reading at).began) (f.reading at).held ≡ sameness.Same

-- what a yes says
abbrev pub IsTrueOf : Files → LookStep → Bool → Type 0
IsTrueOf f (Stat at) true = IsSaidSame f at
IsTrueOf f (Compare at) true = is f at ≡ was f at
IsTrueOf f step said = Unit {0}

abbrev pub AreTrueOf : Files → List Looked → Type 0
AreTrueOf f [] = Unit {0}
AreTrueOf f (s ∷ more) = IsTrueOf f s.step s.said × AreTrueOf f more

-- a part of the file that was kept has the old content, and one that was opened the new one
abbrev pub IsPartOf : Files → List Looked → ℕ → Option (List ℕ) → Type 0
IsPartOf f taken at c =
    (((said : Bool) × HasLooked (Keep at) said taken) × (c ≡ was f at)) ⊎ (HasLooked (Open at) true taken × (c ≡ is f at))

-- ---- the law

pub record IsGoodLook (count : ℕ) (has_old in_turn is_lenient : Bool) (taken : List Looked) (u : Refresh) : Type 0 where
  pub kept : AreKeptWell None taken
  -- in a turn the first file is read, and the host isn't asked of it
  pub unasked : IsTrue in_turn → (said : Bool) → HasLooked (Stat 0) said taken → ⊥
  pub read : IsTrue in_turn → 0 < count → (look_step u ≡ Done Same) ⊎ (look_step u ≡ Done Newer) → HasLooked (Read 0) true taken
  -- all parts are had, each once and in order, or the old snapshot stays
  pub same : look_step u ≡ Done Same → (had_of taken ≡ numbers_from 0 count) × IsTrue has_old × ¬ HasOpened taken
  pub newer : look_step u ≡ Done Newer → (had_of taken ≡ numbers_from 0 count) × ((has_old ≡ false) ⊎ HasOpened taken)
  pub failed : look_step u ≡ Done Failed → HasRefused taken
  -- a lenient look fails by no fault of a file's own that its reading met; another fails by each
  pub lenient : IsTrue is_lenient → AreJudged is_lenient taken → look_step u ≡ Done Failed → HasRefusedOtherwise taken
  pub strict : is_lenient ≡ false → AreJudged is_lenient taken → HasUnread taken → HasRefused taken
  pub count_is : length taken ≤ 4 * count
  -- where the answers are true, each part is of what the file held
  pub seen : (f : Files) → NoteChanges f → AreTrueOf f taken → (at : ℕ) (c : Option (List ℕ)) → IsPartOf f taken at c → c ≡ is f at

abbrev pub WhateverIsSeen : Type 0
WhateverIsSeen = (count : ℕ) (has_old in_turn is_lenient : Bool) (taken : List Looked) (r u : Refresh) → IsRefreshBegun count has_old in_turn is_lenient r → RanLook taken r u
    → IsGoodLook count has_old in_turn is_lenient taken u
