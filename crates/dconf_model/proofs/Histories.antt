-- Histories: commands that change one file, some of them stopped by a crash, whatever they make
-- of it.
use Rattle.std.specs.Prelude.{ℕ, ◌≡◌, ◌⊎◌, List, [], ◌∷◌, length}
use Rattle.dconf_model.specs.Bytes.{MaybeBytes}
use Rattle.dconf_model.specs.Folders.{Event, MayLeave, MayHaveLeft, IsSettled, Grows, read_content}

-- how a command ended: with status 0, with a refusal, with a fault of the device, or not at all;
-- or a crash came before it began
pub data Ending : Type 0 where
  done : Ending
  refused : Ending
  faulted : Ending
  stopped : Ending
  crashed : Ending

-- What commands make of a content: `May c command d` says that a command which reads c may leave d. It is no function, since
-- the bytes of a database are not laid down by what it says.
abbrev pub MayRun : {Command : Type 0} → (MaybeBytes → Command → MaybeBytes → Type 0) → MaybeBytes → List Command → MaybeBytes → Type 0
MayRun may c [] d = d ≡ c
MayRun may c (command ∷ more) d = (mid : MaybeBytes) × may c command mid × MayRun may mid more d

module _ {Command : Type 0} (may : MaybeBytes → Command → MaybeBytes → Type 0) (name : List ℕ) where
  -- a crash at any moment of a command's run leaves what it might have left before, or what the command makes of what it read
  pub record IsWholeAtAnyMoment (old new : List Event) (command : Command) : Type 0 where
    pub grown : Grows old new
    pub any_moment : (c : MaybeBytes) → MayHaveLeft new (length old) name c → MayLeave old name c ⊎ may (read_content old name) command c

  -- what a command that ended so made of old
  abbrev pub Step : List Event → Command → Ending → List Event → Type 0
  Step old command done new = (d : MaybeBytes) × may (read_content old name) command d × IsSettled new name d × (read_content new name ≡ d)
  Step old command refused new = ((c : MaybeBytes) → MayLeave new name c → MayLeave old name c) × (read_content new name ≡ read_content old name)
  Step old command faulted new =
      IsWholeAtAnyMoment old new command × ((read_content new name ≡ read_content old name) ⊎ may (read_content old name) command (read_content new name))
  -- what a crash left is settled, and is what the next command finds
  Step old command stopped new =
      (cut : List Event) × IsWholeAtAnyMoment old cut command × ((c : MaybeBytes) × MayHaveLeft cut (length old) name c × IsSettled new name c × (read_content new name ≡ c))
  Step old command crashed new = (c : MaybeBytes) × MayLeave old name c × IsSettled new name c × (read_content new name ≡ c)

  abbrev pub History : List Event → List (Command × Ending) → List Event → Type 0
  History old [] new = new ≡ old
  History old (step ∷ more) new = (mid : List Event) × Step old step.0 step.1 mid × History mid more new

-- ---- what is left of it

abbrev pub KeepsFirst : {Command : Type 0} → Command → (List Command → Type 0) → List Command → Type 0
KeepsFirst {Command} command Later all = (more : List Command) × (all ≡ command ∷ more) × Later more

abbrev pub KeptBy : {Command : Type 0} → Ending → Command → (List Command → Type 0) → List Command → Type 0
KeptBy done command Later all = KeepsFirst command Later all
KeptBy refused command Later all = Later all
KeptBy faulted command Later all = Later all ⊎ KeepsFirst command Later all
KeptBy stopped command Later all = Later all ⊎ KeepsFirst command Later all
KeptBy crashed command Later all = Later all

-- these commands are all that were done, and some that were stopped or faulted, in order
abbrev pub Kept : {Command : Type 0} → List (Command × Ending) → List Command → Type 0
Kept [] all = all ≡ []
Kept (step ∷ more) all = KeptBy step.1 step.0 (Kept more) all

-- Whatever a crash may leave in the end is what the commands made that were done, and some that were not, in order.
abbrev pub IsNeverLost : {Command : Type 0} → (MaybeBytes → Command → MaybeBytes → Type 0) → Type 0
IsNeverLost {Command} may =
    (name : List ℕ) (old new : List Event) (steps : List (Command × Ending)) (c : MaybeBytes) →
    IsSettled old name (read_content old name) → History may name old steps new → MayLeave new name c →
    (kept : List Command) × Kept steps kept × MayRun may (read_content old name) kept c
