-- What a run of a command does, by what is known of its folder and its input.
use Rattle.std.specs.Prelude.{◌≡◌, ◌≢◌, ◌⊎◌, ℕ, List, [], codes}
use Rattle.dconf_model.specs.Folders.{Event, read_content}
use Rattle.dconf_model.specs.FaultTexts.{device_text}
use Rattle.dconf_model.specs.Replacing.{MaybeReplaced}
use Rattle.dconf_model.specs.Commands.{Command}
use Rattle.dconf_model.specs.Reads.{Input, ReadResults}
use Rattle.dconf_model.specs.Outcomes.{Output, refused_output}
use Rattle.dconf_model.specs.Runs.{Answers, IsNewName, MayMake, NoMemory, ReadsFrom}
use Rattle.dconf_folders.specs.declared.folder.Folder.{Ghosts}
use Rattle.dconf_streams.specs.Readings.{BreaksAt, Gave, IsKept, Reading}

-- the line for an input that failed, or the one for memory
abbrev pub SaysFailedInput : Output → Type 0
SaysFailedInput output = (output ≡ refused_output (device_text (codes "input"))) ⊎ NoMemory output

-- the file that a command is to replace, by the reads that it made
abbrev pub IsToReplace : Command → Input → List Reading → List ℕ → Type 0
IsToReplace command input log name = (reads : ReadResults) → Gave reads 0 log → (bytes : List ℕ) × MayMake command input reads name bytes

-- the line for a failed device names the file that could not be read or replaced
abbrev pub NamesFile : Command → Input → List Reading → Output → Type 0
NamesFile command input log output =
    (name : List ℕ) × (output ≡ refused_output (device_text name)) × (BreaksAt log name ⊎ IsToReplace command input log name)

-- a text for out with status 0, or one for err with status 1
abbrev pub IsFormed : Output → Type 0
IsFormed output = ((output.status ≡ 0) × (output.err ≡ [])) ⊎ ((output.status ≡ 1) × (output.out ≡ []))

-- In any folder: whatever reads gave what those of this run gave, its output is one that the command makes of them.
pub record RanAnywhere (failures_old failures_new : ℕ) (command : Command) (input : Input) (output : Output) : Type 0 where
  pub log : List Reading
  pub answers : (reads : ReadResults) → Gave reads 0 log → Answers command input reads output
  pub device : failures_new ≢ failures_old → NamesFile command input log output ⊎ NoMemory output
  pub form : IsFormed output

-- Where memory ran out nothing was done to the folder, whatever its reads gave.
abbrev pub KeepsWithoutMemory : {F : Type 0} → Ghosts F → F → F → Output → Type 0
KeepsWithoutMemory ghosts old new output = NoMemory output → IsKept ghosts old new

-- a file of the command's own: the one that it replaces, or the new one that takes its name
abbrev pub IsOwn : Command → Input → List Event → List ℕ → Type 0
IsOwn command input old name =
    (reads : ReadResults) × ReadsFrom old reads × (((bytes : List ℕ) × MayMake command input reads name bytes) ⊎ IsNewName command input reads name)

-- No file but the command's own reads otherwise than before. Where it is refused nothing was done, unless the device failed while
-- its file was replaced: then that reads as before or as it was to be.
pub record KeepsFiles (command : Command) (input : Input) (old new : List Event) (output : Output) : Type 0 where
  pub others : (name : List ℕ) → (read_content new name ≡ read_content old name) ⊎ IsOwn command input old name
  pub refused : output.status ≡ 1 → (new ≡ old)
      ⊎ ((name : List ℕ) × (bytes : List ℕ) × (output ≡ refused_output (device_text name)) × MaybeReplaced old new name bytes)
