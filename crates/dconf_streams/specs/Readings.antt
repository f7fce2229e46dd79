-- What a command read of a folder, and what it decides by that. It holds of any folder: of one whose events are known, and of one of
-- which nothing is known.
use Rattle.std.specs.Prelude.{◌≡◌, ◌≢◌, ◌⊎◌, ◌+◌, ℕ, List, [], ◌∷◌, map, Option, Some, None, IsTrue, vec_items}
use Rattle.dconf_folders.specs.declared.folder.Folder.{Ghosts}
use Rattle.dconf_model.specs.Folders.{Event, read_content}
use Rattle.dconf_model.specs.FaultTexts.{device_text}
use Rattle.dconf_model.specs.Outcomes.{Outcome}
use Rattle.dconf_model.specs.Reads.{FileRead, ReadResults, read_of}
use Rattle.dconf_model.specs.Reads.FileRead.{no_file, holds, failed}
use Rattle.dconf_model.specs.Sources.{Source}
use Rattle.dconf_streams.specs.declared.folder_files.NamedFile.{NamedFile}
use Rattle.dconf_streams.specs.Answers.{Answered, GivesOutcome, RefusesFor}
use Rattle.dconf_folders.specs.Failures.{IsOneMore}

-- a read of a file, and what it gave
pub record Reading : Type 0 where
  pub name : List ℕ
  pub gave : FileRead

-- the reads from that number on gave this
abbrev pub Gave : ReadResults → ℕ → List Reading → Type 0
Gave reads n [] = Unit {0}
Gave reads n (r ∷ more) = (reads n r.name ≡ r.gave) × Gave reads (n + 1) more

-- each read gave what the folder holds, or failed
abbrev pub AreReadFrom : List Event → List Reading → Type 0
AreReadFrom es [] = Unit {0}
AreReadFrom es (r ∷ more) = ((r.gave ≡ read_of (read_content es r.name)) ⊎ (r.gave ≡ failed)) × AreReadFrom es more

-- no read failed
abbrev pub AllRead : List Reading → Type 0
AllRead [] = Unit {0}
AllRead (r ∷ more) = (r.gave ≢ failed) × AllRead more

-- the last read failed, of the file of this name
abbrev pub BreaksAt : List Reading → List ℕ → Type 0
BreaksAt [] name = ⊥
BreaksAt (r ∷ []) name = (r.gave ≡ failed) × (r.name ≡ name)
BreaksAt (r ∷ more) name = (r.gave ≢ failed) × BreaksAt more name

-- Nothing was done to a folder, and its turn is as before. If its host's answers are true now, they were.
pub record IsKept {F : Type 0} (ghosts : Ghosts F) (old new : F) : Type 0 where
  pub past : (es : List Event) → ghosts.past old es → ghosts.past new es
  pub honest : IsTrue (ghosts.honest new) → IsTrue (ghosts.honest old)
  pub turn : ghosts.holds_turn new ≡ ghosts.holds_turn old

-- a folder was read, which changes none of its files
pub record HasRead {F : Type 0} (ghosts : Ghosts F) (old new : F) (log : List Reading) : Type 0 where
  pub kept : IsKept ghosts old new
  -- where its host's answers are true
  pub known : IsTrue (ghosts.honest new) → (es : List Event) → ghosts.past old es → AreReadFrom es log
  pub none_failed : ghosts.failed new ≡ ghosts.failed old

-- the device failed at a read, and the answer says of which file; or it failed at none
abbrev pub Tells : ℕ → ℕ → List Reading → Answered → Type 0
Tells old new log answered =
    (AllRead log × (new ≡ old)) ⊎ ((name : List ℕ) × BreaksAt log name × IsOneMore old new × RefusesFor answered (device_text name))

-- What a command decides by its reads, the first of which has that number: whatever reads gave the same, its answer is one of the
-- outcomes that they make.
pub record Decides {F : Type 0} (ghosts : Ghosts F) (old new : F) (n : ℕ) (Makes : ReadResults → Outcome → Type 0)
    (answered : Answered) : Type 0 where
  pub log : List Reading
  pub kept : IsKept ghosts old new
  pub known : IsTrue (ghosts.honest new) → (es : List Event) → ghosts.past old es → AreReadFrom es log
  pub tells : Tells (ghosts.failed old) (ghosts.failed new) log answered
  pub answers : (reads : ReadResults) → Gave reads n log → GivesOutcome answered (Makes reads)

-- no bytes are looked at yet
abbrev pub Nothing : List ℕ → Outcome → Type 0
Nothing bytes o = ⊥

abbrev pub NothingIfAny : Option (List ℕ) → Outcome → Type 0
NothingIfAny bytes o = ⊥

-- one read of a file
abbrev pub one_read : List ℕ → FileRead → List Reading
one_read name gave = record { name = name; gave = gave } ∷ []

-- what a read gave that didn't fail
abbrev pub found_read : Option (List ℕ) → FileRead
found_read None = no_file
found_read (Some bytes) = holds bytes

-- no file is looked at yet
abbrev pub NoSources : List Source → Outcome → Type 0
NoSources files o = ⊥

-- files that were read, by their names
abbrev pub named_source : NamedFile → Source
named_source file = record { name = file.name.now; bytes = vec_items file.bytes }

abbrev pub named_sources : List NamedFile → List Source
named_sources files = map named_source files

-- the reads that gave them
abbrev pub held_read : Source → Reading
held_read s = record { name = s.name; gave = holds s.bytes }

abbrev pub reads_of : List Source → List Reading
reads_of files = map held_read files
