-- How an answer comes about in a folder.
use Rattle.std.specs.Prelude.{◌≡◌, ◌⊎◌, List, Option, Some, None}
use Rattle.dconf_folders.specs.declared.folder.Folder.{Ghosts}
use Rattle.dconf_model.specs.Folders.{Event}
use Rattle.dconf_model.specs.FaultTexts.{device_text}
use Rattle.dconf_model.specs.Replacing.{Replaced, MaybeReplaced}
use Rattle.dconf_model.specs.Outcomes.{Outcome, Output, Replacement, refused_output}
use Rattle.dconf_model.specs.Runs.{NoMemory}
use Rattle.dconf_folders.specs.Failures.{IsOneMore}

module _ {F : Type 0} (ghosts : Ghosts F) (old new : F) where
  -- a file was replaced; or the device failed, and the file is the old one or the new one; or memory ran out, and nothing was done
  abbrev pub Replaces : Outcome → Replacement → Output → Type 0
  Replaces o r output =
      ((output ≡ o.output) × (ghosts.failed new ≡ ghosts.failed old) × ((es : List Event) → ghosts.past old es → (now : List Event) × ghosts.past new now × Replaced es now r.name r.bytes))
      ⊎ (((output ≡ refused_output (device_text r.name)) × IsOneMore (ghosts.failed old) (ghosts.failed new)
      × ((es : List Event) → ghosts.past old es → (now : List Event) × ghosts.past new now × MaybeReplaced es now r.name r.bytes))
      ⊎ (NoMemory output × (new ≡ old)))

  abbrev pub EndsBy : Outcome → Option Replacement → Output → Type 0
  EndsBy o None output = (output ≡ o.output) × (new ≡ old)
  EndsBy o (Some r) output = Replaces o r output

  -- what is written of an outcome, and what was done for it
  abbrev pub Ends : Option Outcome → Output → Type 0
  Ends None output = NoMemory output × (new ≡ old)
  Ends (Some o) output = EndsBy o o.change output
