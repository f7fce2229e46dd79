-- What is seen of a store after turns of programs of any kind where files of it may be bad. Of a file that is no sound database counts what is
-- kept of it: for the command what dconf_found's `counted` gives, for the calls what dconf_mended's `mended_file` gives.
use Rattle.std.specs.Prelude.{◌≡◌, ◌⊎◌, ℕ, List, [], ◌∷◌, Option, Some, None}
use Rattle.dconf_model.specs.Bytes.{MaybeBytes}
use Rattle.dconf_model.specs.Databases.{AreLayers, IsBad, IsGood, IsLayer, Verdict}
use Rattle.dconf_model.specs.Folders.{Event, IsSettled, MayLeave, read_content}
use Rattle.dconf_model.specs.Layers.{Layers}
use Rattle.dconf_model.specs.Profiles.{Database, database_file}
use Rattle.dconf_model.specs.Settings.{Settings}
use Rattle.dconf_model.specs.Sources.{Given, last_value}
use Rattle.dconf_model.specs.Stores.{FileGives, own_after}
use Rattle.dconf_turn.specs.Jobs.{IsLockApart}
use Rattle.dconf_turn.specs.Survivals.{AreTurnsKept, CameInTurn, Happening}
use Rattle.dconfdb_calls.specs.MixedTurns.{Asked, ShowsGiven, TurnMakes, changes_asked}
use Rattle.dconf_found.specs.FoundFolders.{Counts}
use Rattle.dconf_found.specs.declared.bad_databases.Loss.{Loss}
use Rattle.dconf_mended.specs.Mending.{IsMended}
use Rattle.dconf_mended.specs.declared.mended.Standing.{Standing}
use Rattle.dconf_mended.specs.declared.mended.Standing.TheVariants.{Whole, Saved, Nothing}

-- ---- what counts of a file

abbrev pub file_by : Standing → List ℕ → MaybeBytes
file_by Whole bytes = Some bytes
file_by Saved bytes = Some bytes
file_by Nothing bytes = None

-- of a bad one for the calls
pub record CountsMended (file : List ℕ) (it : MaybeBytes) : Type 0 where
  pub verdict : Verdict
  pub bad : IsBad (Some file) verdict
  pub standing : Standing
  pub bytes : List ℕ
  pub keys : ℕ
  pub locks : ℕ
  pub mended : IsMended file standing bytes keys locks
  pub it_is : it ≡ file_by standing bytes

-- for the command or for the calls; a sound one counts as it is
abbrev pub CountsAs : MaybeBytes → MaybeBytes → Type 0
CountsAs None it = it ≡ None
CountsAs (Some file) it = ((loss : Option Loss) × Counts file it loss) ⊎ ((IsGood (Some file) × (it ≡ Some file)) ⊎ CountsMended file it)

abbrev pub AreCounted : List MaybeBytes → List MaybeBytes → Type 0
AreCounted [] [] = Unit {0}
AreCounted (file ∷ files) (it ∷ items) = CountsAs file it × AreCounted files items
AreCounted _ _ = ⊥

-- law: whichever program counts, what counts of a file says the same settings
abbrev pub FilesCountAlike : Type 0
FilesCountAlike = (file it jt : MaybeBytes) (s t : Settings) → CountsAs file it → CountsAs file jt → IsLayer it s → IsLayer jt t → s ≡ t

-- law: and it is a sound database, or none
abbrev pub CountsAreSound : Type 0
CountsAreSound = (file it : MaybeBytes) → CountsAs file it → IsGood it

-- what counts of each file gives so
abbrev pub CountGives : MaybeBytes → Given → Type 0
CountGives file g = (it : MaybeBytes) × CountsAs file it × FileGives it g

abbrev pub CountsGive : List MaybeBytes → List Given → Type 0
CountsGive [] [] = Unit {0}
CountsGive (file ∷ files) (g ∷ gs) = CountGives file g × CountsGive files gs
CountsGive _ _ = ⊥

-- ---- turns

-- a turn makes this of that file, beside the files of the other databases, by what counts of each
abbrev pub CountedTurnMakes : List ℕ → Database → List Database → List MaybeBytes → MaybeBytes → Asked → MaybeBytes → Type 0
CountedTurnMakes profile d ds files old asked new =
    (it : MaybeBytes) × (others : List MaybeBytes) × CountsAs old it × AreCounted files others × TurnMakes profile d ds others it asked new

-- law: whatever turns of whatever programs came, and crashes between them, all that is seen by what counts of each file is what rows, locks,
-- the changes of the turns that are kept, and the order of the databases give. The user's own file may be bad, and so may any other.
abbrev pub MixedTurnsMendAll : Type 0
MixedTurnsMendAll =
    (profile : List ℕ) (d : Database) (ds : List Database) (files : List MaybeBytes) (lock : Option (List ℕ)) (old new : List Event)
    (happened : List (Happening Asked)) (c : MaybeBytes) (g : Given) (gs : List Given) →
    IsLockApart (record { name = database_file d; bytes = []; lock = lock }) → IsSettled old (database_file d) (read_content old (database_file d)) →
    CountsGive (read_content old (database_file d) ∷ files) (g ∷ gs) →
    CameInTurn (CountedTurnMakes profile d ds files) (database_file d) lock old happened new → MayLeave new (database_file d) c →
    (kept : List Asked) × AreTurnsKept happened kept
    × ((it : MaybeBytes) (others : List MaybeBytes) (l : Layers) → CountsAs c it → AreCounted files others → AreLayers (it ∷ others) l.layers
    → ShowsGiven (own_after gs (last_value g.values) (changes_asked kept)) gs l)
