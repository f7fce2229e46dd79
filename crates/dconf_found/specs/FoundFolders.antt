-- What counts of a bad database's file, what a read of a store that was found gives, and what its folder shows.
use Rattle.std.specs.Prelude.{◌≡◌, ◌⊎◌, ℕ, Bool, false, List, [], ◌∷◌, ◌++◌, IfSome, IsSome, true, not, ◌&&◌, map, Option, Some, None, option_map, vec_items, ◌≢◌}
use Rattle.std.specs.String.{string_bytes}
use Rattle.dconf_model.specs.Folders.{Event, file_of, read_content}
use Rattle.dconf_model.specs.Folders.Event.{touch, link}
use Rattle.dconf_folders.specs.Notes.{events_noted, is_honest}
use Rattle.dconf_found.specs.Everyones.{IsEveryones}
use Rattle.dconf_found.specs.declared.found.FoundFolder.{FoundFolder}
use Rattle.dconf_found.specs.declared.lookup.Lookup.{Lookup}
use Rattle.std.specs.List.{list_any}
use Rattle.std.specs.Str.{bytes_eq}
use Rattle.dconf_model.specs.Paths.{starts_with_slash}
use Rattle.dconf_model.specs.Reads.{IsOverSize}
use Rattle.dconf_found.specs.declared.bad.BadDatabase.{BadDatabase}
use Rattle.dconf_found.specs.declared.bad_databases.Loss.{Loss}
use Rattle.dconf_model.specs.Databases.{IsBad, IsGood, IsTooBig, Verdict}
use Rattle.dconf_model.specs.Opening.{IsOpenFault, OpenFault}
use Rattle.dconf_model.specs.Salvaging.{IsSalvaged}
use Rattle.dconf_model.specs.Settings.{Settings}
use Rattle.dconfdb_calls.specs.Keyless.{IsKeyless}
use Rattle.dconfdb_calls.specs.Numbers.{number_of}
use Rattle.dconfdb_calls.specs.Opened.{IsToldOf}
use Rattle.dconfdb_calls.specs.Salvaged.{IsSalvageOf}
use Rattle.dconfdb_calls.specs.declared.fault.Fault.{Fault}
use Rattle.dconfdb_calls.specs.declared.fault.Fault.TheVariants.{Memory, TooBig}
use Rattle.dconfdb_calls.specs.declared.opened.BadFile.{BadFile}

-- it is a database of another kind: what is salvaged, so many values and locks. What is told of it is why it is no sound one.
pub record CountsSalvaged (file : List ℕ) (counted : Option (List ℕ)) (loss : Option Loss) : Type 0 where
  pub it : List ℕ
  pub lost : Loss
  pub other : (mended : List ℕ) → ¬ IsKeyless file mended
  pub salvaged : IsSalvageOf file it lost.keys lost.locks
  pub counted_is : counted ≡ Some it
  pub loss_is : loss ≡ Some lost
  pub told : IsToldOf (Some file) (number_of lost.bad.fault) lost.bad.unsound

-- it is none: nothing
pub record CountsNothing (file : List ℕ) (counted : Option (List ℕ)) (loss : Option Loss) : Type 0 where
  pub lost : Loss
  pub fault : OpenFault
  pub none : IsOpenFault file fault
  pub counted_is : counted ≡ None
  pub loss_is : loss ≡ Some lost
  pub keys : lost.keys ≡ 0
  pub locks : lost.locks ≡ 0
  pub told : IsToldOf (Some file) (number_of lost.bad.fault) lost.bad.unsound

-- of one that dconf made of no key counts the sound database that it stands for
abbrev pub CountsBad : List ℕ → Option (List ℕ) → Option Loss → Type 0
CountsBad file counted loss =
    (v : Verdict) × IsBad (Some file) v
    × (((it : List ℕ) × IsKeyless file it × (counted ≡ Some it) × (loss ≡ None)) ⊎ (CountsSalvaged file counted loss ⊎ CountsNothing file counted loss))

-- a sound database as it is
abbrev pub Counts : List ℕ → Option (List ℕ) → Option Loss → Type 0
Counts file counted loss = (IsGood (Some file) × (counted ≡ Some file) × (loss ≡ None)) ⊎ CountsBad file counted loss

-- what is salvaged of it has no database that could be read
abbrev pub IsTooBigToCount : List ℕ → Type 0
IsTooBigToCount file =
    ((v : Verdict) × IsBad (Some file) v × ((s : Settings) × IsSalvaged file s × IsTooBig s))
    ⊎ ((it : Option (List ℕ)) × ((loss : Option Loss) × Counts file it loss × IsOverSize it))

-- ---- words of private parts

abbrev pub nothing_of : BadFile → Loss
nothing_of bad = record { bad = bad; keys = 0; locks = 0 }

-- a fault of a file, and not of what is written
abbrev pub IsOfNoDatabase : Fault → Type 0
IsOfNoDatabase fault = (fault ≢ Memory) × (fault ≢ TooBig)

-- ---- what is lost of databases

-- of which one what is lost
abbrev pub Lost : Type 0
Lost = List ℕ × Loss

abbrev pub losses : List BadDatabase → List Lost
losses bad = map (λ b. (string_bytes b.name, b.loss)) bad

abbrev pub losses_of : List ℕ → Option Loss → List Lost
losses_of name None = []
losses_of name (Some loss) = (name, loss) ∷ []

-- something is lost of the database of this name
abbrev pub is_bad : List Lost → List ℕ → Bool
is_bad lost name = list_any (λ it. bytes_eq it.0 name) lost

-- ---- what a read gives

-- the profile of all users with its databases beside it, another one as it is
abbrev pub IsProfileFile : Bool → Option (List ℕ) → Option (List ℕ) → Type 0
IsProfileFile is_everyones None given = given ≡ None
IsProfileFile true (Some held) given = (text : List ℕ) × IsEveryones held text × (given ≡ Some text)
IsProfileFile false (Some held) given = given ≡ Some held

-- or the one that was made
abbrev pub IsProfile : Option (List ℕ) → Bool → Option (List ℕ) → Option (List ℕ) → Type 0
IsProfile None is_everyones held given = IsProfileFile is_everyones held given
IsProfile (Some text) is_everyones held given = given ≡ Some text

-- of a database what counts
abbrev pub IsDatabaseGiven : Option (List ℕ) → Option (List ℕ) → Option Loss → Type 0
IsDatabaseGiven None given lost = (given ≡ None) × (lost ≡ None)
IsDatabaseGiven (Some file) given lost = Counts file given lost

abbrev pub made_of : Lookup → Option (List ℕ)
made_of lookup = option_map vec_items lookup.made

abbrev pub is_profile : Lookup → List ℕ → Bool
is_profile lookup name = bytes_eq name (string_bytes lookup.profile)

-- without a folder no name in it has a file
abbrev pub is_nowhere : Lookup → List ℕ → Bool
is_nowhere lookup name = not lookup.has_folder && not (starts_with_slash name)

-- by whether the name is the profile's, and whether it is nowhere
abbrev pub IsGivenBy : Bool → Bool → Lookup → Option (List ℕ) → Option (List ℕ) → Option Loss → Type 0
IsGivenBy true nowhere lookup held given lost = IsProfile (made_of lookup) lookup.is_everyones held given × (lost ≡ None)
IsGivenBy false true lookup held given lost = (given ≡ None) × (lost ≡ None)
IsGivenBy false false lookup held given lost = IsDatabaseGiven held given lost

-- where the name has this file, a read gives this, and this is lost
abbrev pub IsGiven : Lookup → List ℕ → Option (List ℕ) → Option (List ℕ) → Option Loss → Type 0
IsGiven lookup name held given lost = IsGivenBy (is_profile lookup name) (is_nowhere lookup name) lookup held given lost

-- and what was lost before, with that
abbrev pub IsLookedUp : Lookup → List ℕ → Option (List ℕ) → Option (List ℕ) → List Lost → List Lost → Type 0
IsLookedUp lookup name held given old new = (lost : Option Loss) × IsGiven lookup name held given lost × (new ≡ old ++ losses_of name lost)

-- ---- what is too big to be read

-- the file, or what is read of it, or was made
abbrev pub IsTooBigProfile : Option (List ℕ) → Bool → Option (List ℕ) → Type 0
IsTooBigProfile made is_everyones held =
    ((made ≡ None) × IsOverSize held) ⊎ ((given : Option (List ℕ)) × IsProfile made is_everyones held given × IsOverSize given)

abbrev pub IsTooBigDatabase : Option (List ℕ) → Type 0
IsTooBigDatabase None = ⊥
IsTooBigDatabase (Some file) = IsOverSize (Some file) ⊎ IsTooBigToCount file

abbrev pub IsTooBigBy : Bool → Bool → Lookup → Option (List ℕ) → Type 0
IsTooBigBy true nowhere lookup held = IsTooBigProfile (made_of lookup) lookup.is_everyones held
IsTooBigBy false true lookup held = ⊥
IsTooBigBy false false lookup held = IsTooBigDatabase held

abbrev pub IsTooBigAt : Lookup → List ℕ → Option (List ℕ) → Type 0
IsTooBigAt lookup name held = IsTooBigBy (is_profile lookup name) (is_nowhere lookup name) lookup held

-- ---- the folder that is shown

-- where the name has this file, it shows this: what a read gives, or something too big if that is too big
abbrev pub IsShown : Lookup → List ℕ → Option (List ℕ) → Option (List ℕ) → Type 0
IsShown lookup name held shown =
    ((lost : Option Loss) × IsGiven lookup name held shown lost) ⊎ (IsTooBigAt lookup name held × IsOverSize shown)

module _ {F : Type 0} (folder : FoundFolder F) where
  -- the folder that is asked
  abbrev pub inner_of : F
  inner_of = folder.inner

  abbrev pub lookup_of : Lookup
  lookup_of = folder.lookup

  -- the databases of which something was lost, in the order in which they were read, and what
  abbrev pub lost_of : List Lost
  lost_of = losses folder.bad.items

  -- what was done before to the folder that is shown: any, which its answers may be true of
  abbrev pub shown_of : List Event
  shown_of = events_noted folder.log.fates folder.log.notes

  -- and to the inner folder
  abbrev pub held_of : List Event
  held_of = events_noted folder.before.fates folder.before.notes

  -- what its reads gave is what that shows
  abbrev pub agrees : Bool
  agrees = is_honest folder.log.fates folder.log.notes

  abbrev pub failures_of : ℕ
  failures_of = folder.failures

-- each name shows what counts of its file
abbrev pub AreShown : Lookup → List Event → List Event → Type 0
AreShown lookup held shown = (name : List ℕ) → IsShown lookup name (read_content held name) (read_content shown name)

-- What a call did: to both folders the same; an append or a sync that was not asked of the inner one; or another name of a file there, which isn't
-- shown.
pub data Deed : Type 0 where
  both : Event → Deed
  unasked : List ℕ → Deed
  aside : List ℕ → List ℕ → Deed

abbrev pub shown_by : List Deed → List Event
shown_by [] = []
shown_by (both e ∷ deeds) = e ∷ shown_by deeds
shown_by (unasked name ∷ deeds) = touch name ∷ shown_by deeds
shown_by (aside name other ∷ deeds) = shown_by deeds

abbrev pub held_by : List Deed → List Event
held_by [] = []
held_by (both e ∷ deeds) = e ∷ held_by deeds
held_by (unasked name ∷ deeds) = held_by deeds
held_by (aside name other ∷ deeds) = link name other ∷ held_by deeds

-- These events are what was done to the folder that is shown, where `Past` says it of the inner one. It is read before it is written, and
-- the file that it made last is there.
pub record IsPast {F : Type 0} (Past : F → List Event → Type 0) (folder : FoundFolder F) (es : List Event) : Type 0 where
  pub deeds : List Deed
  pub es_is : es ≡ shown_by deeds ++ shown_of folder
  pub inner : Past (inner_of folder) (held_by deeds ++ held_of folder)
  pub shown : AreShown (lookup_of folder) (held_of folder) (shown_of folder)
  pub unwritten : folder.is_written ≡ false → deeds ≡ []
  pub own : IfSome folder.own (λ name. IsSome (file_of es (string_bytes name)))
