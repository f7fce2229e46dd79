-- What a store gives for each path, in one statement: databases that are opened by a profile,
-- then changed, saved and opened again, are read as keyfiles, changes, locks and the order of the
-- profile say. dconf(7). A database may be missing, compiled here, or any sound file. It speaks
-- of rows and words alone; maps, layers and files are what it is about.
use Rattle.std.specs.Prelude.{◌≡◌, ◌≤◌, length, ◌⊎◌, ◌↔◌, ℕ, ◌+◌, ◌-◌, Bool, true, List, [], ◌∷◌, ◌++◌, drop, fold, Option, Some, None, Ok, if◌then◌else◌, ◌==◌, IsTrue, is_some, Contains, option_and_then}
use Rattle.std.specs.List.{list_any, AllByRecursion}
use Rattle.std.specs.Option.{option_or}
use Rattle.std.specs.Str.{bytes_eq, is_utf8}
use Rattle.std.specs.FinMap.{get, contains_key}
use Rattle.gv_model.specs.TypeText.{IsWithinLimits}
use Rattle.gv_model.specs.Typed.{IsValue}
use Rattle.gv_model.specs.Tree.{Tree, type_of}
use Rattle.dconf_model.specs.Bytes.{MaybeBytes}
use Rattle.dconf_model.specs.Paths.{first_part}
use Rattle.dconf_model.specs.Opening.{IsDatabase, root_of}
use Rattle.dconf_model.specs.Sound.{IsSound}
use Rattle.dconf_model.specs.Settings.{Settings}
use Rattle.dconf_model.specs.Lines.{longest_text}
use Rattle.dconf_model.specs.Locks.{covers, is_below}
use Rattle.dconf_model.specs.Values.{held_value, value_of_text}
use Rattle.dconf_model.specs.Sources.{Source, Given, given, last_value}
use Rattle.dconf_model.specs.Databases.{IsCompiled, IsDatabaseOf, IsLayer, AreLayers}
use Rattle.dconf_model.specs.Layers.{Layers, visible, child_names, locks_below, later_or}
use Rattle.dconf_model.specs.Changes.{Change, apply, saved}
use Rattle.dconf_model.specs.Changes.Change.{set_value, reset_value, reset_below_directory, load_values}

-- ---- what the sources say of a path

-- whether a lock of these covers the path
abbrev pub locks_given : List ℕ → Given → Bool
locks_given path g = list_any (λ lock. covers lock.path path) g.locks

-- the greatest index of a database, the first being 1, that has a lock which covers the path; else 0
abbrev pub level_given : ℕ → List Given → List ℕ → ℕ
level_given from [] path = 0
level_given from (g ∷ more) path =
    later_or (level_given (from + 1) more path) (if locks_given path g then from else 0)

-- the value that the first of these databases gives that has one
abbrev pub first_given : List Given → List ℕ → Option Tree
first_given [] path = None
first_given (g ∷ more) path = option_or (last_value g.values path) (first_given more path)

-- what a change says of a path that is not locked: nothing, that it has no value of the user's, or which it has
pub data Saying : Type 0 where
  silent : Saying
  unset : Saying
  sets : Tree → Saying

abbrev pub sets_if : Option Tree → Saying
sets_if None = silent
sets_if (Some v) = sets v

abbrev pub saying_of : List ℕ → Change → Saying
saying_of path (set_value p v) = if bytes_eq p path then sets v else silent
saying_of path (reset_value p) = if bytes_eq p path then unset else silent
saying_of path (reset_below_directory directory) = if is_below path directory then unset else silent
saying_of path (load_values rows force) = sets_if (last_value rows path)

abbrev pub heard : Option Tree → Saying → Option Tree
heard before silent = before
heard before unset = None
heard before (sets v) = Some v

-- what the first database says of each path; its locks never count
abbrev pub OwnValues : Type 0
OwnValues = List ℕ → Option Tree

-- The same after a change: where no lock of a later database covers the path, as the change says,
-- and else as before
abbrev pub own_changed : List Given → OwnValues → Change → OwnValues
own_changed databases own change path =
    if level_given 1 databases path == 0 then heard (own path) (saying_of path change) else own path

abbrev pub own_after : List Given → OwnValues → List Change → OwnValues
own_after databases own changes = fold (own_changed databases) own changes

-- The value of a path, by the first database's own and what the others give: where it is not
-- locked, its own or else the first that is given; where it is, the first that is given from its
-- lock's database on
abbrev pub value_from : ℕ → List ℕ → Option Tree → List Given → Option Tree
value_from level path own databases =
    if level == 0 then option_or own (first_given databases path) else first_given (drop (level - 1) databases) path

abbrev pub value_given : List ℕ → Option Tree → List Given → Option Tree
value_given path own databases = value_from (level_given 1 databases path) path own databases

-- the number of the database that gives it, the first one's being 0
abbrev pub first_number : ℕ → List Given → List ℕ → Option ℕ
first_number from [] path = None
first_number from (g ∷ more) path = if is_some (last_value g.values path) then Some from else first_number (from + 1) more path

abbrev pub number_from : ℕ → List ℕ → Option Tree → List Given → Option ℕ
number_from level path own databases =
    if level == 0 then (if is_some own then Some 0 else first_number 1 databases path)
    else first_number level (drop (level - 1) databases) path

abbrev pub number_given : List ℕ → Option Tree → List Given → Option ℕ
number_given path own databases = number_from (level_given 1 databases path) path own databases

-- some keyfile's row has the path
abbrev pub is_given : List Given → List ℕ → Bool
is_given databases path = list_any (λ g. is_some (last_value g.values path)) databases

-- a lock file's line is the path
abbrev pub is_lock_given : List Given → List ℕ → Bool
is_lock_given databases path = list_any (λ g. list_any (λ lock. bytes_eq lock.path path) g.locks) databases

-- a path that a database has, the first or another: a listing names it, locked or not
abbrev pub IsNamed : OwnValues → List Given → List ℕ → Type 0
IsNamed own databases path = IsTrue (is_given databases path) ⊎ IsTrue (is_some (own path))

-- ---- whole values

-- a value of its type, with a type text within the limits: each owned tree is
abbrev pub IsLimitedValue : Tree → Type 0
IsLimitedValue v = IsValue v × IsWithinLimits (type_of v)

-- law: so is the value of each text of UTF-8 that is not too long to be read
abbrev pub TextsAreWhole : Type 0
TextsAreWhole = (s : List ℕ) (v : Tree) → is_utf8 s ≡ true → length s ≤ longest_text → value_of_text s ≡ Ok v → IsLimitedValue v

abbrev pub IsWholeChange : Change → Type 0
IsWholeChange (set_value path v) = IsLimitedValue v
IsWholeChange (reset_value path) = Unit {0}
IsWholeChange (reset_below_directory directory) = Unit {0}
IsWholeChange (load_values rows force) = AllByRecursion (λ row. IsLimitedValue row.value) rows

-- ---- what a database gives

-- at each path the value of its last row, and the locks
pub record GivesRows (s : Settings) (g : Given) : Type 0 where
  pub values : (path : List ℕ) → option_and_then held_value (get s.values path) ≡ last_value g.values path
  pub locks : (path : List ℕ) → contains_key s.locks path ≡ list_any (λ lock. bytes_eq lock.path path) g.locks

abbrev pub AllGive : List Settings → List Given → Type 0
AllGive [] [] = Unit {0}
AllGive (s ∷ ss) (g ∷ gs) = GivesRows s g × AllGive ss gs
AllGive _ _ = ⊥

-- the bytes of a database, or none
abbrev pub FileGives : MaybeBytes → Given → Type 0
FileGives item g = (s : Settings) × IsLayer item s × GivesRows s g

abbrev pub FilesGive : List MaybeBytes → List Given → Type 0
FilesGive [] [] = Unit {0}
FilesGive (item ∷ items) (g ∷ gs) = FileGives item g × FilesGive items gs
FilesGive _ _ = ⊥

abbrev pub nothing_given : Given
nothing_given = record { values = []; locks = [] }

-- laws: a missing database gives nothing, a compiled one what its keyfiles and lock files give,
-- and any sound file something
abbrev pub MissingGivesNothing : Type 0
MissingGivesNothing = FileGives None nothing_given

abbrev pub CompiledGives : Type 0
CompiledGives =
    (files locks : List Source) (g : Given) (file : List ℕ) → given files locks ≡ Ok g → IsCompiled files locks (Ok file) →
    FileGives (Some file) g

abbrev pub SoundGives : Type 0
SoundGives = (file : List ℕ) → IsDatabase file → IsSound (root_of file) → (g : Given) × FileGives (Some file) g

-- ---- the store as it stands

-- The first layer has its own values, and the others are those of their files, which give so.
pub record StoreHolds (others : List MaybeBytes) (own : OwnValues) (gs : List Given) (l : Layers) : Type 0 where
  pub first : Settings
  pub later : List Settings
  pub layers : l.layers ≡ first ∷ later
  pub others_are : AreLayers others later
  pub gives : AllGive later gs
  pub own_is : (path : List ℕ) → option_and_then held_value (get first.values path) ≡ own path

-- ---- what is done to a store

pub data Deed : Type 0 where
  changed : Change → Deed
  -- saved as this file, which is opened in its place
  reopened : List ℕ → Deed

-- the change is accepted
abbrev pub Does : List MaybeBytes → Layers → Deed → Layers → Type 0
Does others l (changed change) m = IsWholeChange change × (apply l change ≡ Ok m)
Does others l (reopened file) m = IsDatabaseOf (saved l.layers) file × AreLayers (Some file ∷ others) m.layers × (m.writable ≡ l.writable)

abbrev pub DidDeeds : List MaybeBytes → Layers → List Deed → Layers → Type 0
DidDeeds others l [] m = m ≡ l
DidDeeds others l (deed ∷ more) m = (mid : Layers) × Does others l deed mid × DidDeeds others mid more m

abbrev pub changes_of : List Deed → List Change
changes_of [] = []
changes_of (changed change ∷ more) = change ∷ changes_of more
changes_of (reopened file ∷ more) = changes_of more

-- databases, the first of which may be the user's
pub record IsOpenedStore (first : MaybeBytes) (others : List MaybeBytes) (g : Given) (gs : List Given) (l : Layers) : Type 0 where
  pub layers : AreLayers (first ∷ others) l.layers
  pub gives : FilesGive (first ∷ others) (g ∷ gs)

-- laws: after any deeds, each path has the value that rows, changes, locks and the order of the
-- databases give it, and each listing names exactly the children that they give
abbrev pub EachValueIsGiven : Type 0
EachValueIsGiven =
    (first : MaybeBytes) (others : List MaybeBytes) (g : Given) (gs : List Given) (opened l : Layers) (deeds : List Deed) (path : List ℕ) →
    IsOpenedStore first others g gs opened → DidDeeds others opened deeds l →
    visible l path ≡ value_given path (own_after gs (last_value g.values) (changes_of deeds) path) gs

abbrev pub EachListingIsExact : Type 0
EachListingIsExact =
    (first : MaybeBytes) (others : List MaybeBytes) (g : Given) (gs : List Given) (opened l : Layers) (deeds : List Deed) (directory part : List ℕ) →
    IsOpenedStore first others g gs opened → DidDeeds others opened deeds l →
    Contains (child_names l directory) part
    ↔ ((rest : List ℕ) × IsNamed (own_after gs (last_value g.values) (changes_of deeds)) gs (directory ++ rest) × (part ≡ first_part rest))

-- law: a store without databases has nothing, and is not changed
pub record HasNothing (l : Layers) : Type 0 where
  pub values : (path : List ℕ) → visible l path ≡ None
  pub children : (directory : List ℕ) → child_names l directory ≡ []
  pub locks : (directory : List ℕ) → locks_below l directory ≡ []

abbrev pub EmptyHasNothing : Type 0
EmptyHasNothing = (l : Layers) → AreLayers [] l.layers → HasNothing l
