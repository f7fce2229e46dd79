-- What a store shows while an edit of a key waits to be written. dconf's engine, "With respect to locks" and "With respect to
-- flags": a lock hides what waits as it hides the user's values; who asks for the user's value is told what waits, locked or not.
use Rattle.std.specs.Prelude.{◌≡◌, ◌≢◌, ◌⊎◌, ℕ, Bool, true, false, not, ◌&&◌, if◌then◌else◌, List, [], Option, Some, None, Ok, option_and_then, slice_get}
use Rattle.std.specs.FinMap.{get}
use Rattle.gv_model.specs.Tree.{Tree}
use Rattle.dconf_model.specs.Changes.{Change, apply}
use Rattle.dconf_model.specs.Layers.{Layers, is_locked, visible, without_user}
use Rattle.dconf_model.specs.Stores.{IsWholeChange, Saying, heard, saying_of}
use Rattle.dconf_model.specs.Stores.Saying.{silent, unset, sets}
use Rattle.dconf_model.specs.Values.{held_value}
use Rattle.dconf_seen.specs.declared.seen.Word.{Word}
use Rattle.dconf_seen.specs.declared.seen.Word.TheVariants.{Silent, Unset, Sets}
use Rattle.dconf_seen.specs.declared.seen.Shown.{Shown}
use Rattle.dconf_seen.specs.declared.seen.Shown.TheVariants.{Stored, Default, Edit}
use Rattle.dconf_seen.specs.declared.seen.Own.{Own}
use Rattle.dconf_seen.specs.declared.seen.Own.TheVariants.{First, Nothing, Edited}

-- ---- what may be written: a key, or all that is below a directory

-- there is a user's database, and no lock of another one covers the path
abbrev pub may_write : Layers → List ℕ → Bool
may_write l path = l.writable && not (is_locked l path)

-- ---- what is seen, by what the newest edit says that waits of the key

-- an edit of what may not be written counts for nothing
abbrev pub counting : Bool → Saying → Saying
counting true said = said
counting false said = silent

-- what is seen beside an edit that counts
abbrev pub seen_beside : Layers → List ℕ → Saying → Option Tree
seen_beside l path silent = visible l path
seen_beside l path unset = visible (without_user l) path
seen_beside l path (sets v) = Some v

abbrev pub seen : Layers → Saying → List ℕ → Option Tree
seen l said path = seen_beside l path (counting (may_write l path) said)

-- ---- the user's own value, locked or not

abbrev pub first_values : Layers → List ℕ → Option Tree
first_values l path = option_and_then (λ s. option_and_then held_value (get s.values path)) (slice_get l.layers 0)

abbrev pub own : Layers → Saying → List ℕ → Option Tree
own l said path = if l.writable then heard (first_values l path) said else None

-- ---- of a type that is asked for

-- a value that doesn't fit counts as none, and then what there is without the user's value is seen
abbrev pub fitting : (Tree → Bool) → Option Tree → Option Tree → Option Tree
fitting fits None others = None
fitting fits (Some v) others = if fits v then Some v else others

abbrev pub seen_as : (Tree → Bool) → Layers → Saying → List ℕ → Option Tree
seen_as fits l said path = fitting fits (seen l said path) (visible (without_user l) path)

-- ---- where it is found

-- what an edit does, its value left aside
abbrev pub word_of : Saying → Word
word_of silent = Silent
word_of unset = Unset
word_of (sets v) = Sets

-- as the databases show it, without the user's value, or in the edit
abbrev pub shown_by : Word → Bool → Shown
shown_by Sets true = Edit
shown_by Unset true = Default
shown_by _ _ = Stored

-- by whether the edit's value fits, and the one that is stored
abbrev pub past : Bool → Bool → Shown → Shown
past edit stored Stored = if stored then Stored else Default
past edit stored Default = Default
past edit stored Edit = if edit then Edit else Default

abbrev pub shown_as : Word → Bool → Bool → Bool → Shown
shown_as word may edit stored = past edit stored (shown_by word may)

abbrev pub found_at : Shown → Layers → Saying → List ℕ → Option Tree
found_at Stored l said path = visible l path
found_at Default l said path = visible (without_user l) path
found_at Edit l (sets v) path = Some v
found_at Edit l _ path = None

-- the user's own: in the first database, nowhere, or in the edit
abbrev pub own_by : Word → Bool → Own
own_by word false = Nothing
own_by Silent true = First
own_by Unset true = Nothing
own_by Sets true = Edited

abbrev pub own_found : Own → Layers → Saying → List ℕ → Option Tree
own_found First l said path = first_values l path
own_found Nothing l said path = None
own_found Edited l (sets v) path = Some v
own_found Edited l _ path = None

-- ---- in numbers

abbrev pub word_numbered : Bool → Bool → Word
word_numbered waits set = if waits then (if set then Sets else Unset) else Silent

-- ---- laws

-- the value of an edit fits, or there is none
abbrev pub fits_edit : (Tree → Bool) → Saying → Bool
fits_edit fits silent = true
fits_edit fits unset = true
fits_edit fits (sets v) = fits v

abbrev pub fits_all : (Tree → Bool) → Option Tree → Bool
fits_all fits None = true
fits_all fits (Some v) = fits v

-- What is seen is found there; of a type, if it is said which values fit.
abbrev pub SeenIsFound : Type 0
SeenIsFound =
    (fits : Tree → Bool) (l : Layers) (said : Saying) (path : List ℕ) (edit stored : Bool) → edit ≡ fits_edit fits said → stored ≡ fits_all fits (visible l path) →
    found_at (shown_as (word_of said) (may_write l path) edit stored) l said path ≡ seen_as fits l said path

abbrev pub OwnIsFound : Type 0
OwnIsFound = (l : Layers) (said : Saying) (path : List ℕ) → own_found (own_by (word_of said) l.writable) l said path ≡ own l said path

-- What waits is seen as it will be: as the store shows the path once the change is made.
abbrev pub WaitingIsSeenAsMade : Type 0
WaitingIsSeenAsMade =
    (l m : Layers) (change : Change) (path : List ℕ) → ([] ≡ l.layers → ⊥) → IsWholeChange change → apply l change ≡ Ok m →
    seen l (saying_of path change) path ≡ visible m path

-- A lock that comes while an edit waits hides it.
abbrev pub LocksHideWhatWaits : Type 0
LocksHideWhatWaits = (l : Layers) (said : Saying) (path : List ℕ) → is_locked l path ≡ true → seen l said path ≡ visible l path

-- A key that is seen otherwise than before had an edit that waited, or has one, or its databases show something else.
abbrev pub ChangedKeysAreAsked : Type 0
ChangedKeysAreAsked =
    (l m : Layers) (before after : Saying) (path : List ℕ) → seen l before path ≢ seen m after path →
    (before ≢ silent) ⊎ ((after ≢ silent) ⊎ (visible l path ≢ visible m path))
