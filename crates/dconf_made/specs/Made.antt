-- What the user's database has of a change that is asked for; and that a change of which it has all changes nothing.
use Rattle.std.specs.Prelude.{◌≡◌, ℕ, List, [], ◌∷◌, length, Bool, true, false, IsTrue, Some, None, slice_get}
use Rattle.std.specs.FinMap.{get}
use Rattle.dconf_model.specs.Bytes.{MaybeBytes}
use Rattle.dconf_model.specs.Layers.{Layers, all_paths, origin, visible}
use Rattle.dconf_model.specs.Paths.{ends_with_slash}
use Rattle.dconf_model.specs.Salvaging.{IsKeyText}
use Rattle.dconf_model.specs.Settings.{Settings}
use Rattle.dconf_model.specs.Sources.{Given}
use Rattle.dconf_model.specs.Stores.{IsOpenedStore}
use Rattle.dconf_model.specs.Walks.{keys_below}
use Rattle.dconfdb_calls.specs.Changed.{AreMadeInTurn, IsChangeRefused, IsTooBigAfter}
use Rattle.dconfdb_calls.specs.Given.{IsDirectory}
use Rattle.dconfdb_calls.specs.Numbers.{number_of}
use Rattle.dconfdb_calls.specs.Stored.{IsStored}
use Rattle.dconfdb_calls.specs.declared.changes.DconfdbChange.{DconfdbChange}
use Rattle.dconfdb_calls.specs.declared.fault.Fault.{Fault}
use Rattle.dconfdb_calls.specs.declared.fault.Fault.TheVariants.{Memory, TooBig}

-- at a path that is no key's there is no value
abbrev pub HasNone : Settings → List ℕ → Type 0
HasNone s path = IsKeyText path → get s.values path ≡ None

-- and none below a path that is no directory's
abbrev pub HasNoneBelow : Settings → List ℕ → Type 0
HasNoneBelow s directory = IsDirectory directory → keys_below (all_paths (s ∷ [])) directory ≡ []

-- a value is set, or that of a key goes, or those of all keys below a directory
abbrev pub HasAs : Bool → Bool → Settings → DconfdbChange → Type 0
HasAs true is_directory s c = IsStored s c.path.now c.value.now c.type_text.now
HasAs false true s c = HasNoneBelow s c.path.now
HasAs false false s c = HasNone s c.path.now

-- a database has what a change asks for
abbrev pub Has : Settings → DconfdbChange → Type 0
Has s c = HasAs c.sets (ends_with_slash c.path.now) s c

abbrev pub FirstHas : List Settings → DconfdbChange → Type 0
FirstHas [] c = ⊥
FirstHas (s ∷ more) c = Has s c

-- the user's database, which is the first if that may be written, has it
abbrev pub IsMade : Layers → DconfdbChange → Type 0
IsMade l c = IsTrue l.writable × FirstHas l.layers c

abbrev pub AreMade : Layers → List DconfdbChange → Type 0
AreMade l changes = (i : ℕ) (c : DconfdbChange) → slice_get changes i ≡ Some c → IsMade l c

-- ---- the law

-- of a key, or where it sets nothing and ends in `/` of a directory
abbrev pub IsPathAs : Bool → Bool → List ℕ → Type 0
IsPathAs true is_directory path = IsKeyText path
IsPathAs false true path = IsDirectory path
IsPathAs false false path = IsKeyText path

abbrev pub HavePaths : List DconfdbChange → Type 0
HavePaths changes = (i : ℕ) (c : DconfdbChange) → slice_get changes i ≡ Some c → IsPathAs c.sets (ends_with_slash c.path.now) c.path.now

-- each path has the same value as before, from the same database
abbrev pub IsSeenAsBefore : Layers → Layers → Type 0
IsSeenAsBefore l m = (path : List ℕ) → (visible m path ≡ visible l path) × (origin m path ≡ origin l path)

-- law: where the user's database has each edit already, all of them in order change nothing that is seen
abbrev pub EachIsThereAlready : Type 0
EachIsThereAlready =
    (first : MaybeBytes) (others : List MaybeBytes) (g : Given) (gs : List Given) (l m : Layers) (changes : List DconfdbChange) →
    IsOpenedStore first others g gs l → AreMade l changes → HavePaths changes → AreMadeInTurn changes l m → IsSeenAsBefore l m

-- ---- no file

-- the fault, and the index of the change that has it, or how many there are
abbrev pub IsNoChangeOf : Layers → List DconfdbChange → Fault → ℕ → Type 0
IsNoChangeOf l changes Memory at = at ≡ length changes
IsNoChangeOf l changes TooBig at = IsTooBigAfter l changes × (at ≡ length changes)
IsNoChangeOf l changes fault at = IsChangeRefused l changes at fault

-- the number of the fault is told
abbrev pub IsNoChangeTold : Layers → List DconfdbChange → ℕ → ℕ → Type 0
IsNoChangeTold l changes number at = (fault : Fault) × (number_of fault ≡ number) × IsNoChangeOf l changes fault at

abbrev pub named_at : Fault → ℕ → ℕ → ℕ
named_at Memory at count = count
named_at TooBig at count = count
named_at _ at count = at
