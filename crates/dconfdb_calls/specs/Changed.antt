-- The changes that C asks for, and the user's database with them.
use Rattle.std.specs.Prelude.{◌≡◌, ◌⊎◌, ℕ, List, [], ◌∷◌, Result, Ok, Err, Some, Bool, true, false, IsTrue, slice_get, take, if◌then◌else◌}
use Rattle.refused.specs.declared.Refused.{Refused}
use Rattle.refused.specs.declared.Refused.TheVariants as refused
use Rattle.dconf_engine.specs.declared.change_fault.ChangeFlaw.{ChangeFlaw}
use Rattle.dconf_engine.specs.declared.change_fault.ChangeFlaw.TheVariants as flaws
use Rattle.gv_model.specs.Printed.{is_too_large}
use Rattle.gv_model.specs.Tree.{Tree}
use Rattle.gv_model.specs.TypeText.{type_at}
use Rattle.gv_model.specs.Decode.{decode}
use Rattle.gv_model.specs.Normal.{IsNormal}
use Rattle.gv_model.specs.Ty.{Ty}
use Rattle.dconf_model.specs.Paths.{ends_with_slash}
use Rattle.dconf_model.specs.Changes.{Change, Refusal, apply, saved}
use Rattle.dconf_model.specs.Changes.Change.{set_value, reset_value, reset_below_directory}
use Rattle.dconf_model.specs.Changes.Refusal.{not_writable, locked, too_large}
use Rattle.dconf_model.specs.Databases.{IsDatabaseOf, IsTooBig}
use Rattle.dconf_model.specs.Layers.{Layers}
use Rattle.dconf_model.specs.Salvaging.{IsKeyText}
use Rattle.dconf_model.specs.Stores.{IsWholeChange}
use Rattle.dconfdb_calls.specs.declared.changes.DconfdbChange.{DconfdbChange}
use Rattle.dconfdb_calls.specs.declared.fault.Fault.{Fault}
use Rattle.dconfdb_calls.specs.declared.fault.Fault.TheVariants.{Memory, BadPath, BadType, NotWritable, Locked, TooLarge, TooBig, BadValue}
use Rattle.dconfdb_calls.specs.Given.{IsDirectory, SpellsType}
use Rattle.dconfdb_calls.specs.Numbers.{number_of}

-- the value that a change sets
abbrev pub value_of : DconfdbChange → Tree
value_of c = decode (type_at c.type_text.now) c.value.now

-- With a value the key at the path is set. Without one its value goes; a path that ends in `/` is a
-- directory, and the values of all keys below it go.
abbrev pub change_meant : DconfdbChange → Change
change_meant c =
    if c.sets then set_value c.path.now (value_of c) else
    if ends_with_slash c.path.now then reset_below_directory c.path.now else reset_value c.path.now

-- the bytes of what it sets are those that are written for their value
abbrev pub SetsNormal : DconfdbChange → Type 0
SetsNormal c = IsTrue c.sets → IsNormal (type_at c.type_text.now) c.value.now

-- each change is accepted in its turn, and what it sets is a value of its type, in normal form
abbrev pub AreMadeInTurn : List DconfdbChange → Layers → Layers → Type 0
AreMadeInTurn [] l m = l ≡ m
AreMadeInTurn (c ∷ cs) l m =
    (next : Layers) × IsWholeChange (change_meant c) × SetsNormal c × (apply l (change_meant c) ≡ Ok next) × AreMadeInTurn cs next m

-- the user's database with the changes
pub record IsChanged (l : Layers) (changes : List DconfdbChange) (file : List ℕ) : Type 0 where
  pub after : Layers
  pub changed : AreMadeInTurn changes l after
  pub saved_is : IsDatabaseOf (saved after.layers) file

-- ---- refusals

-- the fault of a change that the engine refuses
abbrev pub fault_of_change : Refused ChangeFlaw → Fault
fault_of_change (refused.Fault flaws.NotWritable) = NotWritable
fault_of_change (refused.Fault (flaws.Locked row)) = Locked
fault_of_change (refused.Fault flaws.TooLarge) = TooLarge
fault_of_change refused.Memory = Memory

-- the index that is told of a change's fault: an allocation that failed is no change's
abbrev pub at_of : Fault → ℕ → ℕ
at_of Memory at = 0
at_of _ at = at

abbrev pub with_fault : Result (Unit {0}) (Refused ChangeFlaw) → Result (Unit {0}) Fault
with_fault (Ok u) = Ok u
with_fault (Err e) = Err (fault_of_change e)

-- what a change gives is this refusal, or an allocation failed
abbrev pub IsRefusal : Result Layers Refusal → Fault → Type 0
IsRefusal given Memory = Unit {0}
IsRefusal given NotWritable = given ≡ Err not_writable
IsRefusal given Locked = (row : ℕ) × (given ≡ Err (locked row))
IsRefusal given TooLarge = given ≡ Err too_large
IsRefusal given _ = ⊥

-- a value is set in vain also where it is more than 128 levels deep
abbrev pub IsSetInVain : Layers → List ℕ → Tree → Fault → Type 0
IsSetInVain l path v TooLarge = (apply l (set_value path v) ≡ Err too_large) ⊎ (is_too_large v ≡ true)
IsSetInVain l path v fault = IsRefusal (apply l (set_value path v)) fault

abbrev pub IsChangedInVain : Layers → Change → Fault → Type 0
IsChangedInVain l (set_value path v) fault = IsSetInVain l path v fault
IsChangedInVain l change fault = IsRefusal (apply l change) fault

-- the path of what is reset is no directory's, if it ends in `/`, and else no key's
abbrev pub IsBadResetOf : Bool → List ℕ → Type 0
IsBadResetOf true path = ¬ IsDirectory path
IsBadResetOf false path = ¬ IsKeyText path

-- only a key is set
abbrev pub IsBadPathOf : Bool → List ℕ → Type 0
IsBadPathOf true path = ¬ IsKeyText path
IsBadPathOf false path = IsBadResetOf (ends_with_slash path) path

-- bytes are not those that are written for their value; one of more than 128 levels is too large instead
abbrev pub IsBadValue : Ty → List ℕ → Type 0
IsBadValue t b = (is_too_large (decode t b) ≡ false) × ¬ IsNormal t b

-- a change has no such path; or it sets a key, and its type text spells no type, or its bytes are no value of that
abbrev pub IsMalformed : DconfdbChange → Fault → Type 0
IsMalformed c BadPath = IsBadPathOf c.sets c.path.now
IsMalformed c BadType = IsTrue c.sets × IsKeyText c.path.now × ¬ SpellsType c.type_text.now
IsMalformed c BadValue =
    IsTrue c.sets × IsKeyText c.path.now × SpellsType c.type_text.now × IsBadValue (type_at c.type_text.now) c.value.now
IsMalformed c _ = ⊥

-- why a change of these layers is refused
abbrev pub IsRefusedFor : Layers → DconfdbChange → Fault → Type 0
IsRefusedFor l c BadPath = IsMalformed c BadPath
IsRefusedFor l c BadType = IsMalformed c BadType
IsRefusedFor l c BadValue = IsMalformed c BadValue
IsRefusedFor l c fault = IsChangedInVain l (change_meant c) fault

-- the change of that index is refused, after those before it were accepted
pub record IsChangeRefused (l : Layers) (changes : List DconfdbChange) (at : ℕ) (fault : Fault) : Type 0 where
  pub before : Layers
  pub changed : AreMadeInTurn (take at changes) l before
  pub change : DconfdbChange
  pub is : slice_get changes at ≡ Some change
  pub refused : IsRefusedFor before change fault

-- the user's database would be too big after all changes
pub record IsTooBigAfter (l : Layers) (changes : List DconfdbChange) : Type 0 where
  pub after : Layers
  pub changed : AreMadeInTurn changes l after
  pub big : IsTooBig (saved after.layers)

-- the fault of changes, and the index of the one that has it; 0 if none has
abbrev pub IsNoChange : Layers → List DconfdbChange → Fault → ℕ → Type 0
IsNoChange l changes Memory at = at ≡ 0
IsNoChange l changes TooBig at = IsTooBigAfter l changes × (at ≡ 0)
IsNoChange l changes fault at = IsChangeRefused l changes at fault

-- the number of the fault is told, and the index of the change that has it
abbrev pub IsNoChangeTold : Layers → List DconfdbChange → ℕ → ℕ → Type 0
IsNoChangeTold l changes number at = (fault : Fault) × (number_of fault ≡ number) × IsNoChange l changes fault at
