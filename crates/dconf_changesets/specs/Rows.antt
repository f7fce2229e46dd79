-- What a changeset says of each key. dconf's DConfChangeset, "dconf_changeset_set" and "dconf_changeset_change": a key is set or reset, a
-- directory is reset with all that is in it, and a later change goes over an earlier one.
use Rattle.std.specs.Prelude.{◌≡◌, ◌≢◌, ℕ, Bool, true, false, not, ◌||◌, if◌then◌else◌, List, [], ◌∷◌, ◌++◌, fold, filter, Option, Some, None, is_some}
use Rattle.std.specs.List.{AllByRecursion, list_any}
use Rattle.std.specs.Str.{bytes_eq}
use Rattle.gv_model.specs.Tree.{Tree}
use Rattle.dconf_model.specs.Locks.{covers}
use Rattle.dconf_model.specs.Paths.{ends_with_slash}
use Rattle.dconf_model.specs.Stores.{Saying}
use Rattle.dconf_model.specs.Stores.Saying.{silent, unset, sets}
use Rattle.dconf_changesets.specs.declared.rows.Effect.{Effect}
use Rattle.dconf_changesets.specs.declared.rows.Effect.TheVariants.{Stays, Goes, Takes}

-- ---- what changes say

-- a key and its value, or a key or a directory that is reset
pub record Row : Type 0 where
  pub path : List ℕ
  pub value : Option Tree

abbrev pub word_of : Option Tree → Saying
word_of None = unset
word_of (Some v) = sets v

abbrev pub said_by : List ℕ → Row → Saying
said_by key row = if covers row.path key then word_of row.value else silent

abbrev pub later_word : Saying → Saying → Saying
later_word before silent = before
later_word before unset = unset
later_word before (sets v) = sets v

-- what changes say of a key that are made one after another
abbrev pub said : List ℕ → List Row → Saying
said key [] = silent
said key (row ∷ more) = later_word (said_by key row) (said key more)

-- ---- what a change does to the rows

-- the row of the same path takes its word, which a database has no row for if that is a reset
abbrev pub own_effect : Bool → Bool → Effect
own_effect set is_database = if set || not is_database then Takes else Goes

-- what is below a directory goes
abbrev pub effect_of : List ℕ → Bool → Bool → List ℕ → Effect
effect_of path set is_database other =
    if bytes_eq path other then own_effect set is_database else if covers path other then Goes else Stays

abbrev pub effect_number : Effect → ℕ
effect_number Stays = 0
effect_number Goes = 1
effect_number Takes = 2

abbrev pub is_staying : Effect → Bool
is_staying Stays = true
is_staying Goes = false
is_staying Takes = false

abbrev pub is_taking : Effect → Bool
is_taking Stays = false
is_taking Goes = false
is_taking Takes = true

-- the rows that stay, and the new one, unless it has none
abbrev pub with_row : Bool → List Row → Row → List Row
with_row is_database rows row =
    filter (λ r. is_staying (effect_of row.path (is_some row.value) is_database r.path)) rows
    ++ (if is_taking (effect_of row.path (is_some row.value) is_database row.path) then row ∷ [] else [])

abbrev pub changed : Bool → List Row → List Row → List Row
changed is_database rows changes = fold (with_row is_database) rows changes

-- ---- what is found of a key

-- a directory is only reset
abbrev pub IsRow : Row → Type 0
IsRow row = ends_with_slash row.path ≡ true → row.value ≡ None

abbrev pub own_row : List ℕ → List Row → Option (Option Tree)
own_row key [] = None
own_row key (row ∷ more) = if bytes_eq row.path key then Some row.value else own_row key more

-- by the rows of directories
abbrev pub found_above : List ℕ → List Row → Saying
found_above key rows = if list_any (λ row. covers row.path key) rows then unset else silent

-- its own row says it, or else the row of a directory above it, whichever
abbrev pub found_by : Option (Option Tree) → List ℕ → List Row → Saying
found_by (Some value) key rows = word_of value
found_by None key rows = found_above key rows

abbrev pub found : List ℕ → List Row → Saying
found key rows = found_by (own_row key rows) key rows

-- ---- laws

-- Each key's word is that of the later changes if they have one, and else as before.
abbrev pub LaterCounts : Type 0
LaterCounts = (rows changes : List Row) (key : List ℕ) → said key (changed false rows changes) ≡ later_word (said key rows) (said key changes)

-- What is found is what was said last.
abbrev pub FoundIsSaid : Type 0
FoundIsSaid = (changes : List Row) (key : List ℕ) → AllByRecursion IsRow changes → found key (changed false [] changes) ≡ said key changes

-- The reset of a key stands for no other row, and no row goes by it.
abbrev pub AKeyStandsForItself : Type 0
AKeyStandsForItself = (path other : List ℕ) → ends_with_slash path ≡ false → effect_of path false false other ≢ Goes
