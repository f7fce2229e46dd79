-- Changes to the first layer, and why they are refused. dconf(1), "write", "reset" and "load".
use Rattle.std.specs.Prelude.{◌≡◌, ℕ, ◌+◌, List, [], ◌∷◌, ◌++◌, Option, Some, None, Result, Ok, Err, Bool, true, false, if◌then◌else◌, not, ◌&&◌, fold, filter}
use Rattle.std.specs.FinMap.{empty, insert, remove, retain_keys}
use Rattle.gv_model.specs.Tree.{Tree}
use Rattle.dconf_model.specs.Settings.{Settings, AtPaths, no_settings}
use Rattle.dconf_model.specs.Locks.{is_below}
use Rattle.dconf_model.specs.Values.{stored, is_storable}
use Rattle.dconf_model.specs.Sources.{Assigned}
use Rattle.dconf_model.specs.Layers.{Layers, is_locked}

pub data Change : Type 0 where
  set_value : List ℕ → Tree → Change
  reset_value : List ℕ → Change
  -- all keys below a directory
  reset_below_directory : List ℕ → Change
  -- all of these or none; where it is forced, those that are locked are left out
  load_values : List Assigned → Bool → Change

pub data Refusal : Type 0 where
  not_writable : Refusal
  -- the number of the first row whose path is locked
  locked : ℕ → Refusal
  too_large : Refusal

-- ---- the first layer

abbrev pub Values : Type 0
Values = AtPaths (List ℕ)

abbrev pub with_first_layer : (Values → Values) → List Settings → List Settings
with_first_layer change [] = []
with_first_layer change (s ∷ more) = record { values = change s.values; locks = s.locks } ∷ more

abbrev pub changed : (Values → Values) → Layers → Layers
changed change l = record { layers = with_first_layer change l.layers; writable = l.writable }

-- with these values, of which a later one of the same path counts
abbrev pub with_all : List Assigned → Values → Values
with_all rows values = fold (λ m row. insert m row.path (stored row.value)) values rows

-- ---- changes

abbrev pub first_locked : Layers → ℕ → List (List ℕ) → Option ℕ
first_locked l n [] = None
first_locked l n (path ∷ more) = if is_locked l path then Some n else first_locked l (n + 1) more

abbrev pub unless_locked : Option ℕ → Result Layers Refusal → Result Layers Refusal
unless_locked (Some n) r = Err (locked n)
unless_locked None r = r

abbrev pub all_storable : List Assigned → Bool
all_storable [] = true
all_storable (row ∷ more) = is_storable row.value && all_storable more

-- rows that may be written
abbrev pub set_all : Layers → List Assigned → Result Layers Refusal
set_all l rows = if all_storable rows then Ok (changed (with_all rows) l) else Err too_large

abbrev pub paths_of : List Assigned → List (List ℕ)
paths_of [] = []
paths_of (row ∷ more) = row.path ∷ paths_of more

abbrev pub load_all : Layers → List Assigned → Bool → Result Layers Refusal
load_all l rows true = set_all l (filter (λ row. not (is_locked l row.path)) rows)
load_all l rows false = unless_locked (first_locked l 0 (paths_of rows)) (set_all l rows)

-- what a change gives where the first layer may be written
abbrev pub change_written : Layers → Change → Result Layers Refusal
change_written l (set_value path v) = load_all l (record { path = path; value = v } ∷ []) false
change_written l (reset_value path) = unless_locked (first_locked l 0 (path ∷ [])) (Ok (changed (λ values. remove values path) l))
change_written l (reset_below_directory directory) =
    Ok (changed (λ values. retain_keys values (λ path. if is_below path directory then is_locked l path else true)) l)
change_written l (load_values rows force) = load_all l rows force

-- the layers after a change, or why it is refused
abbrev pub apply : Layers → Change → Result Layers Refusal
apply l change = if l.writable then change_written l change else Err not_writable

-- the layers after changes, of which those that are refused are passed over
abbrev pub or_as_before : Layers → Result Layers Refusal → Layers
or_as_before l (Ok new) = new
or_as_before l (Err e) = l

abbrev pub run : Layers → List Change → Layers
run l changes = fold (λ l change. or_as_before l (apply l change)) l changes

-- ---- what is saved

-- the first layer's values, without locks
abbrev pub saved : List Settings → Settings
saved [] = no_settings
saved (s ∷ more) = record { values = s.values; locks = empty }

-- ---- laws

-- a list of changes followed by another is the other on what the first leaves
abbrev pub RunsInParts : Type 0
RunsInParts = (l : Layers) (first second : List Change) → run l (first ++ second) ≡ run (run l first) second
