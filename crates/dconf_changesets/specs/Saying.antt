-- Whether a change says anything new beside the sets of changes that wait.
use Rattle.std.specs.Prelude.{◌≡◌, ℕ, Bool, true, false, not, ◌&&◌, ◌||◌, if◌then◌else◌, List, [], ◌∷◌, None}
use Rattle.std.specs.Str.{bytes_eq}
use Rattle.std.specs.List.{AllByRecursion, list_all}
use Rattle.dconf_model.specs.Locks.{covers}
use Rattle.dconf_model.specs.Paths.{ends_with_slash}
use Rattle.dconf_model.specs.Stores.{Saying, heard}
use Rattle.dconf_model.specs.Stores.Saying.{silent}
use Rattle.dconf_changesets.specs.Differences.{Values}
use Rattle.dconf_changesets.specs.Rows.{IsRow, Row, later_word, said, word_of}
use Rattle.dconf_changesets.specs.declared.saying.Said.{Said}

-- the newest set that says something says it; but what is set below a directory stands beside that one's reset
abbrev pub is_said : List Said → Bool → Bool
is_said [] stored = stored
is_said (set ∷ older) stored = if set.has_below || set.says then not set.has_below && set.is_same else is_said older stored

-- no set says anything
abbrev pub is_silence : List Said → Bool
is_silence said = list_all (λ set. not (set.has_below || set.says)) said

-- two edits of one path: both reset it, or both set the same bytes at the same type
abbrev pub is_same_word : Bool → List ℕ → List ℕ → Bool → List ℕ → List ℕ → Bool
is_same_word set type value other other_type other_value =
    if set && other then bytes_eq type other_type && bytes_eq value other_value else not set && not other

-- ---- the law

-- what is said of a set is so
pub record IsSaying (row : Row) (set : Said) (rows : List Row) : Type 0 where
  pub same : set.says ≡ true → set.is_same ≡ true → said row.path rows ≡ word_of row.value
  pub silence : set.says ≡ false → said row.path rows ≡ silent
  pub below : set.has_below ≡ false → ends_with_slash row.path ≡ true → AllByRecursion (λ r. covers row.path r.path ≡ true → r.value ≡ None) rows

-- of each set, the newest first
abbrev pub AreSaying : Row → List Said → List (List Row) → Type 0
AreSaying row [] [] = Unit {0}
AreSaying row (set ∷ older) (rows ∷ more) = IsSaying row set rows × (AllByRecursion IsRow rows × AreSaying row older more)
AreSaying row _ _ = ⊥

-- what they say of a key
abbrev pub said_by_sets : List ℕ → List (List Row) → Saying
said_by_sets key [] = silent
said_by_sets key (rows ∷ more) = later_word (said_by_sets key more) (said key rows)

-- What nobody is told of is so already: each key of the change has its value by what is stored, and by the sets.
abbrev pub TheSameIsSaid : Type 0
TheSameIsSaid =
    (values : Values) (row : Row) (sets : List Said) (rows : List (List Row)) (stored : Bool) (key : List ℕ) →
    IsRow row → AreSaying row sets rows → (stored ≡ true → (k : List ℕ) → covers row.path k ≡ true → values k ≡ row.value) →
    is_said sets stored ≡ true → covers row.path key ≡ true → heard (values key) (said_by_sets key rows) ≡ row.value

-- What the store has counts only where no set says anything.
abbrev pub StoredCountsInSilence : Type 0
StoredCountsInSilence = (said : List Said) (stored other : Bool) → is_silence said ≡ false → is_said said stored ≡ is_said said other
