-- Which changes make a difference to a database. dconf's DConfChangeset, "dconf_changeset_filter_changes" and "dconf_changeset_diff".
use Rattle.std.specs.Prelude.{◌≡◌, ℕ, Bool, true, false, not, ◌&&◌, if◌then◌else◌, List, [], ◌∷◌, ◌++◌, Option, None, is_some}
use Rattle.std.specs.List.{AllByRecursion, list_any}
use Rattle.gv_model.specs.Tree.{Tree}
use Rattle.dconf_model.specs.Locks.{covers}
use Rattle.dconf_model.specs.Paths.{ends_with_slash}
use Rattle.dconf_model.specs.Stores.{heard}
use Rattle.dconf_changesets.specs.Rows.{IsRow, Row, said}
use Rattle.dconf_changesets.specs.declared.differences.Base.{Base}

-- a directory that has a value; or a key that has another value, or a value or none where it is to have none or one
abbrev pub differs : List ℕ → Bool → Base → Bool
differs path sets base =
    if ends_with_slash path then base.has_below
    else if sets then not ((base.has && not base.is_reset) && base.is_same) else base.has && not base.is_reset

-- ---- the law

-- the values of a database
abbrev pub Values : Type 0
Values = List ℕ → Option Tree

-- what is said of a database, and of the rows that were kept, is so
pub record IsKnown (values : Values) (kept : List Row) (row : Row) (base : Base) : Type 0 where
  pub has : base.has ≡ is_some (values row.path)
  pub same : base.is_same ≡ true → values row.path ≡ row.value
  pub reset : base.is_reset ≡ list_any (λ r. covers r.path row.path) kept
  pub below : base.has_below ≡ false → (key : List ℕ) → covers row.path key ≡ true → values key ≡ None

-- the rows that are kept, one after another
abbrev pub AreKept : Values → List Row → List Row → List Row → Type 0
AreKept values kept [] found = found ≡ kept
AreKept values kept (row ∷ more) found =
    (base : Base) × IsKnown values kept row base
    × AreKept values (if differs row.path (is_some row.value) base then kept ++ row ∷ [] else kept) more found

-- each path has one row, and a directory comes before what is in it: no row stands for an earlier one
abbrev pub AreInOrder : List Row → Type 0
AreInOrder [] = Unit {0}
AreInOrder (row ∷ more) = AllByRecursion (λ later. covers later.path row.path ≡ false) more × AreInOrder more

-- With what is kept of changes each key has the value that it has with all of them.
abbrev pub KeptIsEnough : Type 0
KeptIsEnough =
    (values : Values) (rows found : List Row) (key : List ℕ) → AreInOrder rows → AllByRecursion IsRow rows → AreKept values [] rows found →
    heard (values key) (said key found) ≡ heard (values key) (said key rows)
