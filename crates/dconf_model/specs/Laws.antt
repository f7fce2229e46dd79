-- Laws of names and searches.
use Rattle.std.specs.Prelude.{◌≡◌, ◌↔◌, ℕ, List, Option, Some}
use Rattle.dconf_model.specs.Table.{Table}
use Rattle.dconf_model.specs.Opening.{OpenFault, IsOpenFault, IsDatabase}
use Rattle.dconf_model.specs.Names.{HasName, IsRow, name_of}
use Rattle.dconf_model.specs.Search.{Finds}
use Rattle.dconf_model.specs.Searchable.{IsSearchable}

-- a search finds rows alone
abbrev pub FindsRowsAlone : Type 0
FindsRowsAlone = (t : Table) (name : List ℕ) (kind i : ℕ) → Finds t name kind (Some i) → IsRow t name kind i

-- a search finds one thing
abbrev pub FindsOneThing : Type 0
FindsOneThing = (t : Table) (name : List ℕ) (kind : ℕ) (r s : Option ℕ) → Finds t name kind r → Finds t name kind s → r ≡ s

-- the full name of the relation is the computed one
abbrev pub NameIsComputed : Type 0
NameIsComputed = (t : Table) (i : ℕ) (name : List ℕ) → HasName t i name ↔ (name_of t i ≡ Some name)

-- where the items can be found by their names, a name is that of one item
abbrev pub HasOneItemPerName : Type 0
HasOneItemPerName = (t : Table) (name : List ℕ) (i j : ℕ) → IsSearchable t → HasName t i name → HasName t j name → i ≡ j

-- and a search finds just the rows
abbrev pub FindsWhereRows : Type 0
FindsWhereRows = (t : Table) (name : List ℕ) (kind i : ℕ) → IsSearchable t → Finds t name kind (Some i) ↔ IsRow t name kind i

-- a database has no fault, and no file has two
abbrev pub HasOneOpenFault : Type 0
HasOneOpenFault = (file : List ℕ) (f g : OpenFault) → IsOpenFault file f → ¬ IsDatabase file × (IsOpenFault file g → f ≡ g)
