-- A database that dconf made of no key, and the sound one that it stands for. dconf sets neither the kind nor the contents of
-- `/` where nothing is in it: they are what its memory held.
use Rattle.std.specs.Prelude.{◌≡◌, ◌⊎◌, ◌≤◌, ◌<◌, ◌+◌, ◌-◌, ◌*◌, ℕ, List, ◌∷◌, ◌++◌, length, drop, take, replicate, Option, Some, None, codes, slice_range}
use Rattle.std.specs.Borrow.{Bor}
use Rattle.dconf_model.specs.Bytes.{u32_at}
use Rattle.dconf_model.specs.Databases.{IsGood}
use Rattle.dconf_model.specs.Opening.{IsDatabase, root_of}
use Rattle.dconf_model.specs.Table.{Table, item, item_count, key, list_kind}
use Rattle.dconfdb_calls.specs.declared.fault.Fault.{Fault}
use Rattle.dconfdb_calls.specs.declared.fault.Fault.TheVariants.{Memory, Unsound}
use Rattle.dconfdb_calls.specs.Given.{HandsOut}
use Rattle.dconfdb_calls.specs.Numbers.{number_of}

-- the item is `/`
pub record IsRootItem (t : Table) (i : ℕ) : Type 0 where
  pub counted : i < item_count t
  pub top : (item t i).parent ≡ None
  pub inside : (item t i).key_end ≤ length t.file
  pub named : key t i ≡ codes "/"

-- it is the first of these
pub record IsFirstRoot (t : Table) (i : ℕ) : Type 0 where
  pub is_root : IsRootItem t i
  pub earlier : (j : ℕ) → j < i → ¬ IsRootItem t j

-- where its 24 bytes start, in a database of two items at most: `/`, and perhaps `.locks`. The items are a table's end.
pub record IsRootPlace (file : List ℕ) (place : ℕ) : Type 0 where
  pub opens : IsDatabase file
  pub few : item_count (root_of file) ≤ 2
  pub index : ℕ
  pub first : IsFirstRoot (root_of file) index
  pub place_is : place ≡ u32_at file 20 - 24 * (item_count (root_of file) - index)

-- the item that starts there as an empty list: its kind at 14, and at 16 its contents, from 0 to 0
abbrev pub with_empty_list : List ℕ → ℕ → List ℕ
with_empty_list file place =
    take (place + 14) file ++ list_kind ∷ slice_range file (place + 15) (place + 16) ++ replicate 8 0 ++ drop (place + 24) file

-- with `/` as an empty list it is sound
pub record IsKeyless (file mended : List ℕ) : Type 0 where
  pub place : ℕ
  pub is_place : IsRootPlace file place
  pub mended_is : mended ≡ with_empty_list file place
  pub good : IsGood (Some mended)

-- an allocation failed, or it is none such
abbrev pub IsNotKeyless : List ℕ → Fault → Type 0
IsNotKeyless file fault = (fault ≡ Memory) ⊎ ((fault ≡ Unsound) × ((mended : List ℕ) → ¬ IsKeyless file mended))

-- the number of the fault is told
abbrev pub IsNotMended : List ℕ → ℕ → Type 0
IsNotMended file number = (fault : Fault) × (number_of fault ≡ number) × IsNotKeyless file fault

-- and the file is handed out
abbrev pub IsMended : List ℕ → List ℕ → List ℕ → ℕ → Type 0
IsMended file old new n = (mended : List ℕ) × IsKeyless file mended × HandsOut mended old new n

-- ---- words of private parts

-- the key is there, and is `/`
abbrev pub IsSlash : Option (Bor (List ℕ)) → Type 0
IsSlash None = ⊥
IsSlash (Some key) = key.now ≡ codes "/"
