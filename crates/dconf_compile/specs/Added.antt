-- What keyfiles and lock files put into a map, as far as they are read.
use Rattle.std.specs.Prelude.{◌≡◌, ◌≤◌, ℕ, true, List, length, codes, Result, Ok, fold}
use Rattle.std.specs.List.{AllByRecursion}
use Rattle.gv_model.specs.Tree.{Tree}
use Rattle.dconf_model.specs.Causes.{SettingsCause}
use Rattle.dconf_model.specs.Changes.{with_all}
use Rattle.dconf_model.specs.Keyfiles.{Row, is_group, is_key, path_of}
use Rattle.dconf_model.specs.Lines.{LineReading, longest_text}
use Rattle.dconf_model.specs.Lines.LineReading.{found}
use Rattle.dconf_model.specs.Locks.{LockLine}
use Rattle.dconf_model.specs.Settings.{Settings, with_value, with_lock}
use Rattle.dconf_model.specs.Sources.{Assigned, row_read}
use Rattle.dconf_model.specs.Stores.{IsLimitedValue}
use Rattle.dconf_model.specs.Values.{value_of_text, if_storable, stored}

-- ---- one row

-- what the rules of keyfiles leave of a row's parts
pub record IsReadRow (r : Row) : Type 0 where
  pub group : is_group r.group ≡ true
  pub key : is_key r.key ≡ true
  pub text : length r.text ≤ longest_text

abbrev pub text_compiled : List ℕ → Result Tree SettingsCause
text_compiled text = if_storable (value_of_text text)

abbrev pub row_compiled : Row → LineReading Assigned
row_compiled r = row_read text_compiled (path_of (codes "/") r) r.text

-- the text has a value, and these bytes are stored for it
pub record IsStoredFor (reading : Result Tree SettingsCause) (kept : List ℕ) : Type 0 where
  pub value : Tree
  pub read : reading ≡ Ok value
  pub limited : IsLimitedValue value
  pub bytes : kept ≡ stored value

pub record AddsRow (reading : LineReading Assigned) (old new : Settings) : Type 0 where
  pub row : Assigned
  pub found : reading ≡ found row
  pub limited : IsLimitedValue row.value
  pub added : new ≡ with_value old row.path (stored row.value)

-- ---- all of them

abbrev pub with_rows : List Assigned → Settings → Settings
with_rows rows s = record s { values = with_all rows s.values }

abbrev pub with_locks : List LockLine → Settings → Settings
with_locks locks s = fold (λ s lock. with_lock s lock.path) s locks

pub record AddsRows {F : Type 0} (reading : Result (List Assigned) F) (old new : Settings) : Type 0 where
  pub rows : List Assigned
  pub read : reading ≡ Ok rows
  pub limited : AllByRecursion (λ row. IsLimitedValue row.value) rows
  pub added : new ≡ with_rows rows old

pub record AddsLocks {F : Type 0} (reading : Result (List LockLine) F) (old new : Settings) : Type 0 where
  pub locks : List LockLine
  pub read : reading ≡ Ok locks
  pub added : new ≡ with_locks locks old
