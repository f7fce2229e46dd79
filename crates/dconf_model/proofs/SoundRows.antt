-- A search of a sound table, and of its table of locks, finds just the rows.
use Rattle.std.proofs.Common.{◌≡◌, ◌<◌, ◌↔◌, ℕ, List, [], Some, None, refl, sym, ◌∙◌, subst, codes}
use Rattle.std.proofs.lemmas.Option.{none-some}
use Rattle.dconf_model.specs.Table.{Table, item_count, key, table_of, value_kind, table_kind}
use Rattle.dconf_model.specs.Names.{HasName, IsRow}
use Rattle.dconf_model.specs.Searchable.{IsSearchable}
use Rattle.dconf_model.specs.Sound.{IsLockTable}
use Rattle.dconf_model.specs.Sound.Rule.{locks}
use Rattle.dconf_model.specs.SoundLaws.{FindsRows, SoundFindsRows, HoldsLocksAlone, LocksAreSearchable}
use Rattle.dconf_model.proofs.NameSteps.{at_root}
use Rattle.dconf_model.proofs.RowLaws.{counted, rows_are_found, one_found}
use Rattle.dconf_model.proofs.LaidNames.{one_name}
use Rattle.dconf_model.proofs.SoundLaws.{sound_is_searchable}
use Rattle.dconf_model.proofs.DirectoryNames.{locks_are_a_table, row_of}

-- ---- searches

pub finds_rows : (t : Table) → IsSearchable t → FindsRows t
finds_rows t s = record {
  found = λ name kind i. rows_are_found t name kind i s;
  missed = λ name kind. (
    λ none i row. none-some i (one_found t name kind None (Some i) none ((rows_are_found t name kind i s).1 row)),
    λ none i least bytes. none i ((rows_are_found t name kind i s).0 (least, bytes)),
  );
}

pub sound_finds_rows : SoundFindsRows
sound_finds_rows t sound = finds_rows t (sound_is_searchable t sound)

-- ---- `.locks`

-- a lock's name is its key
lock_name : (t : Table) (i : ℕ) → IsLockTable t → i < item_count t → HasName t i (key t i)
lock_name t i l here =
    (at_root t i [] (key t i) record { counted = here; key_inside = (l.searchable.good_key i here).inside } (l.locks i here).whole refl).0 refl

lock_rows : (t : Table) (name : List ℕ) (kind i : ℕ) → IsLockTable t → IsRow t name kind i ↔ ((i < item_count t) × (name ≡ key t i) × (kind ≡ value_kind))
lock_rows t name kind i l = (
  λ row.
      let here = counted t i name row.named in
      (here, one_name t i name (key t i) row.named (lock_name t i l here), sym row.of_kind ∙ (l.locks i here).value),
  λ at. record {
    named = subst (HasName t i) (sym at.1) (lock_name t i l at.0);
    of_kind = (l.locks i at.0).value ∙ sym at.2;
    valid = (l.searchable.content i at.0).valid;
  },
)

holds_locks : (t : Table) → IsLockTable t → HoldsLocksAlone t
holds_locks t l = record {
  opens = l.opens;
  searchable = l.searchable;
  finds = finds_rows t l.searchable;
  rows = λ name kind i. lock_rows t name kind i l;
}

pub locks_are_searchable : LocksAreSearchable
locks_are_searchable t i sound h = (
  row_of t i (codes ".locks") table_kind sound h (locks_are_a_table t i sound h),
  holds_locks (table_of t i) (sound locks i (counted t i (codes ".locks") h) h),
)
