-- The list of a directory of a sound database names what the directory has; its table of locks names its locks.
use Rattle.std.specs.Prelude.{IsTrue, Contains}
use Rattle.std.proofs.Common.{◌≡◌, ℕ, false, List, ◌++◌, Option, Some, None, is_some, refl, sym, ap, ◌∙◌, subst}
use Rattle.std.specs.FinMap.{get, keys}
use Rattle.std.specs.List.{list_any}
use Rattle.std.specs.Str.{bytes_eq}
use Rattle.std.proofs.Math.Bool.{Bool-set}
use Rattle.std.proofs.Math.Logic.{∥∥₁_elim}
use Rattle.dconf_model.specs.Layers.{parts_below}
use Rattle.dconf_model.specs.Listed.{keys_in_list}
use Rattle.dconf_model.specs.Names.{IsRow, Rows}
use Rattle.dconf_model.specs.Paths.{ends_with_slash}
use Rattle.dconf_model.specs.Search.{Finds}
use Rattle.dconf_model.specs.SoundLaws.{IsPartBelow}
use Rattle.dconf_model.specs.Table.{Table as Region, value_kind, list_kind}
use Rattle.dconf_model.proofs.KeyNames.{directories_are_listed}
use Rattle.dconf_model.proofs.ListedParts.{lists_first_parts}
use Rattle.dconf_model.proofs.Listings.{path_of_part, part_of_path}
use Rattle.dconf_model.proofs.PathMaps.{key_in, same_bool, no_truth}
use Rattle.dconf_model.proofs.SoundRows.{sound_finds_rows}
use Rattle.gvdb_read.specs.declared.table.Table.{Table}
use Rattle.gvdb_read.specs.Tables.{region}
use Rattle.dconf_layers.specs.SoundTables.{AreOfSoundDatabase}
use Rattle.dconf_layers.proofs.SoundLayers.{says, settings_at}
use Rattle.dconf_model.proofs.ListingOrder.{find_text, found_text}

-- ---- values

abbrev paths_at : Region → List (List ℕ)
paths_at t = keys (settings_at t).values

pub some_bytes : (o : Option (List ℕ)) → IsTrue (is_some o) → (bytes : List ℕ) × (o ≡ Some bytes)
some_bytes None e = absurd (no_truth e)
some_bytes (Some bytes) e = (bytes, refl)

row_at : (values : Table) (locks : Option Table) (path : List ℕ) → AreOfSoundDatabase values locks → Contains (paths_at (region values)) path →
    (bytes : List ℕ) × Rows (region values) path value_kind bytes
row_at values locks path o h =
    let m = (settings_at (region values)).values in
    let some = some_bytes (get m path) (key_in m path ∙ find_text path (keys m) h) in
    (some.0, subst (λ (t : Region). Rows t path value_kind some.0) (sym o.root) (((says values locks o).values path some.0).1 some.1))

path_at : (values : Table) (locks : Option Table) (path bytes : List ℕ) → AreOfSoundDatabase values locks → Rows (region values) path value_kind bytes →
    Contains (paths_at (region values)) path
path_at values locks path bytes o row =
    let m = (settings_at (region values)).values in
    let e = ((says values locks o).values path bytes).0 (subst (λ (t : Region). Rows t path value_kind bytes) o.root row) in
    found_text path (keys m) (sym (key_in m path) ∙ ap is_some e)

-- a part below the directory, by the table and by the settings
part_in : (values : Table) (locks : Option Table) (d part : List ℕ) → AreOfSoundDatabase values locks → IsPartBelow (region values) d part →
    Contains (parts_below d (paths_at (region values))) part
part_in values locks d part o b =
    subst (Contains (parts_below d (paths_at (region values)))) (sym b.3)
    (part_of_path d b.0 (paths_at (region values)) (path_at values locks (d ++ b.0) b.1 o b.2))

part_of : (values : Table) (locks : Option Table) (d part : List ℕ) → AreOfSoundDatabase values locks → Contains (parts_below d (paths_at (region values))) part →
    IsPartBelow (region values) d part
part_of values locks d part o h =
    let p = path_of_part d (paths_at (region values)) part h in
    let row = row_at values locks (d ++ p.0) o p.1 in
    (p.0, row.0, row.1, p.2)

pub names_listed : (values : Table) (locks : Option Table) (d : List ℕ) (i : ℕ) (part : List ℕ) → AreOfSoundDatabase values locks → IsRow (region values) d list_kind i →
    list_any (bytes_eq part) (keys_in_list (region values) i) ≡ list_any (bytes_eq part) (parts_below d (paths_at (region values)))
names_listed values locks d i part o row =
    let t = region values in
    let law = lists_first_parts t d i part o.sound row in
    same_bool (list_any (bytes_eq part) (keys_in_list t i)) (list_any (bytes_eq part) (parts_below d (paths_at t)))
    (λ e. find_text part (parts_below d (paths_at t)) (part_in values locks d part o (law.0 (found_text part (keys_in_list t i) e))))
    (λ e. find_text part (keys_in_list t i) (law.1 (part_of values locks d part o (found_text part (parts_below d (paths_at t)) e))))

not_listed : (values : Table) (locks : Option Table) (d part : List ℕ) → AreOfSoundDatabase values locks → IsTrue (ends_with_slash d) → Finds (region values) d list_kind None →
    false ≡ list_any (bytes_eq part) (parts_below d (paths_at (region values)))
not_listed values locks d part o ends none =
    let t = region values in
    same_bool false (list_any (bytes_eq part) (parts_below d (paths_at t))) (λ e. absurd (no_truth e))
    (λ e.
    let b = part_of values locks d part o (found_text part (parts_below d (paths_at t)) e) in
    let list = directories_are_listed t d b.0 b.2.0 o.sound ends b.2.1.named b.2.1.of_kind in
    absurd (((sound_finds_rows t o.sound).missed d list_kind).0 none list.0 list.1))

-- the same of a database whose fact is truncated: equations of tests have one proof
pub not_listed_in : (values : Table) (locks : Option Table) (d part : List ℕ) → ∥ AreOfSoundDatabase values locks ∥₁ → IsTrue (ends_with_slash d) → Finds (region values) d list_kind None →
    false ≡ list_any (bytes_eq part) (parts_below d (keys (settings_at (region values)).values))
not_listed_in values locks d part h ends none = ∥∥₁_elim h (Bool-set _ _) (λ o. not_listed values locks d part o ends none)
