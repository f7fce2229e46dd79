-- What an item of a sound database gives as a row, and that each path that has a value is a row's.
use Rattle.std.specs.Prelude.{IfNone, IfSome, IsSome, IsTrue, IsUtf8, string_bytes}
use Rattle.std.proofs.Common.{◌≡◌, ◌≢◌, ◌+◌, ◌-◌, ◌<◌, ◌≤◌, append_assoc, append-nil, ℕ, zero, suc, true, false, cond, eqb, eqb-true, eq-eqb, ne_eqb, T, List, [], ◌∷◌, ◌++◌, ◌||◌, ◌&&◌, length, map, not, Option, Some, None, is_some, option_map, refl, sym, ap, ◌∙◌, subst, arith}
use Rattle.std.specs.Borrow.{Bor}
use Rattle.std.specs.Coded.{coded×, coded_option, coded_list, coded_ℕ}
use Rattle.std.specs.declared.alloc.Global.{Global}
use Rattle.std.specs.declared.string.String.{String}
use Rattle.std.specs.Cmp.Lexicographic.{slice_cmp, nat_list_cmp_total}
use Rattle.std.specs.FinMap.{from_entries, get, get-from_entries}
use Rattle.std.specs.FinMap.Entries.{is_some-find}
use Rattle.std.specs.List.{list_any}
use Rattle.std.specs.Ordering.{nat_cmp, eq_by_cmp}
use Rattle.std.specs.Str.{bytes_eq}
use Rattle.std.proofs.Math.Bool.{Bool-set}
use Rattle.std.proofs.Math.Facts.{leb_yes}
use Rattle.std.proofs.Math.Logic.{∥∥₁_elim}
use Rattle.std.proofs.lemmas.Bool.{and_parts}
use Rattle.std.proofs.lemmas.List.Elements.{All-nil, All-cons, All-append}
use Rattle.std.proofs.lemmas.Map.Text.{is_eq-slice_cmp}
use Rattle.std.proofs.lemmas.Str.{IsUtf8-append}
use base.Stored.{Coded-set}
use Rattle.dconf_model.specs.Databases.{gathered, row_of_value, value_rows}
use Rattle.dconf_model.specs.Names.{HasName, HasParents, full_name, joined, name_of, Rows}
use Rattle.dconf_model.specs.Paths.{is_key_path, is_path, is_short, starts_with_slash, has_zero_byte, has_two_slashes, ends_with_slash}
use Rattle.dconf_model.specs.Searchable.{IsSearchable}
use Rattle.dconf_model.specs.Sound.Rule.{chain, content, keys}
use Rattle.dconf_model.specs.Table.{Table as Region, HasBytes, bytes_of, item, key, value_kind}
use Rattle.dconf_model.proofs.ComputedNames.{name_of_named}
use Rattle.dconf_model.proofs.FullNames.{full_name_is, has_full_name}
use Rattle.dconf_model.proofs.KeyNames.{values_are_keys}
use Rattle.dconf_model.proofs.ParentLaws.{by_bool}
use Rattle.dconf_model.proofs.PathMaps.{no_truth}
use Rattle.dconf_model.proofs.SoundLaws.{sound_is_searchable}
use Rattle.gvdb_format.specs.declared.item.Item.{Item as Shown}
use Rattle.gvdb_read.specs.Tables.{region}
use Rattle.gvdb_format.specs.Tables.{IsShownAs, LendsWhere}
use Rattle.gvdb_alike.specs.ValuesAlike.{HasElsewhere}
use Rattle.gvdb_write.specs.Salvaged.{HasNoShortText}
use Rattle.dconf_layers.specs.declared.layer.Layer.{Layer}
use Rattle.dconf_layers.specs.LayerRows.{AreOf, items_of, layer_paths, layer_rows, row_at, rows_from, value_in}
use Rattle.dconf_layers.specs.LayerSettings.{locks_of, settings_of}
use Rattle.dconf_layers.proofs.SoundLayers.{says}

-- ---- a name is a text, and that of a key is short

joined_utf8 : (t : Region) (i : ℕ) (ps : List ℕ) → IsSearchable t → HasParents t i ps → IsUtf8 (joined t i ps)
joined_utf8 t i [] s h = (s.good_key i h.0.counted).utf8
joined_utf8 t i (p ∷ ps) s h = IsUtf8-append (joined t p ps) (key t i) (joined_utf8 t p ps s h.3) (s.good_key i h.0.counted).utf8

pub name_utf8 : (t : Region) (i : ℕ) (name : List ℕ) → IsSearchable t → HasName t i name → IsUtf8 name
name_utf8 t i name s h = subst IsUtf8 h.spelled (joined_utf8 t i h.parents s h.chain)

pub short_path : (name : List ℕ) → is_path name ≡ true → length name ≤ 65535
short_path name path =
    let short = (and_parts (starts_with_slash name && not (has_zero_byte name) && not (has_two_slashes name)) (is_short name) path).1 in
    leb_yes (subst (λ b. T b) (sym short) tt)

-- ---- an item that is a value

lent : (P : Type 0) (bytes : List ℕ) → P → (b : Option (Bor (List ℕ))) → LendsWhere P bytes b → option_map (λ b. b.now) b ≡ Some bytes
lent P bytes p None lends = absurd (lends p)
lent P bytes p (Some b) lends = ap (λ x. Some x) lends.1

pub value_shown : (layer : Layer) (i : ℕ) (shown : Shown) → IsShownAs (region layer.values) i shown → shown.kind ≡ value_kind →
    option_map (λ b. b.now) shown.bytes ≡ value_in layer i
value_shown layer i shown is kind =
    let t = region layer.values in
    ∥∥₁_elim layer.sound (Coded-set (coded_option (coded_list coded_ℕ)) _ _)
    (λ o. lent (HasBytes t i) (bytes_of t i) (o.sound content i is.counted).valid shown.bytes is.bytes)
    ∙ sym (ap (λ b. cond b (Some (bytes_of t i)) None) (eq-eqb (item t i).kind value_kind (sym is.kind ∙ kind)))

pub no_value_shown : (layer : Layer) (i : ℕ) (shown : Shown) → IsShownAs (region layer.values) i shown → shown.kind ≢ value_kind → None ≡ value_in layer i
no_value_shown layer i shown is other =
    let t = region layer.values in
    sym (ap (λ b. cond b (Some (bytes_of t i)) None) (ne_eqb (item t i).kind value_kind (λ e. other (is.kind ∙ e))))

module _ (layer : Layer) (i : ℕ) where
  abbrev t : Region
  t = region layer.values

  pub no_row : None ≡ value_in layer i → [] ≡ row_at t i
  no_row none = by_bool (eqb (item t i).kind value_kind) ([] ≡ row_at t i)
      (λ is. let bad : None ≡ Some (bytes_of t i) = none ∙ ap (λ b. cond b (Some (bytes_of t i)) None) is in absurd cc)
      (λ other. go (name_of t i) other)
    where
      go : (o : Option (List ℕ)) → eqb (item t i).kind value_kind ≡ false → [] ≡ row_of_value t i o
      go None other = refl
      go (Some name) other = rw other refl

  module _ (bytes : List ℕ) (there : Some bytes ≡ value_in layer i) where
    is_value : ((item t i).kind ≡ value_kind) × (bytes_of t i ≡ bytes)
    is_value = by_bool (eqb (item t i).kind value_kind) (((item t i).kind ≡ value_kind) × (bytes_of t i ≡ bytes))
        (λ is. (eqb-true (item t i).kind value_kind is, (let e : Some bytes ≡ Some (bytes_of t i) = there ∙ ap (λ b. cond b (Some (bytes_of t i)) None) is in cc)))
        (λ other. let bad : Some bytes ≡ None = there ∙ ap (λ b. cond b (Some (bytes_of t i)) None) other in absurd cc)

    pub key_named : (name : List ℕ) → HasName t i name → IsTrue (is_key_path name)
    key_named name h = ∥∥₁_elim layer.sound (Bool-set _ _) (λ o. values_are_keys t name i o.sound h is_value.0)

    pub row_named : (name : List ℕ) → HasName t i name → (name, bytes) ∷ [] ≡ row_at t i
    row_named name h = rw (name_of_named t i name h, eq-eqb (item t i).kind value_kind is_value.0, is_value.1) refl

    pub bytes_named : (name : List ℕ) → i < items_of layer → HasName t i name → get (settings_of layer).values name ≡ Some bytes
    bytes_named name within h =
        ∥∥₁_elim layer.sound (Coded-set (coded_option (coded_list coded_ℕ)) _ _) (λ o.
        let row : Rows t name value_kind bytes = (i, record { named = h; of_kind = is_value.0; valid = (o.sound content i within).valid }, is_value.1) in
        ((says layer.values (locks_of layer) o).values name bytes).0 (subst (λ (u : Region). Rows u name value_kind bytes) o.root row))

    -- each has a name

    pub row_there : i < items_of layer → (full_name t i, bytes) ∷ [] ≡ row_at t i
    row_there within =
        ∥∥₁_elim layer.sound (Coded-set (coded_list (coded× (coded_list coded_ℕ) (coded_list coded_ℕ))) _ _)
        (λ o. row_named (full_name t i) (has_full_name t i (o.sound keys) (o.sound chain) within))

    pub bytes_there : i < items_of layer → get (settings_of layer).values (full_name t i) ≡ Some bytes
    bytes_there within =
        ∥∥₁_elim layer.sound (Coded-set (coded_option (coded_list coded_ℕ)) _ _)
        (λ o. bytes_named (full_name t i) within (has_full_name t i (o.sound keys) (o.sound chain) within))

    pub some_name : i < items_of layer → (found : Option (String Global)) → IfNone found (HasNoShortText t i) → IsSome found
    some_name within (Some name) none = refl
    some_name within None none =
        ∥∥₁_elim layer.sound (Bool-set _ _) (λ o.
        let name = full_name t i in
        let h = has_full_name t i (o.sound keys) (o.sound chain) within in
        let a = short_path name (and_parts (is_path name) (not (ends_with_slash name)) (key_named name h)).0 in
        let b = none name h (name_utf8 t i name (sound_is_searchable t o.sound) h) in
        absurd (omega (arith, a, b)))

    pub name_given : (found : Option (String Global)) → IfSome found (λ name. HasName t i (string_bytes name)) → (name : String Global) → found ≡ Some name →
        (string_bytes name ≡ full_name t i) × IsTrue (is_key_path (string_bytes name))
    name_given found some name is =
        let h = subst (λ (o : Option (String Global)). IfSome o (λ name. HasName t i (string_bytes name))) is some in
        (sym (full_name_is t i (string_bytes name) h), key_named (string_bytes name) h)

-- another layer has its bytes at its name
pub there_too : (layer other : Layer) (i : ℕ) (bytes : List ℕ) → i < items_of layer → Some bytes ≡ value_in layer i → HasElsewhere (region layer.values) i (region other.values) →
    get (settings_of other).values (full_name (region layer.values) i) ≡ Some bytes
there_too layer other i bytes within there h =
    let t = region layer.values in
    ∥∥₁_elim layer.sound (Coded-set (coded_option (coded_list coded_ℕ)) _ _)
    (λ o. bytes_named other h.at bytes (there ∙ h.value) (full_name t i) h.counted (h.named (full_name t i) (has_full_name t i (o.sound keys) (o.sound chain) within)))

-- ---- so many rows

module _ (t : Region) where
  -- so many, and then so many more
  pub rows_split : (i m n : ℕ) → rows_from t i (m + n) ≡ rows_from t i m ++ rows_from t (i + m) n
  rows_split i zero n = let e : 0 + n ≡ n = omega arith in let f : i ≡ i + 0 = omega arith in ap (rows_from t i) e ∙ ap (λ k. rows_from t k n) f
  rows_split i (suc m) n =
      let e : suc m + n ≡ suc (m + n) = omega arith in
      let f : i + 1 + m ≡ i + suc m = omega arith in
      ap (rows_from t i) e ∙ ap (λ rows. row_at t i ++ rows) (rows_split (i + 1) m n ∙ ap (λ k. rows_from t (i + 1) m ++ rows_from t k n) f)
      ∙ sym (append_assoc (row_at t i) (rows_from t (i + 1) m) (rows_from t (i + suc m) n))

  pub all_rows : (n : ℕ) → rows_from t 0 n ≡ gathered (row_at t) n
  all_rows zero = refl
  all_rows (suc n) =
      let e : suc n ≡ n + 1 = omega arith in
      let f : 0 + n ≡ n = omega arith in
      ap (rows_from t 0) e ∙ rows_split 0 n 1 ∙ ap (λ k. rows_from t 0 n ++ (row_at t k ++ [])) f ∙ ap (λ rows. rows_from t 0 n ++ rows) (append-nil (row_at t n))
      ∙ ap (λ rows. rows ++ row_at t n) (all_rows n)

  first_row : (i n : ℕ) → 0 < n → rows_from t i n ≡ row_at t i ++ rows_from t (i + 1) (n - 1)
  first_row i n some = let e : n ≡ suc (n - 1) = omega (arith, some) in ap (rows_from t i) e

pub entry_here : (layer : Layer) (i n : ℕ) (bytes : List ℕ) → 0 < n → i < items_of layer → Some bytes ≡ value_in layer i →
    rows_from (region layer.values) i n ≡ (full_name (region layer.values) i, bytes) ∷ rows_from (region layer.values) (i + 1) (n - 1)
entry_here layer i n bytes some within there =
    let t = region layer.values in
    first_row t i n some ∙ ap (λ rows. rows ++ rows_from t (i + 1) (n - 1)) (sym (row_there layer i bytes there within))

pub no_entry_here : (layer : Layer) (i n : ℕ) → 0 < n → None ≡ value_in layer i → rows_from (region layer.values) i n ≡ rows_from (region layer.values) (i + 1) (n - 1)
no_entry_here layer i n some none =
    let t = region layer.values in
    first_row t i n some ∙ ap (λ rows. rows ++ rows_from t (i + 1) (n - 1)) (sym (no_row layer i none))

-- ---- all rows

abbrev IsOf : Layer → List ℕ × List ℕ → Type 0
IsOf layer row = get (settings_of layer).values row.0 ≡ Some row.1

row_is_of : (layer : Layer) (i : ℕ) → i < items_of layer → AreOf layer (row_at (region layer.values) i)
row_is_of layer i within = go (value_in layer i) refl
  where
    go : (o : Option (List ℕ)) → o ≡ value_in layer i → AreOf layer (row_at (region layer.values) i)
    go None e = subst (AreOf layer) (no_row layer i e) (All-nil (IsOf layer))
    go (Some bytes) e =
        subst (AreOf layer) (row_there layer i bytes e within)
        (All-cons (IsOf layer) (full_name (region layer.values) i, bytes) [] (bytes_there layer i bytes e within) (All-nil (IsOf layer)))

pub rows_in : (layer : Layer) (i n : ℕ) → i + n ≤ items_of layer → AreOf layer (rows_from (region layer.values) i n)
rows_in layer i zero within = All-nil (IsOf layer)
rows_in layer i (suc n) within =
    All-append (IsOf layer) (row_at (region layer.values) i) (rows_from (region layer.values) (i + 1) n) (row_is_of layer i (omega (arith, within))) (rows_in layer (i + 1) n (omega (arith, within)))

pub rows_are : (layer : Layer) → AreOf layer (layer_rows layer)
rows_are layer = subst (AreOf layer) (all_rows (region layer.values) (items_of layer)) (rows_in layer 0 (items_of layer) (omega arith))

any_text : (p : List ℕ) (ts : List (List ℕ)) → list_any (bytes_eq p) ts ≡ list_any (eq_by_cmp (slice_cmp nat_cmp) p) ts
any_text p [] = refl
any_text p (t ∷ ts) = ap (λ b. b || list_any (bytes_eq p) ts) (sym (is_eq-slice_cmp p t)) ∙ ap (λ b. eq_by_cmp (slice_cmp nat_cmp) p t || b) (any_text p ts)

pub has_path : (layer : Layer) (p : List ℕ) → list_any (bytes_eq p) (layer_paths layer) ≡ is_some (get (settings_of layer).values p)
has_path layer p =
    let rows = layer_rows layer in
    any_text p (map (λ row. row.0) rows)
    ∙ sym (is_some-find (slice_cmp nat_cmp) p rows)
    ∙ ap is_some (sym (get-from_entries nat_list_cmp_total rows p))
    ∙ ∥∥₁_elim layer.sound (Bool-set _ _) (λ o. ap (λ (t : Region). is_some (get (from_entries {R = slice_cmp nat_cmp} (value_rows t)) p)) o.root)

-- what has a value is a row's
pub each_is_there : (layer : Layer) (p bytes : List ℕ) → get (settings_of layer).values p ≡ Some bytes → list_any (bytes_eq p) (layer_paths layer) ≡ true
each_is_there layer p bytes e = has_path layer p ∙ ap is_some e

pub is_none : {X : Type 0} (o : Option X) → is_some o ≡ false → None ≡ o
is_none None e = refl
is_none (Some x) e = absurd (no_truth (sym e))

pub nothing_in : (layer : Layer) (p : List ℕ) → items_of layer ≡ 0 → None ≡ get (settings_of layer).values p
nothing_in layer p none =
    let t = region layer.values in
    is_none (get (settings_of layer).values p) (sym (has_path layer p) ∙ ap (λ n. list_any (bytes_eq p) (map {B = List ℕ} (λ row. row.0) (gathered (row_at t) n))) none)
