-- What the list of a directory says of the directory's children in a layer, and in one layer after another.
use Rattle.std.specs.Prelude.{Contains, IsSome, IsTrue, IsUtf8, option_map}
use Rattle.std.proofs.Common.{◌≡◌, ◌+◌, ◌*◌, ◌-◌, ◌<◌, ◌≤◌, append_assoc, ◌||◌, append-nil, ℕ, zero, suc, Bool, true, false, cond, eqb, eqb-true, eq-eqb, List, [], ◌∷◌, ◌++◌, map, drop, length, Option, Some, None, is_some, refl, sym, ap, ◌∙◌, subst, arith, inl, inr}
use Rattle.std.specs.Borrow.{Bor}
use Rattle.std.specs.Coded.{coded×, coded_option, coded_list, coded_ℕ}
use Rattle.std.specs.FinMap.{get, keys}
use Rattle.std.specs.List.{All, list_any}
use Rattle.std.specs.Option.{option_or}
use Rattle.std.specs.Str.{bytes_eq}
use Rattle.std.proofs.Math.Bool.{Bool-set}
use Rattle.std.proofs.Math.Bridge.{le_prop}
use Rattle.std.proofs.Math.Logic.{∥∥₁_elim}
use Rattle.std.proofs.lemmas.List.{map-append}
use Rattle.std.proofs.lemmas.List.Elements.{All-nil, All-cons, All-head, All-tail}
use Rattle.std.proofs.lemmas.List.Folds.{find-append, list_any-append}
use Rattle.std.proofs.lemmas.Option.{same_Some}
use Rattle.std.proofs.lemmas.Str.{is_utf8-from_IsUtf8, IsUtf8-from_is_utf8}
use base.Stored.{Coded-set}
use Rattle.dconf_model.specs.Bytes.{u32_at}
use Rattle.dconf_model.specs.Layers.{Place, all_paths, first_from, parts_below, place_or}
use Rattle.dconf_model.specs.Listed.{listed_keys}
use Rattle.dconf_model.specs.Locks.{is_below}
use Rattle.dconf_model.specs.Names.{HasName, IsItem, IsRow, Rows}
use Rattle.dconf_model.specs.Paths.{ends_with_slash, first_part, is_key_path}
use Rattle.dconf_model.specs.Search.{Finds}
use Rattle.dconf_model.specs.Settings.{Settings}
use Rattle.dconf_model.specs.Sound.{IsChild, ListsChildren}
use Rattle.dconf_model.specs.Sound.Rule.{keys as rule_keys, lists}
use Rattle.dconf_model.specs.Table.{Table as Region, bytes_of, item, key, list_kind, value_kind}
use Rattle.dconf_model.proofs.ComputedNames.{is_tested}
use Rattle.dconf_model.proofs.DirectoryNames.{child_name, row_of}
use Rattle.dconf_model.proofs.FirstPartLaws.{cut_rest}
use Rattle.dconf_model.proofs.FirstParts.{EndsInSlash, still_ends}
use Rattle.dconf_model.proofs.FullNames.{here}
use Rattle.dconf_model.proofs.KeyNames.{key_is_open}
use Rattle.dconf_model.proofs.ListingOrder.{find_text, found_text}
use Rattle.dconf_model.proofs.Listings.{part_of_path, path_of_part}
use Rattle.dconf_model.proofs.ParentLaws.{by_bool}
use Rattle.dconf_model.proofs.PathLaws.{ends_in}
use Rattle.dconf_model.proofs.PathMaps.{key_in, no_truth}
use Rattle.dconf_model.proofs.RowLaws.{counted, one_item}
use Rattle.dconf_model.proofs.SameBytes.{same_path}
use Rattle.dconf_model.proofs.SoundLaws.{sound_is_searchable}
use Rattle.dconf_model.proofs.SoundRows.{sound_finds_rows}
use Rattle.gvdb_format.specs.declared.item.Item.{Item as Shown}
use Rattle.gvdb_format.specs.Tables.{IsShownAs, LendsWhere}
use Rattle.gvdb_read.specs.declared.item_list.ItemList.{ItemList}
use Rattle.gvdb_read.specs.declared.table.Table.{Table}
use Rattle.gvdb_read.specs.Lookups.{IsItemListOf}
use Rattle.gvdb_read.specs.Tables.{region}
use Rattle.dconf_layers.specs.declared.children.Child.{Child}
use Rattle.dconf_layers.specs.declared.layer.Layer.{Layer}
use Rattle.dconf_layers.specs.Children.{AreChildren, ChildRow, child_row, found_row, item_row, names_of, row_found}
use Rattle.dconf_layers.specs.LayerRows.{items_of}
use Rattle.dconf_layers.specs.LayerSettings.{locks_of, settings_of}
use Rattle.dconf_layers.specs.SoundTables.{AreOfSoundDatabase}
use Rattle.dconf_layers.specs.TextSets.{TextSet, with_text, with_texts}
use Rattle.dconf_layers.proofs.ListedNames.{names_listed, not_listed_in, some_bytes}
use Rattle.dconf_layers.proofs.SoundLayers.{says, settings_at}

-- so many items, whose numbers occur from that place on
abbrev pub listed_rows : ℕ → Region → ℕ → ℕ → List ChildRow
listed_rows index t at zero = []
listed_rows index t at (suc n) = item_row index t (u32_at t.file at) ∷ listed_rows index t (at + 4) n

-- ---- the numbers of a list

abbrev AreAll : (ℕ → Type 0) → Region → ℕ → ℕ → Type 0
AreAll P t at n = (k : ℕ) → k < n → P (u32_at t.file (at + 4 * k))

module _ (P : ℕ → Type 0) (t : Region) where
  first_is : (at n : ℕ) → AreAll P t at (suc n) → P (u32_at t.file at)
  first_is at n are = let e : at + 4 * 0 ≡ at = omega arith in subst (λ x. P (u32_at t.file x)) e (are 0 (omega arith))

  next_are : (at n : ℕ) → AreAll P t at (suc n) → AreAll P t (at + 4) n
  next_are at n are k l = let e : at + 4 * suc k ≡ at + 4 + 4 * k = omega arith in subst (λ x. P (u32_at t.file x)) e (are (suc k) (omega (arith, l)))

rows_are_keys : (n : ℕ) (index : ℕ) (t : Region) (at : ℕ) → AreAll (IsItem t) t at n → names_of (listed_rows index t at n) ≡ listed_keys t at n
rows_are_keys zero index t at are = refl
rows_are_keys (suc n) index t at are =
    let i = u32_at t.file at in
    ap (λ (l : List (List ℕ)). key t i ∷ l) (rows_are_keys n index t (at + 4) (next_are (IsItem t) t at n are))
    ∙ sym (ap (λ b. cond b (key t i ∷ []) [] ++ listed_keys t (at + 4) n) (is_tested t i (first_is (IsItem t) t at n are)))

all_rows : (P : ChildRow → Type 0) (n : ℕ) (index : ℕ) (t : Region) (at : ℕ) → AreAll (λ i. P (item_row index t i)) t at n → All P (listed_rows index t at n)
all_rows P zero index t at are = All-nil P
all_rows P (suc n) index t at are =
    let Q : ℕ → Type 0 = λ i. P (item_row index t i) in
    All-cons P (item_row index t (u32_at t.file at)) (listed_rows index t (at + 4) n) (first_is Q t at n are) (all_rows P n index t (at + 4) (next_are Q t at n are))

rows_step : (index : ℕ) (t : Region) (at n k : ℕ) → k < n → listed_rows index t (at + 4 * k) (n - k) ≡ item_row index t (u32_at t.file (at + 4 * k)) ∷ listed_rows index t (at + 4 * (k + 1)) (n - (k + 1))
rows_step index t at n k l =
    let e : n - k ≡ suc (n - (k + 1)) = omega (arith, l) in
    let f : at + 4 * k + 4 ≡ at + 4 * (k + 1) = omega arith in
    ap (listed_rows index t (at + 4 * k)) e ∙ ap (λ next. item_row index t (u32_at t.file (at + 4 * k)) ∷ listed_rows index t next (n - (k + 1))) f

pub one_row_more : (index : ℕ) (t : Region) (at n k : ℕ) (old new : List Child) (child : Child) (all : List ChildRow) → k < n → new ≡ old ++ child ∷ [] →
    child_row child ≡ item_row index t (u32_at t.file (at + 4 * k)) → map child_row old ++ listed_rows index t (at + 4 * k) (n - k) ≡ all →
    map child_row new ++ listed_rows index t (at + 4 * (k + 1)) (n - (k + 1)) ≡ all
one_row_more index t at n k old new child all l pushed is e =
    let later : List ChildRow = listed_rows index t (at + 4 * (k + 1)) (n - (k + 1)) in
    ap (λ (l : List ChildRow). l ++ later) (ap (map child_row) pushed ∙ map-append child_row old (child ∷ []))
    ∙ (append_assoc (map child_row old) (child_row child ∷ []) later
    ∙ (ap (λ (l : List ChildRow). map child_row old ++ l) (ap (λ (r : ChildRow). r ∷ later) is ∙ sym (rows_step index t at n k l)) ∙ e))

pub no_row_left : (index : ℕ) (t : Region) (at n k : ℕ) (rows all : List ChildRow) → n ≤ k → rows ++ listed_rows index t (at + 4 * k) (n - k) ≡ all → rows ≡ all
no_row_left index t at n k rows all past e =
    let none : n - k ≡ 0 = omega (arith, past) in
    sym (append-nil rows) ∙ (sym (ap (λ m. rows ++ listed_rows index t (at + 4 * k) m) none) ∙ e)

pub one_name_more : (index : ℕ) (t : Region) (at n k : ℕ) (set new : TextSet) (name : List ℕ) (all : TextSet) → k < n → new ≡ with_text set name → name ≡ key t (u32_at t.file (at + 4 * k)) →
    with_texts (names_of (listed_rows index t (at + 4 * k) (n - k))) set ≡ all → with_texts (names_of (listed_rows index t (at + 4 * (k + 1)) (n - (k + 1)))) new ≡ all
one_name_more index t at n k set new name all l added is e =
    let later : List (List ℕ) = names_of (listed_rows index t (at + 4 * (k + 1)) (n - (k + 1))) in
    ap (with_texts later) (added ∙ ap (with_text set) is) ∙ (sym (ap (λ rows. with_texts (names_of rows) set) (rows_step index t at n k l)) ∙ e)

pub no_name_left : (index : ℕ) (t : Region) (at n k : ℕ) (set all : TextSet) → n ≤ k → with_texts (names_of (listed_rows index t (at + 4 * k) (n - k))) set ≡ all → set ≡ all
no_name_left index t at n k set all past e =
    let none : n - k ≡ 0 = omega (arith, past) in
    sym (ap (λ m. with_texts (names_of (listed_rows index t (at + 4 * k) m)) set) none) ∙ e

-- ---- the first row of a name

abbrev named : List ℕ → ChildRow → Bool
named name row = bytes_eq name row.0

found_any : (name : List ℕ) (rows : List ChildRow) → is_some (found_row name rows) ≡ list_any (bytes_eq name) (names_of rows)
found_any name [] = refl
found_any name (row ∷ rows) = go (named name row) (found_any name rows)
  where
    go : (b : Bool) → is_some (found_row name rows) ≡ list_any (bytes_eq name) (names_of rows)
        → is_some (cond b (Some row) (found_row name rows)) ≡ (b || list_any (bytes_eq name) (names_of rows))
    go true e = refl
    go false e = e

found_has : (P : ChildRow → Type 0) (name : List ℕ) (rows : List ChildRow) (row : ChildRow) → All P rows → found_row name rows ≡ Some row → P row × (named name row ≡ true)
found_has P name [] row all e = absurd cc
found_has P name (r ∷ rows) row all e = go (named name r) refl e (λ f. found_has P name rows row (All-tail P r rows all) f)
  where
    go : (b : Bool) → named name r ≡ b → cond b (Some r) (found_row name rows) ≡ Some row → (found_row name rows ≡ Some row → P row × (named name row ≡ true)) → P row × (named name row ≡ true)
    go true is e later = let same : r ≡ row = same_Some r row e in subst (λ (r : ChildRow). P r × (named name r ≡ true)) same (All-head P r rows all, is)
    go false is e later = later e

-- ---- what a layer has at the names

abbrev Held : ℕ → Settings → List ℕ → ChildRow → Type 0
Held index s directory row = row.1 ≡ option_map {U = Place} (λ bytes. (index, bytes)) (get s.values (directory ++ row.0))

none_if : {X : Type 0} (o : Option X) → ((x : X) → o ≡ Some x → ⊥) → o ≡ None
none_if None none = refl
none_if (Some x) none = absurd (none x refl)

-- a key that the directory has a part of is there
key_there : (s : Settings) (directory name : List ℕ) → is_key_path (directory ++ name) ≡ true → list_any (bytes_eq name) (parts_below directory (keys s.values)) ≡ true →
    (bytes : List ℕ) × (get s.values (directory ++ name) ≡ Some bytes)
key_there s directory name key e =
    let paths = keys s.values in
    let p = path_of_part directory paths name (found_text name (parts_below directory paths) e) in
    elim (cut_rest p.0) [
      | inl all ↦ (let there : Contains paths (directory ++ name) = subst (λ (l : List ℕ). Contains paths (directory ++ l)) (sym (p.2 ∙ all)) p.1 in
          some_bytes (get s.values (directory ++ name)) (key_in s.values (directory ++ name) ∙ find_text (directory ++ name) paths there))
      | inr h ↦ (let ends = still_ends directory name (subst EndsInSlash (sym p.2) h.0) in
          absurd (no_truth (sym (key_is_open (directory ++ name) key) ∙ ends_in (directory ++ name) ends.0 ends.1)))
    ]

-- and no other is
key_listed : (s : Settings) (directory name bytes : List ℕ) → first_part name ≡ name → get s.values (directory ++ name) ≡ Some bytes →
    list_any (bytes_eq name) (parts_below directory (keys s.values)) ≡ true
key_listed s directory name bytes own e =
    let paths = keys s.values in
    let there : Contains paths (directory ++ name) = found_text (directory ++ name) paths (sym (key_in s.values (directory ++ name)) ∙ ap is_some e) in
    find_text name (parts_below directory paths) (subst (Contains (parts_below directory paths)) own (part_of_path directory name paths there))

module _ (index : ℕ) (s : Settings) (directory : List ℕ) (rows : List ChildRow) (names : (part : List ℕ) → list_any (bytes_eq part) (names_of rows) ≡ list_any (bytes_eq part) (parts_below directory (keys s.values))) (held : All (Held index s directory) rows) where
  key_found : (name : List ℕ) → first_part name ≡ name → is_key_path (directory ++ name) ≡ true → (o : Option ChildRow) → found_row name rows ≡ o →
      o ≡ row_found name (place_or index (get s.values (directory ++ name)) None)
  key_found name own key None e =
      let none : get s.values (directory ++ name) ≡ None = none_if (get s.values (directory ++ name)) (λ bytes there.
      no_truth (ap is_some (sym e) ∙ (found_any name rows ∙ (names name ∙ key_listed s directory name bytes own there)))) in
      sym (ap (λ (o : Option (List ℕ)). row_found name (place_or index o None)) none)
  key_found name own key (Some row) e =
      let h = found_has (Held index s directory) name rows row held e in
      let same : name ≡ row.0 = same_path name row.0 h.1 in
      let there = key_there s directory name key (sym (names name) ∙ (sym (found_any name rows) ∙ ap is_some e)) in
      let place : row.1 ≡ Some (index, there.0) =
      h.0 ∙ ap (option_map {U = Place} (λ bytes. (index, bytes))) (ap (λ (l : List ℕ). get s.values (directory ++ l)) (sym same) ∙ there.1) in
      ap (λ (l : List ℕ). Some (l, row.1)) (sym same) ∙ (ap (λ (p : Option Place). Some (name, p)) place
      ∙ sym (ap (λ (o : Option (List ℕ)). row_found name (place_or index o None)) there.1))

  of_names : AreChildren index (s ∷ []) directory rows
  of_names = record {
    names = λ part. names part ∙ ap (λ (ps : List (List ℕ)). list_any (bytes_eq part) (parts_below directory ps)) (sym (append-nil (keys s.values)));
    keys = λ name own key. key_found name own key (found_row name rows) refl;
  }

-- ---- a sound layer

module _ (values : Table) (locks : Option Table) (o : AreOfSoundDatabase values locks) where
  abbrev t : Region
  t = region values

  value_there : (path bytes : List ℕ) → Rows t path value_kind bytes → get (settings_at t).values path ≡ Some bytes
  value_there path bytes row = ((says values locks o).values path bytes).0 (subst (λ (u : Region). Rows u path value_kind bytes) o.root row)

  there_is_row : (path bytes : List ℕ) → get (settings_at t).values path ≡ Some bytes → Rows t path value_kind bytes
  there_is_row path bytes e = subst (λ (u : Region). Rows u path value_kind bytes) (sym o.root) (((says values locks o).values path bytes).1 e)

  child_held : (index d i : ℕ) (directory : List ℕ) → HasName t d directory → IsChild t d i → Held index (settings_at t) directory (item_row index t i)
  child_held index d i directory h child =
      let path : List ℕ = directory ++ key t i in
      let name : HasName t i path = child_name t d i directory o.sound h child in
      let shown : Option (List ℕ) → Option Place = option_map {U = Place} (λ bytes. (index, bytes)) in
      by_bool (eqb (item t i).kind value_kind) (Held index (settings_at t) directory (item_row index t i))
      (λ yes. ap (λ b. cond b (Some (index, bytes_of t i)) None) yes
      ∙ sym (ap shown (value_there path (bytes_of t i) (i, row_of t i path value_kind o.sound name (eqb-true (item t i).kind value_kind yes), refl))))
      (λ other. ap (λ b. cond b (Some (index, bytes_of t i)) None) other
      ∙ sym (ap shown (none_if (get (settings_at t).values path) (λ bytes e.
      let row = there_is_row path bytes e in
      let same : row.0 ≡ i = one_item t path row.0 i (sound_is_searchable t o.sound) row.1.named name in
      no_truth (sym other ∙ eq-eqb (item t i).kind value_kind (ap (λ k. (item t k).kind) (sym same) ∙ row.1.of_kind))))))

  module _ (directory : List ℕ) (list : ItemList) (is : IsItemListOf t directory list) where
    list_row : IsRow t directory list_kind is.item
    list_row = ((sound_finds_rows t o.sound).found directory list_kind is.item).0 is.found

    are_children : AreAll (IsChild t is.item) t list.at list.len
    are_children k l =
        let has : ListsChildren t is.item = o.sound lists is.item (counted t is.item directory list_row.named) list_row.of_kind in
        subst (λ (at : ℕ). IsChild t is.item (u32_at t.file (at + 4 * k))) (sym is.starts) (has.children_alone k (subst (λ (n : ℕ). k < n) is.as_long l))

    names_are : (index : ℕ) (part : List ℕ) → list_any (bytes_eq part) (names_of (listed_rows index t list.at list.len)) ≡ list_any (bytes_eq part) (parts_below directory (keys (settings_at t).values))
    names_are index part =
        ap (list_any (bytes_eq part)) (rows_are_keys list.len index t list.at (λ k l. here t (u32_at t.file (list.at + 4 * k)) (o.sound rule_keys) (are_children k l).0)
        ∙ (ap (λ (at : ℕ). listed_keys t at list.len) is.starts ∙ ap (λ (n : ℕ). listed_keys t (item t is.item).start n) is.as_long))
        ∙ names_listed values locks directory is.item part o list_row

    rows_held : (index : ℕ) → All (Held index (settings_at t) directory) (listed_rows index t list.at list.len)
    rows_held index =
        all_rows (Held index (settings_at t) directory) list.len index t list.at (λ k l. child_held index is.item (u32_at t.file (list.at + 4 * k)) directory list_row.named (are_children k l))

-- the same of a layer, whose fact is truncated
pub child_counted : (layer : Layer) (directory : List ℕ) (list : ItemList) (k : ℕ) → IsItemListOf (region layer.values) directory list → k < list.len →
    u32_at list.file.now (list.at + 4 * k) < items_of layer
child_counted layer directory list k is l =
    ∥∥₁_elim layer.sound le_prop (λ o. subst (λ (f : List ℕ). u32_at f (list.at + 4 * k) < items_of layer) (sym is.in_file) (are_children layer.values (locks_of layer) o directory list is k l).0)

pub list_names : (layer : Layer) (index : ℕ) (directory : List ℕ) (list : ItemList) (part : List ℕ) → IsItemListOf (region layer.values) directory list →
    list_any (bytes_eq part) (names_of (listed_rows index (region layer.values) list.at list.len)) ≡ list_any (bytes_eq part) (parts_below directory (keys (settings_of layer).values))
list_names layer index directory list part is = ∥∥₁_elim layer.sound (Bool-set _ _) (λ o. names_are layer.values (locks_of layer) o directory list is index part)

pub list_children : (layer : Layer) (index : ℕ) (directory : List ℕ) (list : ItemList) → IsItemListOf (region layer.values) directory list →
    AreChildren index (settings_of layer ∷ []) directory (listed_rows index (region layer.values) list.at list.len)
list_children layer index directory list is =
    of_names index (settings_of layer) directory (listed_rows index (region layer.values) list.at list.len) (λ part. list_names layer index directory list part is)
    (λ k d l. ∥∥₁_elim layer.sound (Coded-set (coded_option (coded× coded_ℕ (coded_list coded_ℕ))) _ _) (λ o. rows_held layer.values (locks_of layer) o directory list is index k d l))

pub no_children : (layer : Layer) (index : ℕ) (directory : List ℕ) → IsTrue (ends_with_slash directory) → Finds (region layer.values) directory list_kind None →
    AreChildren index (settings_of layer ∷ []) directory []
no_children layer index directory ends none =
    of_names index (settings_of layer) directory [] (λ part. not_listed_in layer.values (locks_of layer) directory part layer.sound ends none) (All-nil (Held index (settings_of layer) directory))

-- ---- one item

module _ (layer : Layer) (i : ℕ) (shown : Shown) (is : IsShownAs (region layer.values) i shown) where
  some_lent : (P : Type 0) (bytes : List ℕ) → P → (b : Option (Bor (List ℕ))) → LendsWhere P bytes b → is_some b ≡ true
  some_lent P bytes p None lends = absurd (lends p)
  some_lent P bytes p (Some b) lends = refl

  pub has_key : IsSome shown.key
  has_key =
      let t = region layer.values in
      ∥∥₁_elim layer.sound (Bool-set _ _)
      (λ o. some_lent ((item t i).key_end ≤ length t.file) (key t i) (here t i (o.sound rule_keys) is.counted).key_inside shown.key is.key)

  pub key_is : (lent : Bor (List ℕ)) → shown.key ≡ Some lent → lent.now ≡ key (region layer.values) i
  key_is lent e = (subst (λ (b : Option (Bor (List ℕ))). LendsWhere ((item (region layer.values) i).key_end ≤ length (region layer.values).file) (key (region layer.values) i) b) e is.key).1

  pub key_is_text : IsUtf8 (key (region layer.values) i)
  key_is_text =
      IsUtf8-from_is_utf8 (key (region layer.values) i)
      (∥∥₁_elim layer.sound (Bool-set _ _) (λ o. is_utf8-from_IsUtf8 (key (region layer.values) i) (o.sound rule_keys i is.counted).utf8))

-- ---- one layer after another

parts_of_both : (directory : List ℕ) (ps qs : List (List ℕ)) → parts_below directory (ps ++ qs) ≡ parts_below directory ps ++ parts_below directory qs
parts_of_both directory [] qs = refl
parts_of_both directory (p ∷ ps) qs = go (is_below p directory) (parts_of_both directory ps qs)
  where
    part : List ℕ
    part = first_part (drop (length directory) p)

    go : (b : Bool) → parts_below directory (ps ++ qs) ≡ parts_below directory ps ++ parts_below directory qs →
        cond b (part ∷ parts_below directory (ps ++ qs)) (parts_below directory (ps ++ qs)) ≡ cond b (part ∷ parts_below directory ps) (parts_below directory ps) ++ parts_below directory qs
    go true e = ap (λ (l : List (List ℕ)). part ∷ l) e
    go false e = e

pub no_layers : (index : ℕ) (directory : List ℕ) → AreChildren index [] directory []
no_layers index directory = record { names = λ part. refl; keys = λ name own key. refl }

pub one_layer_more : (index : ℕ) (s : Settings) (more : List Settings) (directory : List ℕ) (first later : List ChildRow) →
    AreChildren index (s ∷ []) directory first → AreChildren (index + 1) more directory later → AreChildren index (s ∷ more) directory (first ++ later)
one_layer_more index s more directory first later a b = record {
  names = λ part.
      ap (list_any (bytes_eq part)) (map-append (λ row. row.0) first later) ∙ (list_any-append (bytes_eq part) (names_of first) (names_of later)
      ∙ (ap (λ x. x || list_any (bytes_eq part) (names_of later)) (a.names part ∙ ap (λ (ps : List (List ℕ)). list_any (bytes_eq part) (parts_below directory ps)) (append-nil (keys s.values)))
      ∙ (ap (λ x. list_any (bytes_eq part) (parts_below directory (keys s.values)) || x) (b.names part)
      ∙ (sym (list_any-append (bytes_eq part) (parts_below directory (keys s.values)) (parts_below directory (all_paths more)))
      ∙ ap (list_any (bytes_eq part)) (sym (parts_of_both directory (keys s.values) (all_paths more)))))));
  keys = λ name own key.
      find-append (named name) first later ∙ (ap (λ o. option_or o (found_row name later)) (a.keys name own key)
      ∙ (ap (option_or (row_found name (first_from index (s ∷ []) (directory ++ name)))) (b.keys name own key)
      ∙ either name (get s.values (directory ++ name)) (first_from (index + 1) more (directory ++ name))));
}
  where
    either : (name : List ℕ) (o : Option (List ℕ)) (rest : Option Place) → option_or (row_found name (place_or index o None)) (row_found name rest) ≡ row_found name (place_or index o rest)
    either name None rest = refl
    either name (Some bytes) rest = refl
