-- What twins have alike is seen alike, and items of the same names and bytes give the same paths.
use Rattle.std.specs.Prelude.{filter, option_map, option_and_then, nat_lt}
use Rattle.std.proofs.Common.{◌≡◌, ◌<◌, ◌≤◌, ◌+◌, ◌-◌, ◌++◌, ◌∙◌, append-nil, cond, arith, ℕ, zero, suc, Bool, false, List, [], ◌∷◌, drop, Option, Some, None, ap, sym, subst, refl, inl, inr}
use Rattle.std.specs.FinMap.{get}
use Rattle.std.proofs.lemmas.Bool.{false_from_ne_true}
use Rattle.std.proofs.lemmas.List.Elements.{filter-append}
use Rattle.std.proofs.lemmas.List.{map-append}
use Rattle.std.proofs.lemmas.List.Sums.{fold-append}
use Rattle.dconf_layers.specs.TextSets.{TextSet, with_text, with_texts}
use Rattle.dconf_model.specs.Layers.{Layers, Place, first_from, greatest_from, level, locks_path, place_of, place_or}
use Rattle.dconf_model.specs.Names.{full_name}
use Rattle.dconf_model.specs.Settings.{Settings}
use Rattle.dconf_model.specs.Table.{Table as Region}
use Rattle.dconf_model.specs.Values.{held_value}
use Rattle.dconf_model.proofs.ComputedNames.{name_of_named, named_of_name}
use Rattle.gvdb_read.specs.Tables.{region}
use Rattle.dconf_layers.specs.declared.layer.Layer.{Layer}
use Rattle.dconf_differences.specs.Differing.{differs, HaveAlike, HaveAlikeOutside, PassesAlike}
use Rattle.dconf_layers.specs.LayerRows.{AreOf, items_of, layer_paths, paths_of, row_at, rows_from, value_in}
use Rattle.dconf_layers.specs.LayerSettings.{settings_of}
use Rattle.gvdb_alike.specs.NamesAlike.{AreNamedAlike}
use Rattle.gvdb_alike.specs.ValuesAlike.{AreAlikeOutside, HasElsewhere}
use Rattle.dconf_differences.proofs.DifferingLaws.{differs_told}
use Rattle.dconf_layers.proofs.EntryLaws.{all_rows, bytes_there, no_row, row_there, rows_split, there_too}

-- the layers are the same but for the first
pub record AreTwins (l m : Layers) (s t : Settings) : Type 0 where
  pub others : List Settings
  pub first : l.layers ≡ s ∷ others
  pub second : m.layers ≡ t ∷ others

-- ---- what is alike in the first layers is seen alike

module _ (path : List ℕ) where
  place_behind : (s t : Settings) (others : List Settings) → get s.values path ≡ get t.values path → (n : ℕ) →
      first_from n (drop n (s ∷ others)) path ≡ first_from n (drop n (t ∷ others)) path
  place_behind s t others e zero = ap (λ o. place_or 0 o (first_from 1 others path)) e
  place_behind s t others e (suc n) = refl

  module _ (l m : Layers) (s t : Settings) (twins : AreTwins l m s t) where
    first_level : level l path ≡ greatest_from 1 (locks_path path) twins.others
    first_level = ap (λ ls. greatest_from 1 (locks_path path) (drop 1 ls)) twins.first

    second_level : level m path ≡ greatest_from 1 (locks_path path) twins.others
    second_level = ap (λ ls. greatest_from 1 (locks_path path) (drop 1 ls)) twins.second

    same_level : level l path ≡ level m path
    same_level = first_level ∙ sym second_level

    same_place : get s.values path ≡ get t.values path → place_of l path ≡ place_of m path
    same_place e =
        ap (λ ls. first_from (level l path) (drop (level l path) ls) path) twins.first
        ∙ place_behind s t twins.others e (level l path)
        ∙ ap (λ n. first_from n (drop n (t ∷ twins.others)) path) same_level
        ∙ sym (ap (λ ls. first_from (level m path) (drop (level m path) ls) path) twins.second)

    seen_alike : get s.values path ≡ get t.values path → differs l m path ≡ false
    seen_alike e = false_from_ne_true (differs l m path) (λ d. elim ((differs_told l m path).0 d) [
      | inl other ↦ other (ap (λ n. nat_lt 0 n) same_level)
      | inr other ↦ other (ap (λ (p : Option Place). option_and_then held_value (option_map (λ q. q.1) p)) (same_place e))
    ])

pub passes_alike : (l m : Layers) (s t : Settings) → AreTwins l m s t → PassesAlike (differs l m) s t
passes_alike l m s t twins path e = seen_alike path l m s t twins e

-- the second layers are the first ones with another first one
pub twins_of : (l m : Layers) (s t : Settings) (others : List Settings) → l.layers ≡ s ∷ others → m.layers ≡ t ∷ drop 1 l.layers → AreTwins l m s t
twins_of l m s t others first second = record { others = others; first = first; second = second ∙ ap (λ ls. t ∷ drop 1 ls) first }

-- the other way round, too
pub passes_back : (f : List ℕ → Bool) (s t : Settings) → PassesAlike f s t → PassesAlike f t s
passes_back f s t passes path e = passes path (sym e)

-- ---- both ways round

pub names_turned : (t u : Region) → AreNamedAlike t u → AreNamedAlike u t
names_turned t u named = record { counted = sym named.counted; named = λ i. sym (named.named i) }

pub outside_turned : (one two : Layer) (first end : ℕ) → AreNamedAlike (region one.values) (region two.values) → HaveAlikeOutside one two first end → HaveAlikeOutside two one first end
outside_turned one two first end named outside = record {
  ordered = outside.ordered;
  counted = subst (λ n. end ≤ n) named.counted outside.counted;
  alike = λ i within out.
      let here = outside.alike i (subst (λ n. i < n) (sym named.counted) within) out in
      record { named = names_turned (region one.values) (region two.values) named; value = sym here.value };
}

-- of no item anything is said
pub nothing_outside : (one two : Layer) (end : ℕ) → end ≡ items_of one → HaveAlikeOutside one two 0 end
nothing_outside one two end all = record {
  ordered = omega arith;
  counted = omega (arith, all);
  alike = λ i within outside. elim outside [
    | inl below ↦ absurd (omega (arith, below))
    | inr above ↦ absurd (omega (arith, above, within, all))
  ];
}

pub outside_of : (one two : Layer) (first end : ℕ) → AreNamedAlike (region one.values) (region two.values) → AreAlikeOutside (region one.values) (region two.values) first end → HaveAlikeOutside one two first end
outside_of one two first end named outside = record {
  ordered = outside.ordered;
  counted = outside.counted;
  alike = λ i within out. record { named = named; value = outside.alike i within out };
}

-- ---- rows that aren't asked for

module _ (f : List ℕ → Bool) (layer other : Layer) (passes : PassesAlike f (settings_of layer) (settings_of other)) where
  -- an item that both have alike, at the same place
  alike_passed : (i : ℕ) → i < items_of layer → HaveAlike layer other i → [] ≡ filter f (paths_of (row_at (region layer.values) i))
  alike_passed i within alike = go (value_in layer i) refl
    where
      t : Region
      t = region layer.values

      here : HasElsewhere t i (region other.values)
      here = record {
        at = i;
        counted = subst (λ n. i < n) alike.named.counted within;
        named = λ name h. named_of_name (region other.values) i name (sym (alike.named.named i) ∙ name_of_named t i name h);
        value = alike.value;
      }

      go : (o : Option (List ℕ)) → o ≡ value_in layer i → [] ≡ filter f (paths_of (row_at t i))
      go None e = ap (λ rows. filter f (paths_of rows)) (no_row layer i e)
      go (Some bytes) e =
          ap (λ b. cond b (full_name t i ∷ []) []) (sym (passes (full_name t i) (bytes_there layer i bytes e within ∙ sym (there_too layer other i bytes within e here))))
          ∙ ap (λ rows. filter f (paths_of rows)) (row_there layer i bytes e within)

  both_filtered : (one two : List (List ℕ × List ℕ)) → filter f (paths_of (one ++ two)) ≡ filter f (paths_of one) ++ filter f (paths_of two)
  both_filtered one two = ap (filter f) (map-append (λ row. row.0) one two) ∙ filter-append f (paths_of one) (paths_of two)

  none_in : (i n : ℕ) → i + n ≤ items_of layer → ((j : ℕ) → i ≤ j → j < i + n → HaveAlike layer other j) → [] ≡ filter f (paths_of (rows_from (region layer.values) i n))
  none_in i zero within alike = refl
  none_in i (suc n) within alike =
      let rest = rows_from (region layer.values) (i + 1) n in
      none_in (i + 1) n (omega (arith, within)) (λ j low high. alike j (omega (arith, low)) (omega (arith, high)))
      ∙ ap (λ ps. ps ++ filter f (paths_of rest)) (alike_passed i (omega (arith, within)) (alike i (omega arith) (omega arith)))
      ∙ sym (both_filtered (row_at (region layer.values) i) rest)

  -- those outside of the span
  pub asked_within : (first end : ℕ) → HaveAlikeOutside layer other first end → filter f (paths_of (rows_from (region layer.values) first (end - first))) ≡ filter f (layer_paths layer)
  asked_within first end outside =
      let t = region layer.values in
      let n = items_of layer in
      let low = outside.ordered in
      let high = outside.counted in
      let before = rows_from t 0 first in
      let asked = rows_from t first (end - first) in
      let after = rows_from t end (n - end) in
      let whole : n ≡ first + (end - first + (n - end)) = omega (arith, low, high) in
      let from : 0 + first ≡ first = omega arith in
      let last : first + (end - first) ≡ end = omega (arith, low) in
      sym (ap (λ rows. filter f (paths_of rows)) (sym (all_rows t n) ∙ ap (rows_from t 0) whole ∙ rows_split t 0 first (end - first + (n - end))
      ∙ ap (λ k. before ++ rows_from t k (end - first + (n - end))) from ∙ ap (λ rows. before ++ rows) (rows_split t first (end - first) (n - end) ∙ ap (λ k. asked ++ rows_from t k (n - end)) last))
      ∙ both_filtered before (asked ++ after)
      ∙ ap (λ ps. ps ++ filter f (paths_of (asked ++ after))) (sym (none_in 0 first (omega (arith, low, high)) (λ j _ lt. outside.alike j (omega (arith, lt, low, high)) (inl (omega (arith, lt))))))
      ∙ both_filtered asked after
      ∙ ap (λ ps. filter f (paths_of asked) ++ ps) (sym (none_in end (n - end) (omega (arith, high)) (λ j ge lt. outside.alike j (omega (arith, lt, high)) (inr ge))))
      ∙ append-nil (filter f (paths_of asked)))

-- ---- row by row

-- a row that the other has, too
pub passed_over : (f : List ℕ → Bool) (layer other : Layer) (row : List ℕ × List ℕ) (rows rest : List (List ℕ × List ℕ)) →
    PassesAlike f (settings_of layer) (settings_of other) → rows ≡ row ∷ rest → AreOf layer rows → get (settings_of other).values row.0 ≡ Some row.1 →
    filter f (paths_of rest) ≡ filter f (paths_of rows)
passed_over f layer other row rows rest passes is of there =
    let here : get (settings_of layer).values row.0 ≡ Some row.1 = (subst (AreOf layer) is of) 0 row (omega arith) in
    ap (λ b. cond b (row.0 ∷ filter f (paths_of rest)) (filter f (paths_of rest))) (sym (passes row.0 (here ∙ sym there)))
    ∙ ap (λ rows. filter f (paths_of rows)) (sym is)

pub rest_are_of : (layer : Layer) (row : List ℕ × List ℕ) (rows rest : List (List ℕ × List ℕ)) → rows ≡ row ∷ rest → AreOf layer rows → AreOf layer rest
rest_are_of layer row rows rest is of k d lt = (subst (AreOf layer) is of) (suc k) d (omega (arith, lt))

-- a row that was asked for
pub one_added : (f : List ℕ → Bool) (row : List ℕ × List ℕ) (rows rest : List (List ℕ × List ℕ)) (before after : TextSet) → rows ≡ row ∷ rest →
    after ≡ with_texts (filter f (row.0 ∷ [])) before → with_texts (filter f (paths_of rest)) after ≡ with_texts (filter f (paths_of rows)) before
one_added f row rows rest before after is e =
    ap (with_texts (filter f (paths_of rest))) e
    ∙ sym (fold-append with_text before (filter f (row.0 ∷ [])) (filter f (paths_of rest)))
    ∙ ap (λ ps. with_texts ps before) (sym (filter-append f (row.0 ∷ []) (paths_of rest)))
    ∙ ap (λ (rows : List (List ℕ × List ℕ)). with_texts (filter f (paths_of rows)) before) (sym is)
