-- What the first layers have otherwise, where the others are the same: no key is missing that is shown otherwise.
use Rattle.std.specs.Prelude.{Contains, filter}
use Rattle.std.proofs.Common.{◌≡◌, ◌∙◌, ◌++◌, ◌-◌, append-nil, ap, arith, ℕ, Bool, false, not, List, sym, subst, take, drop, inr}
use Rattle.std.specs.FinMap.{keys}
use Rattle.std.proofs.lemmas.Bool.{false_from_ne_true}
use Rattle.std.proofs.lemmas.List.Elements.{filter-append}
use Rattle.std.proofs.lemmas.List.Sums.{fold-append}
use Rattle.dconf_model.specs.Layers.{Layers, all_paths, visible}
use Rattle.dconf_model.specs.Settings.{Settings}
use Rattle.dconf_model.proofs.FirstKeys.{first_keys_are_enough}
use Rattle.dconf_model.proofs.PathMaps.{and_false, key_in, no_truth}
use Rattle.gvdb_read.specs.Tables.{region}
use Rattle.dconf_layers.specs.LayerRows.{AreOf, layer_paths, paths_of, rows_from}
use Rattle.dconf_layers.specs.LayerSettings.{settings_of}
use Rattle.dconf_layers.specs.TextSets.{TextSet, with_text, with_texts}
use Rattle.dconf_layers.specs.declared.layer.Layer.{Layer}
use Rattle.dconf_layers.proofs.EntryLaws.{has_path, rows_in}
use Rattle.dconf_layers.proofs.TextSetLaws.{passing_alike}
use Rattle.dconf_differences.specs.Differing.{AreAsked, HaveAlikeOutside, PassesAlike, same_value}
use Rattle.dconf_differences.proofs.DifferingLaws.{differs_told}
use Rattle.dconf_differences.proofs.SameValueLaws.{values_told}
use Rattle.dconf_differences.proofs.TwinLaws.{AreTwins, asked_within, passes_alike}
use Rattle.dconf_told.specs.Telling.{HasAllOthers, asks_any, is_key_text, layers_otherwise, shown_otherwise}
use Rattle.dconf_told.specs.declared.news.DconfdbKeyAsked.{DconfdbKeyAsked}

-- ---- what both have alike is not shown otherwise

pub shown_passes : (l m : Layers) (asked : List DconfdbKeyAsked) (s t : Settings) → AreTwins l m s t → PassesAlike (shown_otherwise l m asked) s t
shown_passes l m asked s t twins path e =
    let alike : not (same_value (visible l path) (visible m path)) ≡ false =
    false_from_ne_true (not (same_value (visible l path) (visible m path)))
    (λ other. no_truth (sym (passes_alike l m s t twins path e) ∙ (differs_told l m path).1 (inr ((values_told (visible l path) (visible m path)).0 other)))) in
    let none : layers_otherwise l m path ≡ false = and_false (is_key_text path) (not (same_value (visible l path) (visible m path))) alike in
    and_false (not (asks_any asked path)) (layers_otherwise l m path) none

-- ---- the rows that are asked

pub rows_asked : (one other : Layer) (first end : ℕ) (rows : List (List ℕ × List ℕ)) → HaveAlikeOutside one other first end → rows ≡ rows_from (region one.values) first (end - first) →
    AreOf one rows × AreAsked one other rows
rows_asked one other first end rows outside is =
    let low = outside.ordered in
    let high = outside.counted in (
      subst (AreOf one) (sym is) (rows_in one first (end - first) (omega (arith, low, high))),
      λ f passes. ap (λ (rows : List (List ℕ × List ℕ)). filter f (paths_of rows)) is ∙ asked_within f one other passes first end outside,
    )

module _ (f : List ℕ → Bool) where
  -- they give what all keys of the layer give
  rows_gathered : (layer : Layer) (rows : List (List ℕ × List ℕ)) (set : TextSet) → filter f (paths_of rows) ≡ filter f (layer_paths layer) →
      with_texts (filter f (paths_of rows)) set ≡ with_texts (filter f (keys (settings_of layer).values)) set
  rows_gathered layer rows set e =
      let values = (settings_of layer).values in
      ap (λ (ps : List (List ℕ)). with_texts ps set) e ∙ passing_alike f (layer_paths layer) (keys values) set (λ t. has_path layer t ∙ key_in values t)

  pub both_gathered : (one other : Layer) (ones others : List (List ℕ × List ℕ)) (before between after : TextSet) →
      filter f (paths_of ones) ≡ filter f (layer_paths one) → filter f (paths_of others) ≡ filter f (layer_paths other) →
      between ≡ with_texts (filter f (paths_of ones)) before → after ≡ with_texts (filter f (paths_of others)) between →
      after ≡ with_texts (filter f (keys (settings_of one).values ++ keys (settings_of other).values)) before
  both_gathered one other ones others before between after e g first second =
      let s = keys (settings_of one).values in
      let t = keys (settings_of other).values in
      second
      ∙ (rows_gathered other others between g
      ∙ (ap (with_texts (filter f t)) (first ∙ rows_gathered one ones before e)
      ∙ (sym (fold-append with_text before (filter f s) (filter f t)) ∙ ap (λ (ps : List (List ℕ)). with_texts ps before) (sym (filter-append f s t)))))

-- ---- no key is missing

pub twins_have_all : (l m : Layers) (s t : Settings) → AreTwins l m s t → HasAllOthers l m (keys s.values ++ keys t.values)
twins_have_all l m s t twins p other =
    let first : all_paths (take 1 l.layers) ≡ keys s.values = ap (λ (ls : List Settings). all_paths (take 1 ls)) twins.first ∙ append-nil (keys s.values) in
    let second : all_paths (take 1 m.layers) ≡ keys t.values = ap (λ (ls : List Settings). all_paths (take 1 ls)) twins.second ∙ append-nil (keys t.values) in
    let same : drop 1 l.layers ≡ drop 1 m.layers = ap (drop 1) twins.first ∙ sym (ap (drop 1) twins.second) in
    subst (λ (ps : List (List ℕ)). Contains ps p) (λ i. first i ++ second i) (first_keys_are_enough l m p same (inr other))
