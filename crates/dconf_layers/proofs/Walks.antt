-- A walk over directories with a list of places that wait, the next at its end.
use Rattle.std.specs.Prelude.{Contains, IfOk, IsTrue, filter, flat_map, string_bytes}
use Rattle.std.proofs.Common.{Result, Ok, Err, ◌≡◌, ◌<◌, ◌+◌, ℕ, true, false, inl, inr, get_or, Option, List, [], ◌∷◌, ◌++◌, cond, map, reverse, refl, subst, sym, ap, ◌∙◌, arith, append_assoc, append-nil}
use Rattle.std.specs.FinMap.{keys}
use Rattle.std.specs.declared.alloc.Global.{Global}
use Rattle.std.specs.declared.string.String.{String}
use Rattle.std.specs.List.{All, sum_by}
use Rattle.std.proofs.Math.Bool.{Bool-set}
use Rattle.std.proofs.Math.Logic.{∥∥₁_elim}
use Rattle.std.proofs.lemmas.Grind.{flat_map-append}
use Rattle.std.proofs.lemmas.List.{get_or-map, length-map, map-append, reverse-append, reverse-reverse}
use Rattle.std.proofs.lemmas.List.Elements.{All-head, All-tail, Contains-append_cases, Contains-get_or}
use Rattle.std.proofs.lemmas.List.Concat.{flat_map-cons}
use Rattle.std.proofs.lemmas.List.Sorted.{IsPermutation-reverse, sum_by-IsPermutation}
use Rattle.std.proofs.lemmas.List.Sums.{sum_by-append, sum_by_push}
use Rattle.dconf_model.specs.Layers.{Layers, all_paths, first_from}
use Rattle.dconf_model.specs.Locks.{is_below}
use Rattle.dconf_model.specs.Paths.{is_directory_path, is_key_path}
use Rattle.dconf_model.specs.Sound.{IsSound}
use Rattle.dconf_model.specs.Walks.{AreKeyPaths, keys_at, keys_below, places_in, work_at}
use Rattle.dconf_model.proofs.WalkedKeys.{walk_finds_each_key, walk_ends}
use Rattle.dconf_model.proofs.ListingOrder.{find_text}
use Rattle.dconf_model.proofs.Listings.{listing_from, none_of_none}
use Rattle.dconf_model.proofs.PathMaps.{key_in}
use Rattle.dconf_model.proofs.RisingTexts.{kept_is_there}
use Rattle.dconf_model.proofs.SettingsIn.{says_settings}
use Rattle.gvdb_read.specs.Tables.{region}
use Rattle.dconf_layers.specs.declared.layer.Layer.{Layer}
use Rattle.dconf_layers.specs.LayerSettings.{locks_of, settings_of}
use Rattle.dconf_layers.proofs.SoundLayers.{says}
use Rattle.dconf_layers.specs.declared.children.Child.{Child}
use Rattle.dconf_layers.specs.declared.seen.SeenKey.{SeenKey}
use Rattle.dconf_layers.specs.Children.{child_name, place_shown, IsShown, seen_path, seen_row, shown_at}

abbrev pub Keys : Type 0
Keys = List SeenKey

abbrev pub texts : Keys → List (List ℕ)
texts xs = map seen_path xs

-- ---- children that become places

abbrev pub places : List ℕ → List Child → List (List ℕ)
places directory children = map {B = List ℕ} (λ child. directory ++ child_name child) children

-- the first place of a key
abbrev pub IsFirst : Layers → List ℕ → Child → Type 0
IsFirst l directory child = IsTrue (is_key_path (directory ++ child_name child)) → place_shown child.place ≡ first_from 0 l.layers (directory ++ child_name child)

pub place_pushed : (directory : List ℕ) (w new : Keys) (children left : List Child) (child : Child) (place : SeenKey) → children ≡ left ++ child ∷ [] → new ≡ w ++ place ∷ []
    → seen_path place ≡ directory ++ child_name child → texts new ++ reverse (places directory left) ≡ texts w ++ reverse (places directory children)
place_pushed directory w new children left child place popped pushed is =
    let path : List ℕ = directory ++ child_name child in
    let earlier : List (List ℕ) = reverse (places directory left) in
    let all : places directory children ≡ places directory left ++ path ∷ [] =
    ap (places directory) popped ∙ map-append (λ child. directory ++ child_name child) left (child ∷ []) in
    let back : reverse (places directory children) ≡ path ∷ earlier = ap reverse all ∙ reverse-append (places directory left) (path ∷ []) in
    let one : texts new ≡ texts w ++ path ∷ [] = ap texts pushed ∙ (map-append seen_path w (place ∷ []) ∙ ap (λ (p : List ℕ). texts w ++ p ∷ []) is) in
    ap (λ (l : List (List ℕ)). l ++ earlier) one ∙ (append_assoc (texts w) (path ∷ []) earlier ∙ ap (λ (l : List (List ℕ)). texts w ++ l) (sym back))

places_of_names : (directory : List ℕ) (children : List Child) → places directory children ≡ map {B = List ℕ} (λ name. directory ++ name) (map child_name children)
places_of_names directory [] = refl
places_of_names directory (child ∷ children) = ap (λ (l : List (List ℕ)). (directory ++ child_name child) ∷ l) (places_of_names directory children)

pub children_start : (directory : List ℕ) (w : Keys) (children : List Child) (listed : List (List ℕ)) → map child_name children ≡ listed
    → texts w ++ reverse (places directory children) ≡ texts w ++ reverse (map {B = List ℕ} (λ name. directory ++ name) listed)
children_start directory w children listed e =
    ap (λ (l : List (List ℕ)). texts w ++ reverse l) (places_of_names directory children ∙ ap (map {B = List ℕ} (λ (n : List ℕ). directory ++ n)) e)

-- a path that was named becomes a key
pub named_next : (keys new : Keys) (key : SeenKey) (path : String Global) (now rest : List (String Global)) (all : List (List ℕ)) → new ≡ keys ++ key ∷ []
    → seen_path key ≡ string_bytes path → now ≡ path ∷ rest → texts keys ++ map string_bytes now ≡ all → texts new ++ map string_bytes rest ≡ all
named_next keys new key path now rest all pushed is cut e =
    let left : List (List ℕ) = map string_bytes rest in
    let one : texts new ≡ texts keys ++ seen_path key ∷ [] = ap texts pushed ∙ map-append seen_path keys (key ∷ []) in
    ap (λ (l : List (List ℕ)). l ++ left) one ∙ (append_assoc (texts keys) (seen_path key ∷ []) left
    ∙ (ap (λ (p : List ℕ). texts keys ++ p ∷ left) is ∙ (ap (λ (ps : List (String Global)). texts keys ++ map string_bytes ps) (sym cut) ∙ e)))

-- ---- places that wait

module _ (paths : List (List ℕ)) where
  -- what is found at them
  abbrev pub ahead : Keys → List (List ℕ)
  ahead w = flat_map (keys_at paths) (reverse (texts w))

  -- how much there is to do at them
  abbrev pub work : Keys → ℕ
  work w = sum_by (work_at paths) (texts w)

  at_once : (new w : Keys) (ps : List (List ℕ)) → texts new ≡ texts w ++ reverse ps → ahead new ≡ flat_map (keys_at paths) ps ++ ahead w
  at_once new w ps e =
      let turned : reverse (texts new) ≡ ps ++ reverse (texts w) =
      ap reverse e ∙ (reverse-append (texts w) (reverse ps) ∙ ap (λ (l : List (List ℕ)). l ++ reverse (texts w)) (reverse-reverse ps)) in
      ap (flat_map (keys_at paths)) turned ∙ flat_map-append (keys_at paths) ps (reverse (texts w))

  at_directory : (place : List ℕ) → is_directory_path place ≡ true → keys_at paths place ≡ keys_below paths place
  at_directory place e = ap (λ b. cond b (keys_below paths place) (place ∷ [])) e

  pub directory_found : AreKeyPaths paths → (keys new w : Keys) (place : List ℕ) → is_directory_path place ≡ true → texts new ≡ texts w ++ reverse (places_in paths place)
      → texts keys ++ ahead new ≡ texts keys ++ (keys_at paths place ++ ahead w)
  directory_found are keys new w place is e =
      ap (λ (l : List (List ℕ)). texts keys ++ l) (at_once new w (places_in paths place) e
      ∙ ap (λ (l : List (List ℕ)). l ++ ahead w) (walk_finds_each_key paths place are ∙ sym (at_directory place is)))

  pub directory_less : AreKeyPaths paths → (new w : Keys) (place : List ℕ) → is_directory_path place ≡ true → texts new ≡ texts w ++ reverse (places_in paths place)
      → work new < work w + work_at paths place
  directory_less are new w place is e =
      let ps : List (List ℕ) = places_in paths place in
      let sum : work new ≡ work w + sum_by (work_at paths) (reverse ps) = ap (sum_by (work_at paths)) e ∙ sum_by-append (work_at paths) (texts w) (reverse ps) in
      let turned : sum_by (work_at paths) (reverse ps) ≡ sum_by (work_at paths) ps = sum_by-IsPermutation (work_at paths) ps (reverse ps) (IsPermutation-reverse ps) in
      omega (arith, sum, turned, walk_ends paths place are is)

  pub key_found : (keys new w : Keys) (place : SeenKey) → is_directory_path (seen_path place) ≡ false → new ≡ keys ++ place ∷ []
      → texts new ++ ahead w ≡ texts keys ++ (keys_at paths (seen_path place) ++ ahead w)
  key_found keys new w place is e =
      let one : texts new ≡ texts keys ++ seen_path place ∷ [] = ap texts e ∙ map-append seen_path keys (place ∷ []) in
      let at : keys_at paths (seen_path place) ≡ seen_path place ∷ [] = ap (λ b. cond b (keys_below paths (seen_path place)) (seen_path place ∷ [])) is in
      ap (λ (l : List (List ℕ)). l ++ ahead w) one ∙ (append_assoc (texts keys) (seen_path place ∷ []) (ahead w)
      ∙ ap (λ (l : List (List ℕ)). texts keys ++ (l ++ ahead w)) (sym at))

  -- the next place is taken
  pub next_ahead : (w left : Keys) (place : SeenKey) → w ≡ left ++ place ∷ [] → ahead w ≡ keys_at paths (seen_path place) ++ ahead left
  next_ahead w left place e =
      let turned : reverse (texts w) ≡ seen_path place ∷ reverse (texts left) =
      ap (λ (l : Keys). reverse (texts l)) e ∙ (ap reverse (map-append seen_path left (place ∷ [])) ∙ reverse-append (texts left) (seen_path place ∷ [])) in
      ap (flat_map (keys_at paths)) turned ∙ flat_map-cons (keys_at paths) (seen_path place) (reverse (texts left))

  pub next_work : (w left : Keys) (place : SeenKey) → w ≡ left ++ place ∷ [] → work w ≡ work left + work_at paths (seen_path place)
  next_work w left place e =
      ap work e ∙ (ap (sum_by (work_at paths)) (map-append seen_path left (place ∷ [])) ∙ sum_by_push (work_at paths) (texts left) (seen_path place))

  pub step_found : (keys new w left next : Keys) (place : SeenKey) (all : List (List ℕ)) → w ≡ left ++ place ∷ []
      → texts new ++ ahead next ≡ texts keys ++ (keys_at paths (seen_path place) ++ ahead left) → texts keys ++ ahead w ≡ all → texts new ++ ahead next ≡ all
  step_found keys new w left next place all popped step e = step ∙ (ap (λ (l : List (List ℕ)). texts keys ++ l) (sym (next_ahead w left place popped)) ∙ e)

  pub walk_starts : AreKeyPaths paths → (directory : List ℕ) (keys none w : Keys) → keys ≡ [] → none ≡ [] → texts w ≡ texts none ++ reverse (places_in paths directory)
      → texts keys ++ ahead w ≡ keys_below paths directory
  walk_starts are directory keys none w k n e =
      ap (λ (l : Keys). texts l ++ ahead w) k ∙ (at_once w none (places_in paths directory) e
      ∙ (ap (λ (l : Keys). flat_map (keys_at paths) (places_in paths directory) ++ ahead l) n
      ∙ (append-nil (flat_map (keys_at paths) (places_in paths directory)) ∙ walk_finds_each_key paths directory are)))

  pub walk_is_over : (keys w : Keys) (all : List (List ℕ)) → w ≡ [] → texts keys ++ ahead w ≡ all → texts keys ≡ all
  walk_is_over keys w all none e = sym (append-nil (texts keys)) ∙ (sym (ap (λ (l : Keys). texts keys ++ ahead l) none) ∙ e)

-- ---- the keys that are found, and what is seen at them

module _ (l : Layers) where
  abbrev found : List ℕ → List (List ℕ)
  found directory = keys_below (all_paths l.layers) directory

  pub found_are_keys : AreKeyPaths (all_paths l.layers) → (directory : List ℕ) (keys : Keys) → texts keys ≡ found directory → All (λ key. IsTrue (is_key_path (seen_path key))) keys
  found_are_keys are directory keys e k d less =
      let path : List ℕ = seen_path (get_or keys k d) in
      let n = length-map keys seen_path in
      let there : Contains (texts keys) path =
      subst (Contains (texts keys)) (get_or-map seen_path keys k d (seen_path d) less) (Contains-get_or (texts keys) k (seen_path d) (omega (arith, n, less))) in
      let kept = kept_is_there (λ p. is_below p directory) (all_paths l.layers) path
      (listing_from (filter (λ p. is_below p directory) (all_paths l.layers)) path (subst (λ (ps : List (List ℕ)). Contains ps path) e there)) in
      are path kept.0

  rows_shown : (keys : Keys) → All (λ key. IsTrue (is_key_path (seen_path key))) keys → All (IsShown l) keys → map seen_row keys ≡ map (shown_at l) (texts keys)
  rows_shown [] are shown = refl
  rows_shown (key ∷ keys) are shown =
      let P : SeenKey → Type 0 = λ key. IsTrue (is_key_path (seen_path key)) in
      let here = All-head (IsShown l) key keys shown (All-head P key keys are) in
      ap (λ (o : Option (List ℕ)). (seen_path key, o) ∷ map seen_row keys) here
      ∙ ap (λ (rows : List (List ℕ × Option (List ℕ))). shown_at l (seen_path key) ∷ rows) (rows_shown keys (All-tail P key keys are) (All-tail (IsShown l) key keys shown))

  pub all_shown : AreKeyPaths (all_paths l.layers) → (directory : List ℕ) (keys : Keys) → texts keys ≡ found directory → All (IsShown l) keys → map seen_row keys ≡ map (shown_at l) (found directory)
  all_shown are directory keys e shown = rows_shown keys (found_are_keys are directory keys e) shown ∙ ap (map (shown_at l)) e

-- of an answer, if there is one
pub ok_both : {T E : Type 0} (r : Result T E) (P Q R : T → Type 0) → ((x : T) → P x → Q x → R x) → IfOk r P → IfOk r Q → IfOk r R
ok_both (Ok x) P Q R both p q = both x p q
ok_both (Err e) P Q R both p q = tt

-- ---- the layers have the paths of keys alone

layer_keys : (layer : Layer) (path : List ℕ) → Contains (keys (settings_of layer).values) path → is_key_path path ≡ true
layer_keys layer path c =
    let s = settings_of layer in
    ∥∥₁_elim layer.sound (Bool-set _ _) (λ o.
    (says_settings (region layer.values).file s (subst IsSound o.root o.sound) (says layer.values (locks_of layer) o)).valued path (key_in s.values path ∙ find_text path (keys s.values) c))

pub layers_have_keys : (layers : List Layer) → AreKeyPaths (all_paths (map settings_of layers))
layers_have_keys [] path c = absurd (none_of_none path c)
layers_have_keys (layer ∷ layers) path c =
    elim (Contains-append_cases (keys (settings_of layer).values) (all_paths (map settings_of layers)) path c) [
      | inl here ↦ layer_keys layer path here
      | inr later ↦ layers_have_keys layers path later
    ]
