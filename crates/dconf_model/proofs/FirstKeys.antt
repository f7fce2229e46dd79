-- Through layers that are the same but for the first, a path that neither first one has is seen alike.
use Rattle.std.specs.Prelude.{◌≡◌, ◌⊎◌, ℕ, zero, suc, List, [], ◌∷◌, take, drop, Option, Some, None, refl, is_some, option_map, option_and_then, nat_lt, Contains}
use Rattle.std.proofs.Common.{ap, sym, ◌∙◌, inl, inr}
use Rattle.std.specs.FinMap.{get, keys}
use Rattle.std.proofs.lemmas.List.Elements.{Contains-append_left, Contains-append_right}
use Rattle.gv_model.specs.Tree.{Tree}
use Rattle.dconf_model.specs.Settings.{Settings}
use Rattle.dconf_model.specs.Values.{held_value}
use Rattle.dconf_model.specs.Layers.{Place, FirstKeysAreEnough, all_paths, first_from, greatest_from, level, locks_path, place_of, place_or}
use Rattle.dconf_model.proofs.StoreListings.{key_of}

-- the first has no value at the path
abbrev FirstHasNone : List Settings → List ℕ → Type 0
FirstHasNone [] path = Unit {0}
FirstHasNone (s ∷ later) path = get s.values path ≡ None

has_or_none : (ls : List Settings) (path : List ℕ) → FirstHasNone ls path ⊎ Contains (all_paths (take 1 ls)) path
has_or_none [] path = inl tt
has_or_none (s ∷ later) path = go (get s.values path) refl
  where
    go : (o : Option (List ℕ)) → get s.values path ≡ o → (get s.values path ≡ None) ⊎ Contains (all_paths (take 1 (s ∷ later))) path
    go None e = inl e
    go (Some bytes) e = inr (Contains-append_left (keys s.values) (all_paths (take 0 later)) path (key_of s.values path (ap is_some e)))

past_first : (ls : List Settings) (path : List ℕ) → FirstHasNone ls path → first_from 0 ls path ≡ first_from 1 (drop 1 ls) path
past_first [] path h = refl
past_first (s ∷ later) path h = ap (λ o. place_or 0 o (first_from 1 later path)) h

dropped : (n : ℕ) (ls : List Settings) → drop (suc n) ls ≡ drop n (drop 1 ls)
dropped zero [] = refl
dropped (suc n) [] = refl
dropped n (s ∷ later) = refl

alike : (n : ℕ) (ls ms : List Settings) (path : List ℕ) → drop 1 ls ≡ drop 1 ms → FirstHasNone ls path → FirstHasNone ms path →
    first_from n (drop n ls) path ≡ first_from n (drop n ms) path
alike zero ls ms path same h k = past_first ls path h ∙ (ap (λ later. first_from 1 later path) same ∙ sym (past_first ms path k))
alike (suc n) ls ms path same h k =
    ap (λ later. first_from (suc n) later path) (dropped n ls ∙ (ap (drop n) same ∙ sym (dropped n ms)))

pub first_keys_are_enough : FirstKeysAreEnough
first_keys_are_enough l m path same differs =
    elim (has_or_none l.layers path) [
      | inr has ↦ Contains-append_left (all_paths (take 1 l.layers)) (all_paths (take 1 m.layers)) path has
      | inl h ↦ elim (has_or_none m.layers path) [
        | inr has ↦ Contains-append_right (all_paths (take 1 l.layers)) (all_paths (take 1 m.layers)) path has
        | inl k ↦ absurd (elim differs [ inl locked ↦ locked (ap (nat_lt 0) levels) | inr seen ↦ seen (ap value_at (places h k)) ])
      ]
    ]
  where
    levels : level l path ≡ level m path
    levels = ap (greatest_from 1 (locks_path path)) same

    value_at : Option Place → Option Tree
    value_at o = option_and_then held_value (option_map (λ p. p.1) o)

    places : FirstHasNone l.layers path → FirstHasNone m.layers path → place_of l path ≡ place_of m path
    places h k = alike (level l path) l.layers m.layers path same h k ∙ ap (λ n. first_from n (drop n m.layers) path) levels
