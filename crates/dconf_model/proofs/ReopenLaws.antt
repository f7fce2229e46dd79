-- A store that was saved and opened again is seen as before.
use Rattle.std.specs.Prelude.{◌≡◌, ℕ, zero, suc, List, [], ◌∷◌, drop, Option, Some, refl, is_some, option_map, option_and_then}
use Rattle.std.proofs.Common.{ap, sym, ◌∙◌, subst}
use Rattle.std.specs.FinMap.{empty, get-empty}
use Rattle.std.specs.Cmp.Lexicographic.{slice_cmp}
use Rattle.std.specs.Ordering.{nat_cmp}
use Rattle.dconf_model.specs.Bytes.{MaybeBytes}
use Rattle.dconf_model.specs.Settings.{Settings}
use Rattle.gv_model.specs.Tree.{Tree}
use Rattle.dconf_model.specs.Values.{held_value}
use Rattle.dconf_model.specs.Databases.{IsLayer, AreLayers, IsDatabaseOf}
use Rattle.dconf_model.specs.Layers.{Layers, Place, place_of, first_from, child_names, locks_below, greatest_from, locks_path}
use Rattle.dconf_model.specs.Changes.{saved}
use Rattle.dconf_model.specs.Reopened.{ReopenedIsSame}
use Rattle.dconf_model.proofs.PathMaps.{no_truth}
use Rattle.dconf_model.proofs.DatabaseLaws.{says_one_thing, written_says_settings}
use Rattle.dconf_model.proofs.DatabasesGiven.{one_layer}

-- databases have one list of layers
pub one_list : (items : List MaybeBytes) (ss ts : List Settings) → AreLayers items ss → AreLayers items ts → ss ≡ ts
one_list [] [] [] h k = refl
one_list [] (s ∷ ss) ts h k = absurd h
one_list [] [] (t ∷ ts) h k = absurd k
one_list (item ∷ items) [] ts h k = absurd h
one_list (item ∷ items) (s ∷ ss) [] h k = absurd k
one_list (item ∷ items) (s ∷ ss) (t ∷ ts) h k =
    let head : s ≡ t = one_layer item s t h.0 k.0 in
    let tail : ss ≡ ts = one_list items ss ts h.1 k.1 in
    λ i. head i ∷ tail i

-- a file of the saved values says them, without locks
pub says_saved : (s t : Settings) (later : List Settings) (file : List ℕ) → IsDatabaseOf (saved (s ∷ later)) file → IsLayer (Some file) t → t ≡ saved (s ∷ later)
says_saved s t later file written opened =
    says_one_thing file t (saved (s ∷ later)) opened.2
    (written_says_settings (saved (s ∷ later)) file (λ path there. absurd (no_truth (sym (ap is_some (get-empty (slice_cmp nat_cmp) path)) ∙ there))) written)

-- the layers are the same, but for the locks of the first
abbrev without_locks : Settings → Settings
without_locks s = record { values = s.values; locks = empty }

pub layers_again : (s : Settings) (later : List Settings) (others : List MaybeBytes) (file : List ℕ) (ms : List Settings) → AreLayers others later →
    IsDatabaseOf (saved (s ∷ later)) file → AreLayers (Some file ∷ others) ms → ms ≡ saved (s ∷ later) ∷ later
layers_again s later others file [] h k o = absurd o
layers_again s later others file (t ∷ ts) h k o =
    let head : t ≡ saved (s ∷ later) = says_saved s t later file k o.0 in
    let tail : ts ≡ later = one_list others ts later o.1 h in
    λ i. head i ∷ tail i

same_place : (n : ℕ) (s : Settings) (later : List Settings) (path : List ℕ) →
    first_from n (drop n (saved (s ∷ later) ∷ later)) path ≡ first_from n (drop n (s ∷ later)) path
same_place zero s later path = refl
same_place (suc n) s later path = refl

abbrev seen : Option Place → Option Tree
seen o = option_and_then held_value (option_map (λ p. p.1) o)

pub reopened_is_same : ReopenedIsSame
reopened_is_same others l file m h =
    let s = h.first in
    let later = h.later in
    let again : m.layers ≡ saved (s ∷ later) ∷ later =
    layers_again s later others file m.layers h.others_are (subst (λ ls. IsDatabaseOf (saved ls) file) h.layers h.saved_is) h.opened in
    let is_m : m ≡ record { layers = saved (s ∷ later) ∷ later; writable = l.writable } = λ i. record { layers = again i; writable = h.writable i } in
    let is_l : l ≡ record { layers = s ∷ later; writable = l.writable } = λ i. record { layers = h.layers i; writable = l.writable } in
    let places : (path : List ℕ) → place_of m path ≡ place_of l path =
    λ path. ap (λ (l : Layers). place_of l path) is_m ∙ (same_place (greatest_from 1 (locks_path path) later) s later path ∙ sym (ap (λ (l : Layers). place_of l path) is_l)) in
    record {
      values = λ path. ap (λ (o : Option Place). seen o) (places path);
      origins = λ path. ap (λ (o : Option Place). option_map (λ p. p.0) o) (places path);
      children = λ directory. ap (λ (l : Layers). child_names l directory) is_m ∙ sym (ap (λ (l : Layers). child_names l directory) is_l);
      locks = λ directory. ap (λ (l : Layers). locks_below l directory) is_m ∙ sym (ap (λ (l : Layers). locks_below l directory) is_l);
    }
