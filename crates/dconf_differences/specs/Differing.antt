-- The keys that are seen otherwise through other layers. Values are told apart by what they are coded as, which is proved.
use Rattle.std.specs.Prelude.{◌≡◌, ◌≢◌, ◌⊎◌, ◌↔◌, List, ◌∷◌, ℕ, Bool, true, false, IsTrue, drop, filter, not, take, ◌||◌, ◌+◌, [], Option, Some, None, ◌==◌, ◌&&◌, ◌≤◌, ◌<◌}
use Rattle.dconf_model.specs.Layers.{Layers, all_paths, is_locked, visible}
use Rattle.dconf_model.specs.Order.{listing}
use Rattle.dconf_model.specs.Settings.{Settings}
use base.Stored.{Gv, gnil, gnum, gcons}
use Rattle.gv_model.specs.Tree.{Tree, nodes}
use Rattle.gv_tree.specs.Codes.{coded_tree}
use Rattle.gv_view.specs.Views.{value}
use Rattle.dconf_differences.specs.declared.same_values.Compared.{Compared}
use Rattle.std.specs.FinMap.{get}
use Rattle.gvdb_read.specs.Tables.{region}
use Rattle.gvdb_alike.specs.NamesAlike.{AreNamedAlike}
use Rattle.dconf_layers.specs.LayerRows.{items_of, layer_paths, paths_of, value_in}
use Rattle.dconf_layers.specs.LayerSettings.{settings_of}
use Rattle.dconf_layers.specs.declared.layer.Layer.{Layer}

abbrev pub same_code : Gv → Gv → Bool
same_code gnil gnil = true
same_code (gnum m) (gnum n) = m == n
same_code (gcons a b) (gcons c d) = same_code a c && same_code b d
same_code _ _ = false

unfoldable pub same_tree : Tree → Tree → Bool
same_tree v w = same_code (coded_tree.code v) (coded_tree.code w)

abbrev pub same_value : Option Tree → Option Tree → Bool
same_value None None = true
same_value (Some v) (Some w) = same_tree v w
same_value _ _ = false

-- ---- two views that are compared

abbrev pub IsSame : Compared → Type 0
IsSame p = value p.first ≡ value p.second

abbrev pub AreSame : List Compared → Type 0
AreSame [] = Unit {0}
AreSame (p ∷ ps) = IsSame p × AreSame ps

-- how many values lie in the first ones
abbrev pub work : List Compared → ℕ
work [] = 0
work (p ∷ ps) = nodes (value p.first) + work ps

-- another value is seen, or one where none was, or the key is locked in one alone
abbrev pub Differs : Layers → Layers → List ℕ → Type 0
Differs l m path = (is_locked l path ≢ is_locked m path) ⊎ (visible l path ≢ visible m path)

-- the keys that have a value in one of so many first layers
abbrev pub first_keys : ℕ → Layers → List (List ℕ)
first_keys count l = all_paths (take count l.layers)

-- the layers with this one as the first
abbrev pub with_first : Layers → Settings → Layers
with_first l s = record { layers = s ∷ drop 1 l.layers; writable = l.writable }

-- of these keys those that differ, in the order of their bytes, once each
pub record AreDiffering (l m : Layers) (keys paths : List (List ℕ)) : Type 0 where
  pub test : List ℕ → Bool
  pub tells : (path : List ℕ) → IsTrue (test path) ↔ Differs l m path
  pub are : paths ≡ listing (filter test keys)

-- ---- words of private parts

abbrev pub same_truth : Bool → Bool → Bool
same_truth true b = b
same_truth false b = not b

-- the same, computed
abbrev pub differs : Layers → Layers → List ℕ → Bool
differs l m path = not (same_truth (is_locked l path) (is_locked m path)) || not (same_value (visible l path) (visible m path))

-- all items have the same names, and this one is a value of the same bytes, or no value both times
pub record HaveAlike (one two : Layer) (i : ℕ) : Type 0 where
  pub named : AreNamedAlike (region one.values) (region two.values)
  pub value : value_in one i ≡ value_in two i

-- those below the first and from the end on
pub record HaveAlikeOutside (one two : Layer) (first end : ℕ) : Type 0 where
  pub ordered : first ≤ end
  pub counted : end ≤ items_of one
  pub alike : (i : ℕ) → i < items_of one → (i < first) ⊎ (end ≤ i) → HaveAlike one two i

-- what both have alike isn't asked for
abbrev pub PassesAlike : (List ℕ → Bool) → Settings → Settings → Type 0
PassesAlike f s t = (path : List ℕ) → get s.values path ≡ get t.values path → f path ≡ false

-- of the paths of the first layer those of these rows are enough to ask
abbrev pub AreAsked : Layer → Layer → List (List ℕ × List ℕ) → Type 0
AreAsked one two rows = (f : List ℕ → Bool) → PassesAlike f (settings_of one) (settings_of two) → filter f (paths_of rows) ≡ filter f (layer_paths one)
