-- Which keys are told to who listens: those that are seen otherwise than before.
use Rattle.std.specs.Prelude.{if◌then◌else◌, ◌≡◌, ◌≢◌, ◌⊎◌, ◌↔◌, ◌==◌, ◌&&◌, ◌∷◌, ◌++◌, ℕ, Bool, true, false, List, [], not, length, drop, map, Contains, Option, filter}
use Rattle.std.specs.List.{flat_map, list_any}
use Rattle.std.specs.Str.{bytes_eq, is_utf8}
use Rattle.gv_model.specs.Tree.{Tree}
use Rattle.dconf_model.specs.Layers.{Layers, visible}
use Rattle.dconf_model.specs.Order.{IsRising}
use Rattle.dconf_model.specs.Paths.{is_key_path}
use Rattle.dconf_model.specs.Salvaging.{IsKeyText}
use Rattle.dconf_model.specs.Settings.{Settings}
use Rattle.dconf_seen.specs.Waiting.{seen_as}
use Rattle.dconf_differences.specs.Differing.{same_value}
use Rattle.dconf_told.specs.Seeing.{is_of, said_of}
use Rattle.dconf_told.specs.declared.news.DconfdbKeyAsked.{DconfdbKeyAsked}

-- ---- a key that is asked for by itself

-- what is seen of it by who asks for that type, before and after
abbrev pub seen_before : Layers → DconfdbKeyAsked → Option Tree
seen_before l a = seen_as (is_of a.type_text.now) l (said_of a.before) a.path.now

abbrev pub seen_after : Layers → DconfdbKeyAsked → Option Tree
seen_after l a = seen_as (is_of a.type_text.now) l (said_of a.after) a.path.now

-- it is that key, and is seen otherwise
pub record IsAskedOtherwise (l m : Layers) (a : DconfdbKeyAsked) (path : List ℕ) : Type 0 where
  pub named : a.path.now ≡ path
  pub key : IsKeyText path
  pub other : seen_before l a ≢ seen_after m a

-- it is asked for of any type
abbrev pub asks_for : List ℕ → DconfdbKeyAsked → Bool
asks_for path a = length a.type_text.now == 0 && bytes_eq a.path.now path

abbrev pub asks_any : List DconfdbKeyAsked → List ℕ → Bool
asks_any asked path = list_any (asks_for path) asked

-- ---- who is told

-- A key is asked for by itself, and that is seen otherwise; or it isn't asked for of any type, and the layers show another value.
abbrev pub IsSeenOtherwise : Layers → Layers → List DconfdbKeyAsked → List ℕ → Type 0
IsSeenOtherwise l m asked path =
    ((a : DconfdbKeyAsked) × Contains asked a × IsAskedOtherwise l m a path)
    ⊎ ((asks_any asked path ≡ false) × IsKeyText path × (visible l path ≢ visible m path))

-- exactly those, in the order of their bytes, once each
pub record AreTold (l m : Layers) (asked : List DconfdbKeyAsked) (paths : List (List ℕ)) : Type 0 where
  pub rising : IsRising paths
  pub exact : (path : List ℕ) → Contains paths path ↔ IsSeenOtherwise l m asked path

-- the layers after another first one
abbrev pub after_first : Bool → Settings → Layers → Layers
after_first writable first l = record { layers = first ∷ drop 1 l.layers; writable = writable }

abbrev pub first_before : List Settings → Layers → Layers → Layers
first_before [] before after = before
first_before (first ∷ _) before after = after_first before.writable first after

-- the layers before, of which those after the first may count as the same
abbrev pub before_in : Bool → Layers → Layers → Layers
before_in false before after = before
before_in true before after = first_before before.layers before after

-- texts, a zero byte after each
abbrev pub ended : List (List ℕ) → List ℕ
ended texts = flat_map (λ text. text ++ (0 ∷ [])) texts

-- ---- words of private parts

-- the same, computed
abbrev pub is_key_text : List ℕ → Bool
is_key_text path = is_utf8 path && is_key_path path

-- the names of keys that are asked for of any type
abbrev pub any_name : DconfdbKeyAsked → List (List ℕ)
any_name a = if length a.type_text.now == 0 && is_key_text a.path.now then a.path.now ∷ [] else []

abbrev pub any_names : List DconfdbKeyAsked → List (List ℕ)
any_names asked = flat_map any_name asked

abbrev pub asked_otherwise : Layers → Layers → DconfdbKeyAsked → Bool
asked_otherwise l m a = is_key_text a.path.now && not (same_value (seen_before l a) (seen_after m a))

abbrev pub named_otherwise : Layers → Layers → List DconfdbKeyAsked → List (List ℕ)
named_otherwise l m asked = map (λ a. a.path.now) (filter (asked_otherwise l m) asked)

abbrev pub layers_otherwise : Layers → Layers → List ℕ → Bool
layers_otherwise l m path = is_key_text path && not (same_value (visible l path) (visible m path))

abbrev pub shown_otherwise : Layers → Layers → List DconfdbKeyAsked → List ℕ → Bool
shown_otherwise l m asked path = not (asks_any asked path) && layers_otherwise l m path

-- no key is missing that the layers show otherwise
abbrev pub HasAllOthers : Layers → Layers → List (List ℕ) → Type 0
HasAllOthers l m paths = (path : List ℕ) → visible l path ≢ visible m path → Contains paths path
