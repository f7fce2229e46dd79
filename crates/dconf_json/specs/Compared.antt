-- What differs between two stores or databases: an object for each key that is seen otherwise, and for each lock that one of them has alone.
use Rattle.std.specs.Prelude.{◌≡◌, ℕ, List, [], ◌∷◌, ◌++◌, Bool, true, false, not, codes, flat_map, if◌then◌else◌}
use Rattle.json.specs.Token.{Token, begin_object, boolean, end_object, key}
use Rattle.dconf_model.specs.Layers.{Layers, all_paths, is_locked, locks_below, visible_bytes}
use Rattle.dconf_model.specs.Paths.{is_key_path}
use Rattle.dconf_differences.specs.Differing.{AreDiffering}
use Rattle.dconf_compared.specs.Compared.{is_none_of}
use Rattle.dconf_json.specs.Lines.{line}
use Rattle.dconf_json.specs.Values.{text_member, value_tokens}

-- what is seen at a key, and whether it is locked
abbrev pub side_tokens : Layers → List ℕ → List Token
side_tokens l path =
    begin_object ∷ (key (codes "value") ∷ (value_tokens false (visible_bytes l path) ++ (key (codes "locked") ∷ (boolean (is_locked l path) ∷ (end_object ∷ [])))))

-- before and after
abbrev pub sides_tokens : Layers → Layers → List ℕ → List Token
sides_tokens l m path = key (codes "before") ∷ (side_tokens l path ++ (key (codes "after") ∷ side_tokens m path))

abbrev pub key_tokens : Layers → Layers → List ℕ → List Token
key_tokens l m path = begin_object ∷ (text_member (codes "path") path ++ (sides_tokens l m path ++ end_object ∷ []))

-- of what is no key's path nothing is said
abbrev pub key_line : Layers → Layers → List ℕ → List ℕ
key_line l m path = if is_key_path path then line (key_tokens l m path) else []

abbrev pub key_lines : Layers → Layers → List (List ℕ) → List ℕ
key_lines l m paths = flat_map (key_line l m) paths

-- a lock that one of them has alone, the second or the first
abbrev pub lock_members : Bool → List ℕ → List Token
lock_members is_new lock =
    text_member (codes "lock") lock ++ (key (codes "before") ∷ (boolean (not is_new) ∷ (key (codes "after") ∷ (boolean is_new ∷ []))))

abbrev pub lock_tokens : Bool → List ℕ → List Token
lock_tokens is_new lock = begin_object ∷ (lock_members is_new lock ++ end_object ∷ [])

abbrev pub lock_line : Bool → List (List ℕ) → List ℕ → List ℕ
lock_line is_new others lock = if is_none_of others lock then line (lock_tokens is_new lock) else []

abbrev pub lock_lines : Bool → List (List ℕ) → List (List ℕ) → List ℕ
lock_lines is_new locks others = flat_map (lock_line is_new others) locks

pub record IsDifferenceInLines (l m : Layers) (text : List ℕ) : Type 0 where
  pub paths : List (List ℕ)
  pub differing : AreDiffering l m (all_paths l.layers ++ all_paths m.layers) paths
  pub says : text ≡ key_lines l m paths ++ (lock_lines true (locks_below m (codes "/")) (locks_below l (codes "/")) ++ lock_lines false (locks_below l (codes "/")) (locks_below m (codes "/")))
