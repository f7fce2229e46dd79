-- What differs between two stores or databases, in lines, and as a keyfile that makes the first like the second. This project's.
use Rattle.std.specs.Prelude.{◌≡◌, ℕ, List, [], ◌∷◌, ◌++◌, Bool, true, Option, Some, None, Ok, codes, flat_map, if◌then◌else◌, is_none, is_some, not, ◌&&◌, ◌||◌}
use Rattle.std.specs.List.{list_all}
use Rattle.std.specs.Str.{bytes_eq}
use Rattle.gv_model.specs.Tree.{Tree}
use Rattle.gv_model.specs.Printed.{holds_double, is_too_large, printed}
use Rattle.dconf_model.specs.Explains.{told_value}
use Rattle.dconf_model.specs.Keyfiles.{Setting, dumped}
use Rattle.dconf_model.specs.Layers.{Layers, all_paths, is_locked, locks_below, visible}
use Rattle.dconf_model.specs.Paths.{is_key_path}
use Rattle.dconf_differences.specs.Differing.{AreDiffering, same_value}

-- ---- a line for a key: what is seen through the first layers, and through the second

-- the value's text, or why it has none
abbrev pub told : Option Tree → List ℕ
told None = codes "unset"
told (Some v) = told_value (Some v)

abbrev pub lock_word : Bool → List ℕ
lock_word locked = if locked then codes ", locked" else []

abbrev pub seen_text : Layers → List ℕ → List ℕ
seen_text l path = told (visible l path) ++ lock_word (is_locked l path)

abbrev pub key_line : List ℕ → Layers → Layers → List ℕ → List ℕ
key_line start l m path = start ++ (path ++ (codes ": " ++ (seen_text l path ++ (codes " -> " ++ (seen_text m path ++ 10 ∷ [])))))

-- of what is no key's path nothing is said
abbrev pub line_of : List ℕ → Layers → Layers → List ℕ → List ℕ
line_of start l m path = if is_key_path path then key_line start l m path else []

abbrev pub lines_of : List ℕ → Layers → Layers → List (List ℕ) → List ℕ
lines_of start l m paths = flat_map (line_of start l m) paths

-- ---- a line for a lock that one of them has alone

abbrev pub is_none_of : List (List ℕ) → List ℕ → Bool
is_none_of paths path = list_all (λ other. not (bytes_eq other path)) paths

abbrev pub lock_line : List ℕ → List (List ℕ) → List ℕ → List ℕ
lock_line start others lock = if is_none_of others lock then start ++ (lock ++ 10 ∷ []) else []

abbrev pub lock_lines : List ℕ → List (List ℕ) → List (List ℕ) → List ℕ
lock_lines start locks others = flat_map (lock_line start others) locks

-- ---- what makes the first like the second

-- a key that has a value through the first alone; no row of a keyfile takes it away
abbrev pub is_gone : Layers → Layers → List ℕ → Bool
is_gone l m path = is_key_path path && (is_some (visible l path) && is_none (visible m path))

abbrev pub reset_line : Layers → Layers → List ℕ → List ℕ
reset_line l m path = if is_gone l m path then codes "# reset " ++ (path ++ 10 ∷ []) else []

abbrev pub resets_of : Layers → Layers → List (List ℕ) → List ℕ
resets_of l m paths = flat_map (reset_line l m) paths

-- a value that has a text
abbrev pub settings_at : List ℕ → Option Tree → List Setting
settings_at path None = []
settings_at path (Some v) = if is_too_large v || holds_double v then [] else record { path = path; text = printed v true } ∷ []

-- a key whose value is another one
abbrev pub is_set_anew : Layers → Layers → List ℕ → Bool
is_set_anew l m path = is_key_path path && not (same_value (visible l path) (visible m path))

abbrev pub settings_anew_at : Layers → Layers → List ℕ → List Setting
settings_anew_at l m path = if is_set_anew l m path then settings_at path (visible m path) else []

abbrev pub settings_anew : Layers → Layers → List (List ℕ) → List Setting
settings_anew l m paths = flat_map (settings_anew_at l m) paths

-- Each line but those of the keyfile is a comment of one. Of each key that is seen otherwise it is said how; and the rows are those of the keys
-- that have another value.
pub record IsDifference (l m : Layers) (text : List ℕ) : Type 0 where
  pub paths : List (List ℕ)
  pub differing : AreDiffering l m (all_paths l.layers ++ all_paths m.layers) paths
  pub rows : List ℕ
  pub written : dumped (codes "/") (settings_anew l m paths) ≡ Ok rows
  pub says : text ≡ lines_of (codes "# ") l m paths ++ (resets_of l m paths ++ (lock_lines (codes "# lock ") (locks_below m (codes "/")) (locks_below l (codes "/")) ++ (lock_lines (codes "# unlock ") (locks_below l (codes "/")) (locks_below m (codes "/")) ++ rows)))

-- the same in lines alone
pub record AreChanges (l m : Layers) (text : List ℕ) : Type 0 where
  pub paths : List (List ℕ)
  pub differing : AreDiffering l m (all_paths l.layers ++ all_paths m.layers) paths
  pub says : text ≡ lines_of (codes "  ") l m paths ++ (lock_lines (codes "  lock ") (locks_below m (codes "/")) (locks_below l (codes "/")) ++ lock_lines (codes "  unlock ") (locks_below l (codes "/")) (locks_below m (codes "/")))
