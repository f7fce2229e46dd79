-- Values that have no text for a double in them, and texts that have no value for one: what `dump --skip-doubles` and
-- `load --skip-doubles` leave out. This project's.
use Rattle.std.specs.Prelude.{ℕ, List, [], ◌∷◌, ◌++◌, Bool, true, false, Option, Some, None, codes, filter, flat_map, not, ◌&&◌, ◌==◌}
use Rattle.std.specs.List.{list_any}
use Rattle.gv_model.specs.TextFault.{Cause}
use Rattle.gv_model.specs.TextFault.Cause.{double_text}
use Rattle.gv_model.specs.Literals.{ValueFault}
use Rattle.gv_model.specs.Literals.ValueFault.{double_text as double_value}
use Rattle.gv_model.specs.Tree.{Tree}
use Rattle.gv_model.specs.Printed.{is_too_large, holds_double}
use Rattle.dconf_model.specs.Causes.{SettingsCause}
use Rattle.dconf_model.specs.Causes.SettingsCause.{text_fault, value_fault}

-- a value isn't printed for a double in it; that it is too large would come first
abbrev pub is_double : Tree → Bool
is_double v = not (is_too_large v) && holds_double v

abbrev pub is_double_if_any : Option Tree → Bool
is_double_if_any None = false
is_double_if_any (Some v) = is_double v

-- ---- values that are seen at paths

-- no line can name a path below such a directory
abbrev pub has_line_feed : List ℕ → Bool
has_line_feed directory = list_any (λ c. c == 10) directory

-- the paths of those that are left out where doubles are skipped, and the others
abbrev pub left_out : Bool → (List ℕ → Option Tree) → List (List ℕ) → List (List ℕ)
left_out skip seen paths = filter (λ path. skip && is_double_if_any (seen path)) paths

abbrev pub not_left_out : Bool → (List ℕ → Option Tree) → List (List ℕ) → List (List ℕ)
not_left_out skip seen paths = filter (λ path. not (skip && is_double_if_any (seen path))) paths

-- a comment line for each
abbrev pub comment_lines : List (List ℕ) → List ℕ
comment_lines paths = flat_map (λ path. codes "# " ++ (path ++ 10 ∷ [])) paths

-- ---- texts of values

abbrev pub is_double_token : Cause → Bool
is_double_token double_text = true
is_double_token _ = false

abbrev pub is_double_fault : ValueFault → Bool
is_double_fault double_value = true
is_double_fault _ = false

-- a text is refused for a double in it
abbrev pub is_double_cause : SettingsCause → Bool
is_double_cause (text_fault f) = is_double_token f.cause
is_double_cause (value_fault f) = is_double_fault f
is_double_cause _ = false

abbrev pub is_double_cause_if_any : Option SettingsCause → Bool
is_double_cause_if_any None = false
is_double_cause_if_any (Some c) = is_double_cause c
