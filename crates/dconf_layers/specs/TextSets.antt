-- Texts that are gathered: which there are counts, and not how often or in which order.
use Rattle.std.specs.Prelude.{ℕ, List, map, string_bytes, fold, drop, length, if◌then◌else◌}
use Rattle.std.specs.Coded.{Coded, coded_list, coded_ℕ}
use Rattle.std.specs.FinMap.{empty, insert}
use Rattle.std.specs.FinSet as set
use Rattle.std.specs.declared.string.String.{String}
use Rattle.std.specs.declared.alloc.Global.{Global}
use Rattle.dconf_model.specs.Locks.{is_below}
use Rattle.dconf_model.specs.Paths.{first_part}
use Rattle.dconf_model.specs.Settings.{AtPaths}

abbrev pub TextSet : Type 0
TextSet = AtPaths (Unit {0})

abbrev pub text_set_code : Coded TextSet
text_set_code = set.code (coded_list coded_ℕ)

abbrev pub with_text : TextSet → List ℕ → TextSet
with_text set text = insert set text tt

abbrev pub with_texts : List (List ℕ) → TextSet → TextSet
with_texts texts set = fold with_text set texts

abbrev pub text_set : List (String Global) → TextSet
text_set texts = with_texts (map string_bytes texts) empty

-- with the name that a path has in a directory, where it is below that
abbrev pub with_child : List ℕ → TextSet → List ℕ → TextSet
with_child directory set path = if is_below path directory then with_text set (first_part (drop (length directory) path)) else set

abbrev pub with_children : List ℕ → List (List ℕ) → TextSet → TextSet
with_children directory paths set = fold (with_child directory) set paths
