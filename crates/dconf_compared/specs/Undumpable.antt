-- Why what differs can't be said as a keyfile.
use Rattle.std.specs.Prelude.{◌≡◌, ◌⊎◌, ◌++◌, ◌==◌, ℕ, List, Bool, Some, Err, codes, string_bytes}
use Rattle.std.specs.List.{find, list_any}
use Rattle.dconf_model.specs.Keyfiles.{RowFault, Setting, dumped}
use Rattle.dconf_model.specs.Layers.{Layers, all_paths}
use Rattle.dconf_model.specs.Outcomes.{path_at, setting_paths}
use Rattle.dconf_differences.specs.Differing.{AreDiffering}
use Rattle.keyfile_core.specs.RowsFaults.{rows_cause_of}
use Rattle.keyfile_core.specs.declared.rows_fault.RowsCause.{RowsCause}
use Rattle.keyfile_core.specs.declared.rows_fault.RowsCause.TheVariants.{BadKeyName}
use Rattle.dconf_compared.specs.Compared.{settings_anew}
use Rattle.dconf_compared.specs.declared.as_keyfile.Undumped.{Undumped}
use Rattle.dconf_compared.specs.declared.as_keyfile.Undumped.TheVariants.{Path, Memory}

-- what holds of the cause and the path that are given; that an allocation failed says nothing
abbrev pub OfPath : (RowsCause → List ℕ → Type 0) → Undumped → Type 0
OfPath P (Path cause path) = P cause (string_bytes path)
OfPath P Memory = Unit {0}

abbrev pub has_line_feed : List ℕ → Bool
has_line_feed path = list_any (λ c. c == 10) path

-- the first of these paths that no comment can name
abbrev pub IsNoComment : List (List ℕ) → RowsCause → List ℕ → Type 0
IsNoComment paths cause path = (find has_line_feed paths ≡ Some path) × (cause ≡ BadKeyName)

-- that of the first of these rows that could not be read again
abbrev pub IsNoRow : List Setting → RowsCause → List ℕ → Type 0
IsNoRow settings cause path =
    (fault : RowFault) × (dumped (codes "/") settings ≡ Err fault) × (fault.cause ≡ rows_cause_of cause) × (path ≡ path_at (setting_paths settings) fault.row)

-- of the keys that are seen otherwise
pub record IsUndumpable (l m : Layers) (cause : RowsCause) (path : List ℕ) : Type 0 where
  pub paths : List (List ℕ)
  pub differing : AreDiffering l m (all_paths l.layers ++ all_paths m.layers) paths
  pub fault : IsNoComment paths cause path ⊎ IsNoRow (settings_anew l m paths) cause path

-- these two
abbrev pub IsGiven : RowsCause → List ℕ → RowsCause → List ℕ → Type 0
IsGiven cause path = λ c p. (c ≡ cause) × (p ≡ path)
