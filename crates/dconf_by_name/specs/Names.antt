-- By which name the program was run, and what its words are behind it.
use Rattle.std.specs.Prelude.{ℕ, List, [], ◌∷◌, codes, Bool, false, eqb, ◌||◌}
use Rattle.std.specs.List.{ends_with}
use Rattle.std.specs.Str.{bytes_eq}

-- the last part of the path is `dconf`
abbrev pub is_dconf : List ℕ → Bool
is_dconf name = bytes_eq name (codes "dconf") || ends_with eqb name (codes "/dconf")

abbrev pub is_run_as_dconf : List (List ℕ) → Bool
is_run_as_dconf [] = false
is_run_as_dconf (name ∷ words) = is_dconf name
