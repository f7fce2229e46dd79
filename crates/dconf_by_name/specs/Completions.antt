-- What `dconf _complete` offers.
use Rattle.std.specs.Prelude.{ℕ, List, ◌++◌, ◌-◌, codes, Bool, filter, flat_map, eqb, not, ◌&&◌, ◌==◌, if◌then◌else◌, length, take}
use Rattle.std.specs.List.{ends_with, slice_split, starts_with, suffix_len}
use Rattle.dconf_model.specs.Paths.{ends_with_slash}

-- up to the last slash, and with it
abbrev pub directory_of : List ℕ → List ℕ
directory_of typed = take (length typed - suffix_len (λ c. not (c == 47)) typed) typed

-- a name in the directory goes on from what was typed, and ends as is asked
abbrev pub goes_on : List ℕ → List ℕ → List ℕ → List ℕ → Bool
goes_on suffix typed directory name = not (length name == 0) && (starts_with eqb (directory ++ name) typed && ends_with eqb name suffix)

-- its path; behind a key's the next word may come
abbrev pub offer : List ℕ → List ℕ → List ℕ
offer directory name = directory ++ (name ++ (if ends_with_slash name then codes "\n" else codes " \n"))

abbrev pub offers_of : List ℕ → List ℕ → List ℕ → List (List ℕ) → List ℕ
offers_of suffix typed directory names = flat_map (offer directory) (filter (goes_on suffix typed directory) names)

-- of the lines that `list` printed of the directory
abbrev pub offers : List ℕ → List ℕ → List ℕ → List ℕ → List ℕ
offers suffix typed directory listed = offers_of suffix typed directory (slice_split (λ c. c == 10) listed)
