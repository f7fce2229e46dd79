-- What values append to a file.
use Rattle.std.specs.Prelude.{ℕ, ◌-◌, List, ◌++◌, length, map, fold, replicate}
use Rattle.std.specs.Borrow.{Bor}
use Rattle.gv_model.specs.Layout.{round_up}

-- the bytes of each
abbrev pub bytes_of_each : List (Bor (List ℕ)) → List (List ℕ)
bytes_of_each values = map (λ v. v.now) values

-- zero bytes up to a multiple of a number
abbrev pub with_padding : ℕ → List ℕ → List ℕ
with_padding to file = file ++ replicate (round_up to (length file) - length file) 0

-- values after what was there, each at a multiple of 8
abbrev pub with_values : List ℕ → List (List ℕ) → List ℕ
with_values file values = fold (λ l value. with_padding 8 l ++ value) file values
