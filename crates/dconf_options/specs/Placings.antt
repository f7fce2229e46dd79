-- What is said of an argument of `--schema`. docs/MANUAL.md, "lint [FILE]..".
use Rattle.std.specs.Prelude.{ℕ, Bool, not, if◌then◌else◌}
use Rattle.dconf_options.specs.declared.placing.Placing.{Placing}

-- what is wrong with the argument itself comes before what is wrong with the schema that it names
abbrev pub placing_of : Bool → Bool → Bool → Bool → Placing
placing_of has_path is_directory has_schema is_fixed =
    if not has_path then Placing.NoPath else if not is_directory then Placing.NoDirectory else
    if not has_schema then Placing.NoSchema else if is_fixed then Placing.Fixed else Placing.Taken

abbrev pub placing_number : Placing → ℕ
placing_number Placing.Taken = 0
placing_number Placing.NoPath = 1
placing_number Placing.NoDirectory = 2
placing_number Placing.NoSchema = 3
placing_number Placing.Fixed = 4
