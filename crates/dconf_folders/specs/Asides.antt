-- What is set aside: it has another name, too.
use Rattle.std.specs.Prelude.{ℕ, Bool, true, false, List, Option, Some, None, ◌==◌}
use Rattle.dconf_model.specs.Folders.{Event, file_of}
use Rattle.dconf_folders.specs.declared.old.Old.{Old}
use Rattle.dconf_folders.specs.declared.old.Old.TheVariants.{Bits, SetAside}

abbrev pub IsSetAside : Old → Type 0
IsSetAside (SetAside bits) = Unit {0}
IsSetAside _ = ⊥

-- the new file takes its place, and it is not set aside
abbrev pub IsReplaced : Old → Type 0
IsReplaced (Bits bits) = Unit {0}
IsReplaced _ = ⊥

-- no file, or the same one
abbrev pub is_none_or : Option ℕ → Option ℕ → Bool
is_none_or file None = true
is_none_or None (Some other) = false
is_none_or (Some file) (Some other) = file == other

-- the second name has no file but that of the first one
abbrev pub is_free_for : List ℕ → List ℕ → List Event → Bool
is_free_for name aside es = is_none_or (file_of es name) (file_of es aside)
