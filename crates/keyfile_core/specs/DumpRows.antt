-- What a row of a dump says, and of which setting it is.
use Rattle.std.specs.Prelude.{ℕ, List, String, IsTrue, nat_eq, string_bytes}
use Rattle.std.specs.List.{All, starts_with}
use Rattle.std.specs.Global.{Global}
use Rattle.dconf_model.specs.Keyfiles.{DumpRow as Dumped, Setting, dump_row}
use Rattle.dconf_path.specs.declared.path.KeyPath.{KeyPath}
use Rattle.dconf_path.specs.Paths.{key_text}
use Rattle.keyfile_core.specs.declared.dump_row.DumpRow.{DumpRow}

abbrev pub dump_meant : DumpRow → Dumped
dump_meant row = record { part = row.part.now; key = row.key.now; text = row.text.now }

abbrev pub setting_of : KeyPath × String Global → Setting
setting_of x = record { path = key_text x.0; text = string_bytes x.1 }

abbrev pub row_below : {X : Type 0} → (X → Setting) → List ℕ → X → Dumped
row_below setting directory x = dump_row directory (setting x)

-- each setting's path starts with the directory's
abbrev pub AreAllBelow : {X : Type 0} → (X → Setting) → List ℕ → List X → Type 0
AreAllBelow setting directory xs = All (λ x. IsTrue (starts_with nat_eq (setting x).path directory)) xs

abbrev pub AreBelow : List ℕ → List (KeyPath × String Global) → Type 0
AreBelow directory settings = AreAllBelow setting_of directory settings
