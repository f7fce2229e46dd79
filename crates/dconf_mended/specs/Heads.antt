-- Which bytes a database's file can begin with.
use Rattle.std.specs.Prelude.{List, ℕ, ◌++◌}
use Rattle.dconf_model.specs.Opening.{HasHeader, IsDatabase, IsSigned, IsVersionZero}

-- as far as a header is there it has the signature and the version
abbrev pub IsHead : List ℕ → Type 0
IsHead head = HasHeader head → IsSigned head × IsVersionZero head

-- law: where a file is a database, whatever it begins with may be one's
abbrev pub HeadsTell : Type 0
HeadsTell = (head rest : List ℕ) → IsDatabase (head ++ rest) → IsHead head
