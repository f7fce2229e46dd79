-- Rows as they are put together.
use Rattle.std.specs.Prelude.{List, [], ◌∷◌, String, Option, Some, None, IfSome, IsTrue, codes, nat_eq}
use Rattle.std.specs.List.{starts_with}
use Rattle.std.specs.Global.{Global}
use Rattle.dconf_model.specs.Keyfiles.{Setting}
use Rattle.dconf_path.specs.declared.path.KeyPath.{KeyPath}
use Rattle.dconf_path.specs.Paths.{key_text}

-- none or one
abbrev pub settings_in : Option Setting → List Setting
settings_in None = []
settings_in (Some x) = x ∷ []

-- its path starts with the root's
abbrev pub IsBelowRoot : Option (KeyPath × String Global) → Type 0
IsBelowRoot row = IfSome row (λ r. IsTrue (starts_with nat_eq (key_text r.0) (codes "/")))
