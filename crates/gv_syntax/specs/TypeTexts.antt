-- The type that an owned text spells.
use Rattle.std.specs.Prelude.{string_bytes}
use Rattle.gv_model.specs.Ty.{Ty}
use Rattle.gv_model.specs.TypeText.{type_at}
use Rattle.gv_syntax.specs.declared.type_text.TypeText.{TypeText}

abbrev pub type_of_owned : TypeText → Ty
type_of_owned t = type_at (string_bytes t.text)
