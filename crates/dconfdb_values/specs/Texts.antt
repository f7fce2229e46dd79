-- Texts.
use Rattle.std.specs.Prelude.{◌≡◌, ℕ, List, None, Some}
use Rattle.gv_model.specs.Ty.{Basic}
use Rattle.gv_model.specs.Ty.Ty.{basic}
use Rattle.gv_model.specs.Tree.Tree.{text}
use Rattle.gv_model.specs.Layout.{basic_size}
use Rattle.gv_model.specs.TypeText.{type_of_text}
use Rattle.gv_model.specs.Decode.{decode}

-- the text spells a type of texts: a basic one without a fixed size
abbrev pub IsTypeOfTexts : List ℕ → Basic → Type 0
IsTypeOfTexts type_text k = (type_of_text type_text ≡ Some (basic k)) × (basic_size k ≡ None)

abbrev pub IsTextType : List ℕ → Type 0
IsTextType type_text = (k : Basic) × IsTypeOfTexts type_text k

-- the bytes are this text at it
abbrev pub IsText : List ℕ → List ℕ → List ℕ → Type 0
IsText type_text bytes s = (k : Basic) × (IsTypeOfTexts type_text k × (decode (basic k) bytes ≡ text k s))
