-- The layout of the type at the start of a text, and what follows the type.
use Rattle.std.specs.Prelude.{◌≡◌, ℕ, List, Option}
use Rattle.gv_model.specs.Layout.{alignment, fixed_size}
use Rattle.gv_model.specs.TypeText.{seen}
use Rattle.gv_types.specs.FirstTypes.{first_type, IsAfterFirst}

pub record IsInfoAt (text : List ℕ) (aligned : ℕ) (size : Option ℕ) (rest : List ℕ) : Type 0 where
  pub aligned_is : aligned ≡ alignment (first_type (seen text))
  pub size_is : size ≡ fixed_size (first_type (seen text))
  pub after : IsAfterFirst text rest
