-- The value that a basic tree is, if its type allows its text.
use Rattle.std.specs.Prelude.{◌≡◌, false, Result, Ok, Err}
use Rattle.gv_model.specs.Tree.{Tree}
use Rattle.gv_model.specs.Tree.Tree.{number, text, node}
use Rattle.gv_model.specs.Literals.{ValueFault, text_at}
use Rattle.gv_model.specs.Literals.ValueFault.{no_common}
use Rattle.gv_model.specs.Texts.{has_zero_byte}

abbrev pub leaf_value : Tree → Result Tree ValueFault
leaf_value (number k n) = Ok (number k n)
leaf_value (text k s) = text_at k s
leaf_value (node t vs) = Err no_common

abbrev pub HasNoZero : Tree → Type 0
HasNoZero (text k s) = has_zero_byte s ≡ false
HasNoZero _ = Unit {0}
