-- The tokens of a text.
-- GLib, "GVariant Text Format".
use Rattle.std.specs.Prelude.{ℕ, Bool, List}
use Rattle.gv_model.specs.Ty.{Ty, Basic}

pub data Mark : Type 0 where
  open_tuple close_tuple open_list close_list open_brace close_brace open_box close_box comma colon : Mark

pub data Word : Type 0 where
  truth : Bool → Word
  just nothing : Word
  type_word : Basic → Word

pub data Token : Type 0 where
  mark : Mark → Token
  -- the text between the quotes, in UTF-8
  string_token : List ℕ → Token
  -- without the zero byte at the end
  byte_string : List ℕ → Token
  -- whether it has a minus sign, and its digits' number
  integer_token : Bool → ℕ → Token
  type_token : Ty → Token
  word : Word → Token

-- a token and the bytes that it takes
pub record Placed : Type 0 where
  pub token : Token
  pub start : ℕ
  pub stop : ℕ
