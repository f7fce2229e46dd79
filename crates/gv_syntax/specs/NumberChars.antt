-- How far a run of characters goes that is a number or none, and the word that names a type.
use Rattle.std.specs.Prelude.{ℕ, Bool, ◌==◌, ◌&&◌, ◌||◌, not}
use Rattle.gv_model.specs.Tokens.{Word}
use Rattle.gv_model.specs.Tokens.Word.{type_word}
use Rattle.gv_types.specs.Classes.{basic_of}
use Rattle.gv_types.specs.declared.class.BasicType.{BasicType}
use Rattle.gv_model.specs.Characters.{is_word_byte, is_sign, is_e}

-- the word of a type
abbrev pub named_type : BasicType → Word
named_type k = type_word (basic_of k)

-- after c the run takes d
abbrev pub goes_on : Bool → ℕ → ℕ → Bool
goes_on hex c d = is_word_byte d || d == 46 || (is_sign d && is_e c && not hex)
