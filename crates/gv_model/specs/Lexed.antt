-- The tokens of a text, computed.
use Rattle.std.specs.Prelude.{ℕ, zero, suc, ◌-◌, List, [], ◌∷◌, Option, Some, None, Result, Ok, Err, if◌then◌else◌}
use Rattle.gv_model.specs.TextFault.{Fault}
use Rattle.gv_model.specs.Tokens.{Placed}
use Rattle.gv_model.specs.Characters.{is_blank}
use Rattle.gv_model.specs.Lexing.{token_at}

abbrev pub Lexed : Type 0
Lexed = List Placed × Option Fault

-- what occurs at a place: a blank, or a token or a fault
pub data Lexeme : Type 0 where
  blank : Lexeme
  item : Result Placed Fault → Lexeme

abbrev pub lexeme_at : ℕ → ℕ → List ℕ → Lexeme
lexeme_at at c cs = if is_blank c then blank else item (token_at at c cs)

abbrev pub bytes_taken : ℕ → Lexeme → ℕ
bytes_taken at (item (Ok t)) = t.stop - suc at
bytes_taken at _ = 0

abbrev pub with_item : Lexeme → Lexed → Lexed
with_item blank rest = rest
with_item (item (Ok t)) rest = (t ∷ rest.0, rest.1)
with_item (item (Err e)) rest = ([], Some e)

-- from a place on, of which some bytes still belong to the token before
unfoldable pub lexed : ℕ → ℕ → List ℕ → Lexed
lexed at skip [] = ([], None)
lexed at (suc k) (c ∷ cs) = lexed (suc at) k cs
lexed at zero (c ∷ cs) = with_item (lexeme_at at c cs) (lexed (suc at) (bytes_taken at (lexeme_at at c cs)) cs)
