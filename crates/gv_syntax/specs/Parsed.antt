-- What reading a text gives.
use Rattle.std.specs.Prelude.{◌≡◌, ◌≤◌, List, [], ◌∷◌, ℕ, Some}
use Rattle.gv_model.specs.Syntax.{Syntax, levels}
use Rattle.gv_model.specs.Grammar.{tokens_of, text_bytes}
use Rattle.gv_model.specs.PlainTexts.{IsPlain}
use Rattle.gv_model.specs.Parsing.{HasFault}
use Rattle.gv_model.specs.GrammarFaults.Want.{a_value}
use Rattle.gv_syntax.specs.declared.token.Token.{Token}
use Rattle.refused.specs.declared.Refused.{Refused}
use Rattle.refused.specs.declared.Refused.TheVariants.{Fault}
use Rattle.refused.specs.Faults.{OfFault}
use Rattle.gv_syntax.specs.declared.fault.TextFlaw.{TextFlaw}
use Rattle.gv_syntax.specs.ModelTokens.{fault_at_span}
use Rattle.gv_syntax.specs.Expectations.{kinds_of, first_fault}

-- within the limits of depth and of a text's length, and without a zero byte in a string
pub record IsWithin (x : Syntax) : Type 0 where
  pub levels : levels x ≤ 128
  pub bytes : text_bytes x ≤ 16777216
  pub plain : IsPlain x

-- the first fault of a text; running out of memory is never the text's fault
abbrev pub IsTextFault : List ℕ → Refused TextFlaw → Type 0
IsTextFault text fault = OfFault (λ f. HasFault text (fault_at_span f.cause f.span)) fault

-- the tree of these tokens
pub record IsTreeOf (ts : List Token) (x : Syntax) : Type 0 where
  pub spells : tokens_of x ≡ kinds_of ts
  pub shallow : levels x ≤ 128

-- the first fault of these tokens, the text being so long
abbrev pub IsGrammarFault : ℕ → List Token → Refused TextFlaw → Type 0
IsGrammarFault length ts fault = OfFault (λ f. first_fault (record { start = length; end = length }) (a_value 1 ∷ []) ts ≡ Some (Fault f)) fault
