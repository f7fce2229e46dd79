-- The syntax tree of a text, or its first fault.
use Rattle.std.specs.Prelude.{◌≡◌, ◌≤◌, ℕ, List, length, map, Option, Some, None, Result, Ok, Err, slice_get}
use Rattle.gv_model.specs.Syntax.{Syntax, levels}
use Rattle.gv_model.specs.Tokens.{Token, Placed}
use Rattle.gv_model.specs.TextFault.{Cause, Fault}
use Rattle.gv_model.specs.Lexing.{Lexes}
use Rattle.gv_model.specs.Grammar.{tokens_of}
use Rattle.gv_model.specs.GrammarFaults.{NumberedFault, grammar_fault}

abbrev pub fault_at : ℕ → Cause → Option Placed → Fault
fault_at size cause None = record { cause = cause; start = size; stop = size }
fault_at size cause (Some t) = record { cause = cause; start = t.start; stop = t.stop }

-- The outcome of a text: its syntax tree, or its first fault, those of tokens before those of the grammar
abbrev pub kinds : List Placed → List Token
kinds ts = map (λ t. t.token) ts

pub record IsTree (text : List ℕ) (x : Syntax) : Type 0 where
  pub placed : List Placed
  pub lexes : Lexes 0 text placed None
  pub spells : tokens_of x ≡ kinds placed
  pub shallow : levels x ≤ 128

-- the fault of a text whose tokens go so far: that of the tokens, or else that of the grammar
abbrev pub IsParseFault : List ℕ → List Placed → Option Fault → Fault → Type 0
IsParseFault text placed (Some f) e = e ≡ f
IsParseFault text placed None e = (f : NumberedFault) × (grammar_fault (kinds placed) ≡ Some f) × (e ≡ fault_at (length text) f.0 (slice_get placed f.1))

pub record HasFault (text : List ℕ) (e : Fault) : Type 0 where
  pub placed : List Placed
  pub stopped : Option Fault
  pub lexes : Lexes 0 text placed stopped
  pub fault : IsParseFault text placed stopped e

abbrev pub Parses : List ℕ → Result Syntax Fault → Type 0
Parses text (Ok x) = IsTree text x
Parses text (Err e) = HasFault text e
